use mathlib.Core.Path.{sym, ◌∙◌}
use Rattle.writer.proofs.Links.{recalled}
use Rattle.writer.proofs.Noting.{told_at, told-late}
use Rattle.writer.proofs.put.quick_known_name.Goals as goal

pub returns-then-i-names : goal.returns-then-i-names
returns-then-i-names c =
    let a = c.args in
    told_at a.first.now a.second.now a.w.now a.names a.notes.now a.heads.now (sym c.has_name.ensures ∙ c.if-has_name.true) _
    (recalled a.first.now a.second.now a.w.now a.notes.now _ (rw c.in-Some.is at c.recall.ensures)) c.if-i-names.true

pub returns-in-Some : goal.returns-in-Some
returns-in-Some c =
    let a = c.args in
    told-late a.first.now a.second.now a.w.now a.names a.notes.now a.heads.now (sym c.has_name.ensures ∙ c.if-has_name.true) _
    (recalled a.first.now a.second.now a.w.now a.notes.now _ (rw c.in-Some.is at c.recall.ensures)) c.if-i-names.false
