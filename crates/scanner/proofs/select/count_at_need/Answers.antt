use Rattle.std.proofs.Common.{refl, sym, ap, ◌∙◌, ℕ, ◌+◌, le-ltb, ltb}
use Rattle.scanner.specs.Select.{place_of}
use Rattle.scanner.proofs.Picking.{surely}
use Rattle.scanner.proofs.select.count_at_need.Goals as goal

pub returns-then-is_short : goal.returns-then-is_short
returns-then-is_short c =
    let a = c.args in
    record { rows = ap (λ (n : ℕ). ltb a.room (a.written + n)) c.count_taken.ensures.rows; names = c.count_taken.ensures.names }

pub returns : goal.returns
returns c =
    let a = c.args in
    let enough = sym c.is_short.ensures ∙ c.if-is_short.false in
    let sure = ap (λ (n : ℕ). ltb a.room (a.written + n)) (sym c.most_taken-most.ensures) ∙ enough in
    record { rows = enough ∙ sym (le-ltb a.room (a.written + _) (surely a.start.document.now (place_of a.start.at a.start.names) a.table.now a.extent.rows a.extent.added c.requires a.wanted.query a.wanted.element.now a.wanted.name.now a.room a.written sure)); names = refl }
