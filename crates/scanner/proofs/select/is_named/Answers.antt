use Rattle.std.proofs.Common.{ℕ, List, sym, ap, ◌∙◌}
use Rattle.event.specs.Span.{same}
use Rattle.scanner.proofs.Picking.{named_by, unnamed-by}
use Rattle.scanner.proofs.select.is_named.Goals as goal

pub returns-then-has_name : goal.returns-then-has_name
returns-then-has_name c =
    let a = c.args in
    named_by a.document.now a.name.now a.row.now _ (sym c.has_name.ensures ∙ c.if-has_name.true) (c.same_bytes.ensures ∙ ap (λ (x : List ℕ). same x a.name.now) c.text.ensures.bytes)

pub returns-else-has_name : goal.returns-else-has_name
returns-else-has_name c =
    let a = c.args in
    unnamed-by a.document.now a.name.now a.row.now _ (sym c.has_name.ensures ∙ c.if-has_name.false) c.is_empty.ensures
