use Rattle.std.proofs.Common.{sym, ◌∙◌, eqb-true}
use Rattle.event.specs.Laws.{both}
use Rattle.nesting.proofs.Walk.{equal-spans}
use Rattle.nesting.proofs.same_names.Goals as goal

pub returns-then-eq : goal.returns-then-eq
returns-then-eq c =
    let a = c.args in
    let equal = rw (c.of_name-a.ensures.source, c.of_name-a.ensures.start, c.of_name-a.ensures.len, c.of_name-b.ensures.source, c.of_name-b.ensures.start, c.of_name-b.ensures.len) at c.eq.ensures in
    let one = both _ _ (sym equal ∙ c.if-eq.true) in
    let two = both _ _ one.1 in
    c.if-eq.true
    ∙ sym (equal-spans a.stores.first.now a.stores.second.now a.a.now a.b.now (eqb-true _ _ one.0) (eqb-true _ _ two.0) (eqb-true _ _ two.1))
