use Rattle.std.proofs.Common.{List, ℕ, ap, ◌∙◌, arith}
use Rattle.slice_spec.specs.Slice.{next_from}
use Rattle.slice.specs.Answers.{place_of}
use Rattle.slice.proofs.Onward.{quick-sums, quick-goes}
use Rattle.slice.proofs.next_from.Goals as goal

pub overflow_add-result : goal.overflow_add-result
overflow_add-result c =
    let a = c.args in
    omega (arith, quick-sums (place_of a.place) a.document.now a.pool.now a.rows.now _ _ c.requires c.in-Some.ensures, c.requires.document-small)

pub returns-in-Some : goal.returns-in-Some
returns-in-Some c =
    let a = c.args in
    quick-goes (place_of a.place) a.document.now a.pool.now a.rows.now _ _ c.requires c.in-Some.ensures

pub returns-in-None : goal.returns-in-None
returns-in-None c =
    let a = c.args in
    c.next_read.ensures ∙ ap (λ (w : List ℕ). next_from (place_of a.place) a.document.now a.pool.now w) c.in-None.ensures
