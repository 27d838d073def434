use Rattle.std.proofs.Common.{Bool, true, false, cond, ◌≡◌, refl, sym, ap, ◌∙◌, ◌/◌, length, Ok}
use Rattle.nesting_spec.specs.Nesting.{nesting, document, yes, no}
use Rattle.nesting.specs.Answers.{nesting_of}
use Rattle.nesting.proofs.Walk.{rows-of-chunks}
use Rattle.nesting.proofs.nested.Goals as goal

pub returns-then-not-list_forms : goal.returns-then-not-list_forms
unfolding nesting
returns-then-not-list_forms c = rw (sym c.list_forms.ensures, c.if-not-list_forms.true) refl

answer-of : (nests : Bool) → nesting_of (Ok nests) ≡ cond nests yes no
answer-of true = refl
answer-of false = refl

pub returns : goal.returns
unfolding nesting
returns c =
    let a = c.args in
    let nests = (rw c.as_chunks.ensures.front at c.document_nests.ensures) ∙ ap document (rows-of-chunks a.first.now a.second.now (length a.rows.now / 8) a.rows.now) in
    rw (sym c.list_forms.ensures, c.if-not-list_forms.false, sym nests) (answer-of c.document_nests.result)
