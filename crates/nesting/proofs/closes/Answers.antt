use Rattle.std.proofs.Common.{List, [], refl, sym, ap, ◌∙◌, ℕ}
use Rattle.nesting_spec.specs.OnePass.{nested}
use Rattle.nesting.specs.Reading.{tags}
use Rattle.nesting.proofs.Walk.{closed-end, closed-turn, closed-last, closed-break}
use Rattle.nesting.proofs.closes.Goals as goal

pub loop-row-init : goal.loop-row-init
loop-row-init c first second = refl

pub returns-then-row-eq-END_DOCUMENT : goal.returns-then-row-eq-END_DOCUMENT
returns-then-row-eq-END_DOCUMENT c first second =
    c.is_empty.ensures
    ∙ closed-last first second c.in-Some.row.now c.in-Some.after.now c.if-row-eq-END_DOCUMENT.true
    ∙ sym (c.loop-row.invariant first second ∙ ap (λ (rows : List (List ℕ)). nested (tags first second rows) []) c.in-Some.ensures.cases.0)

pub returns-then-not-stands_outside : goal.returns-then-not-stands_outside
returns-then-not-stands_outside c first second =
    sym (
    c.loop-row.invariant first second
    ∙ ap (λ (rows : List (List ℕ)). nested (tags first second rows) []) c.in-Some.ensures.cases.0
    ∙ closed-break first second c.in-Some.row.now c.in-Some.after.now c.if-row-eq-END_DOCUMENT.false (sym c.stands_outside.ensures ∙ c.if-not-stands_outside.true)
    )

pub loop-row-preserved : goal.loop-row-preserved
loop-row-preserved c first second =
    c.loop-row.invariant first second
    ∙ ap (λ (rows : List (List ℕ)). nested (tags first second rows) []) c.in-Some.ensures.cases.0
    ∙ closed-turn first second c.in-Some.row.now c.in-Some.after.now (sym c.stands_outside.ensures ∙ c.if-not-stands_outside.false)

pub returns : goal.returns
returns c first second = sym (c.loop-row.invariant first second ∙ closed-end first second c.loop-row.rest.now c.in_default.ensures.cases)
