use Rattle.std.proofs.Common.{List, [], refl, sym, ap, ◌∙◌, ℕ}
use Rattle.nesting_spec.specs.OnePass.{rooted}
use Rattle.nesting.specs.Reading.{tags}
use Rattle.nesting.proofs.Walk.{rooted-end, rooted-turn, rooted-start, rooted-break}
use Rattle.nesting.proofs.roots.Goals as goal

pub returns-in-Some-element : goal.returns-in-Some-element
returns-in-Some-element c =
    let s = c.args.stores in
    c.closes.ensures s.first.now s.second.now
    ∙ sym (
    c.loop-row.invariant
    ∙ ap (λ (rows : List (List ℕ)). rooted (tags s.first.now s.second.now rows)) c.in-Some.ensures.cases.0
    ∙ rooted-start s.first.now s.second.now c.in-Some.row.now c.in-Some.after.now c.if-row-eq-START_TAG.true
    ∙ c.in-Some-element.ensures.passes [] refl
    )

pub returns-in-None : goal.returns-in-None
returns-in-None c =
    let s = c.args.stores in
    sym (
    c.loop-row.invariant
    ∙ ap (λ (rows : List (List ℕ)). rooted (tags s.first.now s.second.now rows)) c.in-Some.ensures.cases.0
    ∙ rooted-start s.first.now s.second.now c.in-Some.row.now c.in-Some.after.now c.if-row-eq-START_TAG.true
    ∙ c.in-None.ensures [] refl
    )

pub returns-then-not-stands_outside : goal.returns-then-not-stands_outside
returns-then-not-stands_outside c =
    let s = c.args.stores in
    sym (
    c.loop-row.invariant
    ∙ ap (λ (rows : List (List ℕ)). rooted (tags s.first.now s.second.now rows)) c.in-Some.ensures.cases.0
    ∙ rooted-break s.first.now s.second.now c.in-Some.row.now c.in-Some.after.now c.if-row-eq-START_TAG.false (sym c.stands_outside.ensures ∙ c.if-not-stands_outside.true)
    )

pub loop-row-preserved : goal.loop-row-preserved
loop-row-preserved c =
    let s = c.args.stores in
    c.loop-row.invariant
    ∙ ap (λ (rows : List (List ℕ)). rooted (tags s.first.now s.second.now rows)) c.in-Some.ensures.cases.0
    ∙ rooted-turn s.first.now s.second.now c.in-Some.row.now c.in-Some.after.now (sym c.stands_outside.ensures ∙ c.if-not-stands_outside.false)

pub returns : goal.returns
returns c = sym (c.loop-row.invariant ∙ rooted-end c.args.stores.first.now c.args.stores.second.now c.loop-row.rest.now c.in_default.ensures.cases)
