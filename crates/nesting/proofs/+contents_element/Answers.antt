use Rattle.std.proofs.Common.{List, refl, sym, ap, ◌∙◌, ℕ, [], get_or, arith}
use Rattle.nesting_spec.specs.OnePass.{nested}
use Rattle.nesting.specs.Reading.{tags}
use Rattle.nesting.proofs.Walk.{passes-other, breaks-document, opens-element, deep, inner, unclosed, other_name, closed}
use Rattle.nesting.proofs.+contents_element.Goals as goal

pub contents-loop-row-init : goal.contents-loop-row-init
contents-loop-row-init t c = (omega arith, λ names e. refl)

pub contents-returns-in-3 : goal.contents-returns-in-3
contents-returns-in-3 t c =
    let l = c.loop-row in
    let first = c.in-Some.ensures.cases.0 in
    record {
      shorter = l.invariant.0;
      tag = λ row after e. ap (λ (rows : List (List ℕ)). get_or (get_or rows 0 []) 0 0) (sym e ∙ first) ∙ c.in-3.is;
      passes = l.invariant.1;
    }

pub contents-loop-row-preserved-in-2 : goal.contents-loop-row-preserved-in-2
contents-loop-row-preserved-in-2 t c =
    let a = c.args in
    let s = a.stores in
    let l = c.loop-row in
    let first = c.in-Some.ensures.cases in
    let m = c.in_ok-rest-in-2.ensures in (
      omega (arith, l.invariant.0, first.1, m.shorter),
      λ names e.
          l.invariant.1 names e
          ∙ ap (λ (rows : List (List ℕ)). nested (tags s.first.now s.second.now rows) names) first.0
          ∙ opens-element s.first.now s.second.now c.in-Some.row.now c.in-Some.after.now a.opened (omega arith) c.in-2.is names e
          ∙ m.passes names e,
    )

pub contents-returns-in_err-rest-in-2 : goal.contents-returns-in_err-rest-in-2
contents-returns-in_err-rest-in-2 t c =
    let a = c.args in
    let s = a.stores in
    let b = c.in_err-rest-in-2.ensures in
    rw c.from_residual.ensures
    (λ names e.
    c.loop-row.invariant.1 names e
    ∙ ap (λ (rows : List (List ℕ)). nested (tags s.first.now s.second.now rows) names) c.in-Some.ensures.cases.0
    ∙ opens-element s.first.now s.second.now c.in-Some.row.now c.in-Some.after.now a.opened (omega arith) c.in-2.is names e
    ∙ b names e)

pub contents-returns-in-0 : goal.contents-returns-in-0
contents-returns-in-0 t c names e =
    let a = c.args in
    let s = a.stores in
    c.loop-row.invariant.1 names e
    ∙ ap (λ (rows : List (List ℕ)). nested (tags s.first.now s.second.now rows) names) c.in-Some.ensures.cases.0
    ∙ breaks-document s.first.now s.second.now c.in-Some.row.now c.in-Some.after.now a.opened (omega arith) (omega arith) names e

pub contents-loop-row-preserved : goal.contents-loop-row-preserved
contents-loop-row-preserved t c =
    let a = c.args in
    let s = a.stores in
    let l = c.loop-row in
    let first = c.in-Some.ensures.cases in (
      omega (arith, l.invariant.0, first.1),
      λ names e.
          l.invariant.1 names e
          ∙ ap (λ (rows : List (List ℕ)). nested (tags s.first.now s.second.now rows) names) first.0
          ∙ passes-other s.first.now s.second.now c.in-Some.row.now c.in-Some.after.now a.opened (omega arith) (omega arith) names e,
    )

pub element-returns-then-opened-ge-DEPTH : goal.element-returns-then-opened-ge-DEPTH
element-returns-then-opened-ge-DEPTH t c =
    let a = c.args in
    deep a.stores.first.now a.stores.second.now a.start.now a.rows.now a.opened (omega arith)

pub element-returns-in_err-rest : goal.element-returns-in_err-rest
element-returns-in_err-rest t c =
    let a = c.args in
    rw c.from_residual.ensures (inner a.stores.first.now a.stores.second.now a.start.now a.rows.now a.opened (omega arith) c.in_err-rest.ensures)

pub element-returns-in_err-end : goal.element-returns-in_err-end
element-returns-in_err-end t c =
    let a = c.args in
    rw c.from_residual-in_err-end.ensures
    (unclosed a.stores.first.now a.stores.second.now a.start.now a.rows.now a.opened (omega arith) c.in_ok-rest.rest.now c.in_ok-rest.ensures c.in_err-end.ensures.cases)

pub element-returns-then-same_names : goal.element-returns-then-same_names
element-returns-then-same_names t c =
    let a = c.args in
    closed a.stores.first.now a.stores.second.now a.start.now a.rows.now a.opened (omega arith) c.in_ok-rest.rest.now c.in_ok-rest.ensures c.in_ok-end.end.now c.in_ok-end.after.now c.in_ok-end.ensures.cases.0
    (sym c.same_names.ensures ∙ c.if-same_names.true)

pub element-returns-else-same_names : goal.element-returns-else-same_names
element-returns-else-same_names t c =
    let a = c.args in
    other_name a.stores.first.now a.stores.second.now a.start.now a.rows.now a.opened (omega arith) c.in_ok-rest.rest.now c.in_ok-rest.ensures c.in_ok-end.end.now c.in_ok-end.after.now c.in_ok-end.ensures.cases.0
    (sym c.same_names.ensures ∙ c.if-same_names.false)
