-- `xml_escape::extra` meets its contract: by the arms of its three branches.
use mathlib.Core.Bool.{Bool, cond, ◌||◌}
use mathlib.Core.Path.{◌≡◌, ◌∙◌}
use Prim.Native.Nat.{ℕ, ◌≤◌}
use native.Mathlib.Omega.{arith}
use lib.Dec.{eqb}
use borrow.Author.Tests.{eq-eqb, ne_eqb}
use Rattle.xml_escape.specs.Extra.{extra}
use Rattle.xml_escape.proofs.extra.Goals as goal
use Rattle.xml_escape.proofs.extra.Goals.{then-b, else-b, then-b-2, else-b-2, then-b-eq38, else-b-eq38}

-- the arm of a test whose outcome is known
by : (n : ℕ) (t u : Bool) → t ≡ u → cond u n 0 ≡ cond t n 0
by n t u e = rw e

pub overflow_add-result : goal.overflow_add-result
overflow_add-result c =
    let p : c.if-b.angle ≤ 3 = elim c.if-b.branch [ then-b u ↦ rw u.angle-is (omega arith) | else-b u ↦ rw u.angle-is (omega arith) ] in
    let q : c.if-b-2.quote ≤ 5 = elim c.if-b-2.branch [ then-b-2 u ↦ rw u.quote-is (omega arith) | else-b-2 u ↦ rw u.quote-is (omega arith) ] in
    omega arith

pub overflow_add-result-2 : goal.overflow_add-result-2
overflow_add-result-2 c =
    let p : c.if-b.angle ≤ 3 = elim c.if-b.branch [ then-b u ↦ rw u.angle-is (omega arith) | else-b u ↦ rw u.angle-is (omega arith) ] in
    let q : c.if-b-2.quote ≤ 5 = elim c.if-b-2.branch [ then-b-2 u ↦ rw u.quote-is (omega arith) | else-b-2 u ↦ rw u.quote-is (omega arith) ] in
    let r : c.if-b-eq38.ampersand ≤ 4 = elim c.if-b-eq38.branch [ then-b-eq38 u ↦ rw u.ampersand-is (omega arith) | else-b-eq38 u ↦ rw u.ampersand-is (omega arith) ] in
    omega arith

pub returns : goal.returns
unfolding extra
returns c =
    let b = c.args.b in
    let angle = c.if-b in
    let quote = c.if-b-2 in
    let ampersand = c.if-b-eq38 in
    let p : angle.angle ≡ cond (eqb b 60 || eqb b 62) 3 0 = elim angle.branch [ then-b u ↦ u.angle-is ∙ by 3 _ _ u.if-b.true | else-b u ↦ u.angle-is ∙ by 3 _ _ u.if-b.false ] in
    let q : quote.quote ≡ cond (eqb b 34 || eqb b 39) 5 0 = elim quote.branch [ then-b-2 u ↦ u.quote-is ∙ by 5 _ _ u.if-b-2.true | else-b-2 u ↦ u.quote-is ∙ by 5 _ _ u.if-b-2.false ] in
    let r : ampersand.ampersand ≡ cond (eqb b 38) 4 0 =
    elim ampersand.branch [ then-b-eq38 u ↦ u.ampersand-is ∙ by 4 _ _ (eq-eqb _ _ u.if-b-eq38.true) | else-b-eq38 u ↦ u.ampersand-is ∙ by 4 _ _ (ne_eqb _ _ u.if-b-eq38.false) ] in
    rw (p, q, r)
