-- How far a long text has been read.
-- Assumes nothing.
use Prim.Native.Nat.{ℕ, ◌+◌, ◌-◌, ◌≤◌}
use native.Mathlib.Omega.{arith}
use mathlib.Core.Path.{◌≡◌, refl, sym, ◌∙◌, ap}
use mathlib.Core.Bool.{Bool, true, false, not}
use mathlib.Core.List.{List}
use lib.ListN.{length, take}
use Rattle.utf8.specs.Utf8.{well_formed}
use Rattle.utf8.specs.Reading.{due_at, after, Ascii, Scan}
use Rattle.utf8.proofs.After.{ends, enter, over-ascii}

-- s is read up to k, and what comes after decides; p says whether a tail is due
pub record Place (s : List ℕ) (k : ℕ) (p : Bool) : Type 0 where
  pub far : 3 ≤ k
  pub inside : k ≤ length s
  pub due : p ≡ due_at s (k - 3)
  pub same : well_formed s ≡ after s (k - 3)

module _ (s : List ℕ) where
  pub start : (k : ℕ) → 3 ≤ k → k ≤ length s → well_formed (take k s) ≡ true → Place s k false
  start k l m w =
      let q : k - 3 + 3 ≡ k = omega arith in
      let e = enter s (k - 3) (omega arith) (rw q w) in
      record { far = l; inside = m; due = sym e.0; same = e.1 }

  pub past_ascii : (k j : ℕ) (p : Bool) → Place s k p → p ≡ false → Ascii s k j → Place s j p
  past_ascii k j p a d b =
      let q : k - 3 + 3 ≡ k = omega arith in
      let r : j - 3 + 3 ≡ j = omega arith in
      let e = over-ascii s (k - 3) (j - 3) (rw (q, r) b) (sym a.due ∙ d) in
      record { far = omega arith; inside = b.inside; due = d ∙ sym e.0; same = a.same ∙ sym e.1 }

  pub past-block : (k i n j : ℕ) (p r : Bool) → Place s k p → Scan s i n r → r ≡ false
      → i ≤ k - 3 → k ≤ j → j ≡ i + n + 3 → j ≤ length s → Place s j (due_at s (j - 3))
  past-block k i n j p r a b e l m q h =
      let q0 : k - 3 ≡ i + (k - 3 - i) = omega arith in
      let q1 : j - 3 ≡ i + n = omega arith in
      record {
        far = omega arith;
        inside = h;
        due = refl;
        same = a.same ∙ rw (q0, q1) (b.clean e (k - 3 - i) (omega arith) ∙ sym (b.clean e n (omega arith)));
      }

  pub at-end : (k : ℕ) (p : Bool) → Place s k p → k ≡ length s → well_formed s ≡ not p
  at-end k p a q = a.same ∙ ends s (k - 3) (omega arith) ∙ ap not (sym a.due)
