-- What a test tells: by its two values, and where it is computed at each number below a bound.
-- Assumes nothing.
use Prim.Native.Nat.{ℕ, zero, suc, ◌<◌}
use native.Mathlib.Omega.{arith}
use native.Mathlib.Nat.{eq-or-lt_of_le, le_of_suc-le-suc}
use mathlib.Core.Path.{◌≡◌, refl, sym}
use mathlib.Core.Logic.{⊎_elim}
use mathlib.Core.Bool.{Bool, true, false, ◌&&◌, ◌||◌, beq, and-eq-true_iff, false≢true}

pub split : (P : Bool → Type 0) (b : Bool) → (b ≡ true → P true) → (b ≡ false → P false) → P b
split P true f g = f refl
split P false f g = g refl

pub neither : (p q : Bool) → (p || q) ≡ false → (p ≡ false) × (q ≡ false)
neither true q e = absurd (false≢true (sym e))
neither false q e = (refl, e)

pub beq→eq : (a b : Bool) → beq a b ≡ true → a ≡ b
beq→eq true true e = refl
beq→eq true false e = absurd (false≢true e)
beq→eq false true e = absurd (false≢true e)
beq→eq false false e = refl

abbrev pub below : ℕ → (ℕ → Bool) → Bool
below zero f = true
below (suc n) f = f n && below n f

pub at : (n : ℕ) (f : ℕ → Bool) → below n f ≡ true → (k : ℕ) → k < n → f k ≡ true
at zero f e k h = absurd (omega arith)
at (suc n) f e k h =
    let g = (and-eq-true_iff (f n) _).0 e in
    ⊎_elim (λ q. rw q g.0) (λ l. at n f g.1 k l) (eq-or-lt_of_le (le_of_suc-le-suc h))
