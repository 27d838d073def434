-- Proofs by the outcome of a test.
use Rattle.std.specs.Prelude.{Bool, true, false, cond, ◌||◌, ◌≡◌, refl, ℕ, ◌*◌, ◌/◌, ltb}
use Rattle.std.proofs.Common.{true≢false, sym, ◌∙◌, arith, lt-ltb, le-ltb, ltb-true, ltb-false}

-- by a test, with its equation
abbrev pub by_test {ℓ} : {X : Type ℓ} (b : Bool) → (b ≡ true → X) → (b ≡ false → X) → X
by_test true f g = f refl
by_test false f g = g refl

-- a property of a choice, by its two sides
abbrev pub cond-by {ℓ κ} : {X : Type ℓ} (P : X → Type κ) (b : Bool) (x y : X) → (b ≡ true → P x) → (b ≡ false → P y) → P (cond b x y)
cond-by P true x y f g = f refl
cond-by P false x y f g = g refl

-- neither of two
pub neither : (a b : Bool) → (a || b) ≡ false → (a ≡ false) × (b ≡ false)
neither true b h = absurd (true≢false h)
neither false b h = (refl, h)

-- half of a number against another: so nothing is doubled
pub half-test : (n k : ℕ) → ltb (n / 2) k ≡ ltb n (2 * k)
half-test n k =
    by_test (ltb (n / 2) k)
    (λ a. a ∙ sym (lt-ltb n (2 * k) (let h = ltb-true (n / 2) k a in omega arith)))
    (λ a. a ∙ sym (le-ltb n (2 * k) (let h = ltb-false (n / 2) k a in omega arith)))
