-- The words of an attribute's value, by its type.
use Rattle.std.proofs.Common.{Bool, true, false, cond, List, [], ◌∷◌, ◌≡◌, refl, sym, ap, ◌∙◌, ℕ, zero, suc, ◌+◌, ◌-◌, ◌≤◌, ◌<◌, get_or, eqb, eqb-true, ne_eqb, arith}
use Rattle.std.proofs.lemmas.Bool.{eqb-false}
use Rattle.std.proofs.lemmas.List.{get_or-drop}
use Rattle.event.specs.Row.{shapes, shape}
use Rattle.event.specs.Words.{one_of, zeros, value_forms}
use Rattle.event.specs.declared.Shape.{Shape}

-- past the last type that is known
shape-above : (type : ℕ) → 14 ≤ type → shape type ≡ Shape.Unknown
unfolding shapes shape
shape-above type h =
    let e : type ≡ 14 + (type - 14) = omega arith in
    ap (λ (t : ℕ). get_or shapes t Shape.Unknown) e ∙ sym (get_or-drop 14 shapes (type - 14) Shape.Unknown) ∙ two (type - 14)
  where
    two : (k : ℕ) → get_or (Shape.Unknown ∷ Shape.Unknown ∷ []) k Shape.Unknown ≡ Shape.Unknown
    two zero = refl
    two (suc zero) = refl
    two (suc (suc k)) = refl

-- none of the numbers from 1 to n, as the last arm of a match on these hands it over
abbrev Nots : ℕ → ℕ → Type 0
Nots zero x = Unit {0}
Nots (suc n) x = Nots n x × (x ≡ suc n → ⊥)

above : (n x : ℕ) → Nots n x → 0 < x → n < x
above zero x h some = some
above (suc n) x h some = omega (arith, above n x h.0 some, h.1)

shape-other : (type : ℕ) → Nots 13 type → shape type ≡ Shape.Unknown
unfolding shapes shape
shape-other zero h = refl
shape-other (suc t) h = shape-above (suc t) (above 13 (suc t) h (omega arith))

module _ (valued : Bool) (w : List ℕ) where
  -- as the code asks, kind by kind
  abbrev by_types : ℕ → Bool
  by_types type =
      cond (one_of type 2 4 5) valued (cond (one_of type 8 9 11) (zeros w 5 1) (cond (one_of type 6 7 10) (zeros w 5 2) (cond (one_of type 1 12 13) (zeros w 5 3) false)))

  abbrev Right : ℕ → Type 0
  Right type = by_types type ≡ value_forms valued w (shape type)

  step : (type k : ℕ) → Right k → ((type ≡ k → ⊥) → Right type) → Right type
  step type k p q = by (eqb type k) (λ e. rw (eqb-true type k e) p) (λ e. q (eqb-false type k e))
    where
      by : (b : Bool) → (b ≡ true → Right type) → (b ≡ false → Right type) → Right type
      by true f g = f refl
      by false f g = g refl

  other : (type : ℕ) → Nots 13 type → Right type
  unfolding one_of value_forms
  other t n =
      rw (
        shape-other t n,
        ne_eqb t 1 n.0.0.0.0.0.0.0.0.0.0.0.0.1,
        ne_eqb t 2 n.0.0.0.0.0.0.0.0.0.0.0.1,
        ne_eqb t 4 n.0.0.0.0.0.0.0.0.0.1,
        ne_eqb t 5 n.0.0.0.0.0.0.0.0.1,
        ne_eqb t 6 n.0.0.0.0.0.0.0.1,
        ne_eqb t 7 n.0.0.0.0.0.0.1,
        ne_eqb t 8 n.0.0.0.0.0.1,
        ne_eqb t 9 n.0.0.0.0.1,
        ne_eqb t 10 n.0.0.0.1,
        ne_eqb t 11 n.0.0.1,
        ne_eqb t 12 n.0.1,
        ne_eqb t 13 n.1,
      )

  -- each type in turn
  pub by-type : (type : ℕ) → Right type
  unfolding one_of value_forms shape shapes
  by-type t =
      step t 1 refl (λ a. step t 2 refl (λ b. step t 3 refl (λ c. step t 4 refl (λ d. step t 5 refl (λ e. step t 6 refl (λ f. step t 7 refl (λ g.
      step t 8 refl (λ h. step t 9 refl (λ i. step t 10 refl (λ j. step t 11 refl (λ k. step t 12 refl (λ l. step t 13 refl (λ m.
      other t (((((((((((((tt, a), b), c), d), e), f), g), h), i), j), k), l), m))))))))))))))
