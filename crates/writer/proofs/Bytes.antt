-- Bytes stored one part after another.
use mathlib.Core.Bool.{true, false}
use mathlib.Core.Option.{Option, none, some}
use mathlib.Core.List.{List, [], ◌∷◌, ◌++◌}
use mathlib.Core.Path.{◌≡◌, refl, sym, ap, ◌∙◌}
use Prim.Native.Nat.{ℕ, ◌+◌}
use native.Mathlib.Nat.{add-zero}
use native.Mathlib.Numerals.{add-one}
use native.Mathlib.Omega.{arith}
use lib.ListN.{length, get_or, set, length-append}
use lib.Seq.{sets}
use Rattle.wire.specs.Header.{be16}
use Rattle.wire.specs.Token.{interned_new}
use Rattle.event.specs.Span.{span}
use Rattle.event.specs.Row.{Row, has_name, row_at}
use Rattle.grammar.proofs.Stores.{sets-append}
use Rattle.writer_spec.specs.Encode.{sized, name_by, value_bytes, token_type}
use Rattle.writer.specs.Passes.{named_by, row_by, token_in}
use Rattle.writer.proofs.Values.{sized-length}

-- parts one after another
pub in-turn : (o o₁ o₂ a b : List ℕ) (at p : ℕ) → o₁ ≡ sets o at a → p ≡ at + length a → o₂ ≡ sets o₁ p b → o₂ ≡ sets o at (a ++ b)
in-turn o o₁ o₂ a b at p e q f = f ∙ rw (e, q) (sym (sets-append o at a b))

pub place_after : (a b : List ℕ) (at p q : ℕ) → p ≡ at + length a → q ≡ p + length b → q ≡ at + length (a ++ b)
place_after a b at p q e f = omega (arith, length-append a b)

pub sized-stored : (o o₁ o₂ s : List ℕ) (at : ℕ) → o₁ ≡ sets o at (be16 (length s)) → o₂ ≡ sets o₁ (at + 2) s → o₂ ≡ sets o at (sized s)
unfolding sized be16
sized-stored o o₁ o₂ s at e f = in-turn o o₁ o₂ (be16 (length s)) s at (at + 2) e refl f

pub sized-place : (s : List ℕ) (at : ℕ) → at + 2 + length s ≡ at + length (sized s)
sized-place s at = omega (arith, sized-length s)

-- ---- a row's parts

module _ (first second w : List ℕ) where
  abbrev pub row : Row
  row = row_at first second w

  pub named-at : (i : ℕ) → has_name (get_or w 0 0) ≡ true → named_by (some i) row ≡ be16 i
  unfolding named_by row_at name_by
  named-at i h = rw h

  pub named_new : has_name (get_or w 0 0) ≡ true → named_by none row ≡ be16 interned_new ++ sized (span first second (get_or w 1 0) (get_or w 2 0) (get_or w 3 0))
  unfolding named_by row_at name_by
  named_new h = rw h

  pub named-bare : (o : Option ℕ) → has_name (get_or w 0 0) ≡ false → named_by o row ≡ []
  unfolding named_by row_at
  named-bare o h = rw h

  pub row_is : (o : Option ℕ) → row_by o row ≡ token_in w ∷ (named_by o row ++ value_bytes row.value)
  unfolding row_by token_in token_type row_at
  row_is o = refl

  pub row-length : (o : Option ℕ) → length (row_by o row) ≡ 1 + (length (named_by o row) + length (value_bytes row.value))
  row-length o = ap length (row_is o) ∙ (let e = length-append (named_by o row) (value_bytes row.value) in omega arith)

pub nothing_stored : (o b : List ℕ) (at : ℕ) → b ≡ [] → (o ≡ sets o at b) × (at ≡ at + length b)
nothing_stored o b at e = rw e (refl, sym (add-zero at))

pub row-stored : (o o₁ o₂ a b : List ℕ) (at token p q : ℕ) → o₁ ≡ sets (set o at token) (at + 1) a → p ≡ at + 1 + length a → o₂ ≡ sets o₁ p b
    → q ≡ p + length b → (o₂ ≡ sets o at (token ∷ (a ++ b))) × (q ≡ at + length (token ∷ (a ++ b)))
row-stored o o₁ o₂ a b at token p q e d f g =
    (in-turn (set o at token) o₁ o₂ a b (at + 1) p e d f ∙ ap (λ (i : ℕ). sets (set o at token) i (a ++ b)) (add-one at), omega (arith, length-append a b))
