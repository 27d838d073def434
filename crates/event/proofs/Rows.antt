-- Words as whole rows of eight: which words a row has, and that its eight are all that is looked at.
use Rattle.std.proofs.Common.{Bool, List, ◌≡◌, refl, ap, ◌∙◌, ℕ, zero, suc, ◌*◌, ◌/◌, ◌<◌, Some, Bor, get_or, take, drop, length, arith}
use Rattle.std.proofs.lemmas.List.{drop-drop, get_or-take}
use Rattle.std.specs.Simd.{first_chunks}
use Rattle.std.specs.Slice.{IsItemAt}
use Rattle.event.specs.Words.{zeros, value_forms, attribute_forms, row_forms, row_forms_in}
use Rattle.event.specs.declared.Shape.{Shape}

pub row-of-words : (n k : ℕ) (w d : List ℕ) → k < n → get_or (first_chunks 8 n w) k d ≡ take 8 (drop (k * 8) w)
row-of-words zero k w d h = absurd (omega (arith, h))
row-of-words (suc n) zero w d h = refl
row-of-words (suc n) (suc k) w d h = row-of-words n k (drop 8 w) d (omega arith) ∙ ap (take 8) (drop-drop (k * 8) 8 w ∙ ap (λ (i : ℕ). drop i w) (omega arith))

-- a row that `get` found
pub row-found : (w : List ℕ) (k : ℕ) (row : Bor (List ℕ)) → IsItemAt (first_chunks 8 (length w / 8) w) k (Some row)
    → length (first_chunks 8 (length w / 8) w) ≡ length w / 8
    → (k < length w / 8) × (row.now ≡ take 8 (drop (k * 8) w))
row-found w k row found count =
    let below : k < length w / 8 = omega (arith, found, count) in
    (below, found.1 ∙ row-of-words (length w / 8) k w row.now below)

-- ---- the eight words

pub word-of-eight : (w : List ℕ) (i : ℕ) → i < 8 → get_or (take 8 w) i 0 ≡ get_or w i 0
word-of-eight w i h = get_or-take 8 w i 0 h

value-of-eight : (valued : Bool) (w : List ℕ) (s : Shape) → value_forms valued (take 8 w) s ≡ value_forms valued w s
unfolding value_forms zeros
value-of-eight valued w Shape.Nothing = rw (word-of-eight w 5 (omega arith), word-of-eight w 6 (omega arith), word-of-eight w 7 (omega arith))
value-of-eight valued w Shape.String = refl
value-of-eight valued w Shape.Interned = refl
value-of-eight valued w Shape.Blob = refl
value-of-eight valued w Shape.Word = rw (word-of-eight w 5 (omega arith), word-of-eight w 6 (omega arith))
value-of-eight valued w Shape.Pair = rw (word-of-eight w 5 (omega arith))
value-of-eight valued w Shape.Unknown = refl

pub attribute-of-eight : (named valued : Bool) (w : List ℕ) → attribute_forms named valued (take 8 w) ≡ attribute_forms named valued w
unfolding attribute_forms
attribute-of-eight named valued w = rw (value-of-eight, word-of-eight w 4 (omega arith))

pub forms-of-eight : (first second : List ℕ) (inside : Bool) (w : List ℕ) → row_forms_in first second inside (take 8 w) ≡ row_forms_in first second inside w
unfolding row_forms_in row_forms zeros
forms-of-eight first second inside w =
    rw (
      attribute-of-eight,
      word-of-eight w 0 (omega arith),
      word-of-eight w 1 (omega arith),
      word-of-eight w 2 (omega arith),
      word-of-eight w 3 (omega arith),
      word-of-eight w 4 (omega arith),
      word-of-eight w 5 (omega arith),
      word-of-eight w 6 (omega arith),
      word-of-eight w 7 (omega arith),
    )
