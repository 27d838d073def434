-- Turns of `same_bytes` and `same_rest`: what is left to compare from a place on, by single bytes and by words.
use Rattle.std.proofs.Common.{Bool, true, false, ◌&&◌, List, [], ◌∷◌, ◌++◌, ◌≡◌, refl, sym, ap, ◌∙◌, ℕ, zero, suc, ◌+◌, ◌≤◌, ◌<◌, add-one, arith, eq-eqb, ne_eqb, eqb, length, get_or, take, drop, length-drop, drop-cons, drop_of_length-le}
use Rattle.std.proofs.Math.Bool.{and-true, and-false, and_assoc}
use Rattle.std.proofs.lemmas.List.{drop-drop, get_or-drop, length-take-le, take-append-drop}
use Rattle.std.specs.Int.{from_le_bytes, w64}
use Rattle.event.specs.Span.{same}
use Rattle.equal_bytes.specs.Word.{word_of, Bytes}
use Rattle.equal_bytes.proofs.Laws.{words_same}

-- ---- single bytes

pub same_turn : (a b : List ℕ) (i : ℕ) → i < length a → i < length b
    → same (drop i a) (drop i b) ≡ (eqb (get_or a i 0) (get_or b i 0) && same (drop (i + 1) a) (drop (i + 1) b))
unfolding same
same_turn a b i ha hb = rw (add-one i, drop-cons a i 0 ha, drop-cons b i 0 hb)

pub same_end : (a b : List ℕ) (i : ℕ) → length a ≤ i → length b ≤ i → same (drop i a) (drop i b) ≡ true
unfolding same
same_end a b i ha hb = rw (drop_of_length-le a ha, drop_of_length-le b hb)

pub same-lengths : (a b : List ℕ) → (length a ≡ length b → ⊥) → same a b ≡ false
unfolding same
same-lengths [] [] h = absurd (h refl)
same-lengths [] (y ∷ b) h = refl
same-lengths (x ∷ a) [] h = refl
same-lengths (x ∷ a) (y ∷ b) h = rw (same-lengths a b (λ e. h (ap suc e))) (and-false (eqb x y))

-- equal bytes: what is left to compare comes after them
pub same-on : (a b : List ℕ) (i : ℕ) → i < length a → i < length b → get_or a i 0 ≡ get_or b i 0
    → same (drop i a) (drop i b) ≡ same (drop (i + 1) a) (drop (i + 1) b)
same-on a b i ha hb e = same_turn a b i ha hb ∙ rw (eq-eqb (get_or a i 0) (get_or b i 0) e)

-- other bytes
pub same-off : (a b : List ℕ) (i : ℕ) → i < length a → i < length b → (get_or a i 0 ≡ get_or b i 0 → ⊥)
    → same (drop i a) (drop i b) ≡ false
same-off a b i ha hb n = same_turn a b i ha hb ∙ rw (ne_eqb (get_or a i 0) (get_or b i 0) n)

pub same-on-two : (a b : List ℕ) (i : ℕ) → i + 1 < length a → i + 1 < length b → get_or a i 0 ≡ get_or b i 0 → get_or a (i + 1) 0 ≡ get_or b (i + 1) 0
    → same (drop i a) (drop i b) ≡ same (drop (i + 2) a) (drop (i + 2) b)
same-on-two a b i ha hb e f =
    let two : i + 2 ≡ i + 1 + 1 = omega arith in
    rw two (same-on a b i (omega arith) (omega arith) e ∙ same-on a b (i + 1) ha hb f)

-- the last bytes
pub same-last : (a b : List ℕ) (i : ℕ) → suc i ≡ length a → suc i ≡ length b
    → same (drop i a) (drop i b) ≡ eqb (get_or a i 0) (get_or b i 0)
same-last a b i ha hb =
    same_turn a b i (omega arith) (omega arith)
    ∙ rw (same_end a b (i + 1) (omega arith) (omega arith), and-true (eqb (get_or a i 0) (get_or b i 0)))

-- ---- words

-- what stands from a place on begins with its first bytes
byte-on : (s : List ℕ) (i j : ℕ) → j ≡ suc i → i < length s → drop i s ≡ get_or s i 0 ∷ drop j s
byte-on s i j e h = rw e (drop-cons s i 0 h)

four-on : (s : List ℕ) (at : ℕ) → at + 4 ≤ length s
    → drop at s ≡ get_or s at 0 ∷ get_or s (at + 1) 0 ∷ get_or s (at + 2) 0 ∷ get_or s (at + 3) 0 ∷ drop (at + 4) s
four-on s at h =
    byte-on s at (at + 1) (omega arith) (omega arith)
    ∙ rw (
      byte-on s (at + 1) (at + 2) (omega arith) (omega arith),
      byte-on s (at + 2) (at + 3) (omega arith) (omega arith),
      byte-on s (at + 3) (at + 4) (omega arith) (omega arith),
    )

-- what the library reads of eight bytes is their word
pub word-eight : (s : List ℕ) (at : ℕ) → at + 8 ≤ length s
    → from_le_bytes w64 (get_or s at 0 ∷ get_or s (at + 1) 0 ∷ get_or s (at + 2) 0 ∷ get_or s (at + 3) 0 ∷ get_or s (at + 4) 0 ∷ get_or s (at + 5) 0 ∷ get_or s (at + 6) 0 ∷ get_or s (at + 7) 0 ∷ [])
    ≡ word_of (take 8 (drop at s))
unfolding word_of
word-eight s at h =
    let five : at + 4 + 1 ≡ at + 5 = omega arith in
    let six : at + 4 + 2 ≡ at + 6 = omega arith in
    let seven : at + 4 + 3 ≡ at + 7 = omega arith in
    rw (four-on s at (omega arith), four-on s (at + 4) (omega arith), five, six, seven) (omega arith)

bytes_take : (n : ℕ) (s : List ℕ) → Bytes s → Bytes (take n s)
bytes_take zero s h i = omega arith
bytes_take (suc n) [] h i = omega arith
bytes_take (suc n) (x ∷ s) h zero = h 0
bytes_take (suc n) (x ∷ s) h (suc i) = bytes_take n s (λ j. h (suc j)) i

bytes_drop : (n : ℕ) (s : List ℕ) → Bytes s → Bytes (drop n s)
bytes_drop n s h i = rw (get_or-drop n s i 0) (h (n + i))

same_parts : (w v x y : List ℕ) → length w ≡ length v → same (w ++ x) (v ++ y) ≡ (same w v && same x y)
unfolding same
same_parts [] [] x y l = refl
same_parts [] (c ∷ v) x y l = absurd (omega arith)
same_parts (b ∷ w) [] x y l = absurd (omega arith)
same_parts (b ∷ w) (c ∷ v) x y l = rw (same_parts w v x y (omega arith)) (sym (and_assoc (eqb b c) (same w v) (same x y)))

module _ (s : List ℕ) (i : ℕ) (h : i + 8 ≤ length s) where
  eight : length (take 8 (drop i s)) ≡ 8
  eight = length-take-le 8 (drop i s) (omega (arith, length-drop i s))

  eight-on : drop i s ≡ take 8 (drop i s) ++ drop (i + 8) s
  eight-on = sym (take-append-drop 8 (drop i s)) ∙ rw (drop-drop 8 i s)

pub word-turn : (a b : List ℕ) (i : ℕ) → Bytes a → Bytes b → i + 8 ≤ length a → i + 8 ≤ length b
    → same (drop i a) (drop i b) ≡ (eqb (word_of (take 8 (drop i a))) (word_of (take 8 (drop i b))) && same (drop (i + 8) a) (drop (i + 8) b))
word-turn a b i fa fb ha hb =
    let words = words_same (take 8 (drop i a)) (take 8 (drop i b)) (bytes_take 8 (drop i a) (bytes_drop i a fa)) (bytes_take 8 (drop i b) (bytes_drop i b fb)) (eight a i ha) (eight b i hb) in
    ap (λ (x : List ℕ). same x (drop i b)) (eight-on a i ha)
    ∙ ap (λ (x : List ℕ). same (take 8 (drop i a) ++ drop (i + 8) a) x) (eight-on b i hb)
    ∙ same_parts (take 8 (drop i a)) (take 8 (drop i b)) (drop (i + 8) a) (drop (i + 8) b) (eight a i ha ∙ sym (eight b i hb))
    ∙ ap (λ (t : Bool). t && same (drop (i + 8) a) (drop (i + 8) b)) (sym words)
