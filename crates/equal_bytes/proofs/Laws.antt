-- Words decide the equality of their bytes.
use Rattle.std.specs.Prelude.{Bool, true, false, List, [], ◌∷◌, ◌≡◌, refl, ℕ, suc, ◌<◌, eqb, length}
use Rattle.std.proofs.lemmas.Bool.{false≢true}
use Rattle.std.proofs.Common.{sym, ap, ◌∙◌, arith, eq-eqb, ne_eqb}
use Rattle.event.specs.Span.{same}
use Rattle.event.specs.Laws.{same-eq, same_refl}
use Rattle.equal_bytes.specs.Word.{word_of, Bytes}

-- words of as many bytes, eight or any other number, are equal only when their bytes are
word_bytes : (a b : List ℕ) → Bytes a → Bytes b → length a ≡ length b → word_of a ≡ word_of b → a ≡ b
unfolding word_of
word_bytes [] [] f g l e = refl
word_bytes [] (y ∷ b) f g l e = absurd (omega arith)
word_bytes (x ∷ a) [] f g l e = absurd (omega arith)
word_bytes (x ∷ a) (y ∷ b) f g l e =
    let p : x < 256 = f 0 in
    let q : y < 256 = g 0 in
    let first : x ≡ y = omega arith in
    let rest : a ≡ b = word_bytes a b (λ i. f (suc i)) (λ i. g (suc i)) (omega arith) (omega arith) in
    λ i. first i ∷ rest i

-- two words are equal exactly when their eight bytes are
pub words-exactly : (a b : List ℕ) → Bytes a → Bytes b → length a ≡ 8 → length b ≡ 8 → (word_of a ≡ word_of b → a ≡ b) × (a ≡ b → word_of a ≡ word_of b)
words-exactly a b f g l m = (word_bytes a b f g (l ∙ sym m), ap word_of)

-- the same of the tests: words are compared in place of their bytes
pub words_same : (a b : List ℕ) → Bytes a → Bytes b → length a ≡ 8 → length b ≡ 8 → eqb (word_of a) (word_of b) ≡ same a b
words_same a b f g l m = go (same a b) refl
  where
    go : (t : Bool) → same a b ≡ t → eqb (word_of a) (word_of b) ≡ t
    go true h = eq-eqb (word_of a) (word_of b) ((words-exactly a b f g l m).1 (same-eq a b h))
    go false h = ne_eqb (word_of a) (word_of b) (λ e. false≢true (sym h ∙ rw ((words-exactly a b f g l m).0 e) (same_refl b)))
