-- Texts put one after another, and the answer when all are.
use mathlib.Core.List.{List, [], ◌∷◌, ◌++◌}
use mathlib.Core.Path.{◌≡◌, ap, ◌∙◌}
use Prim.Native.Nat.{ℕ, ◌≤◌, ◌<◌}
use native.Mathlib.Nat.{zero-add}
use native.Mathlib.Omega.{arith}
use borrow.Author.Tests.{le-leb, lt-leb}
use lib.ListN.{length, drop}
use lib.Seq.{sets-eq}
use Rattle.wire.specs.Refusal.{output_full}
use Rattle.text.specs.Put.{Put}
use Rattle.text.specs.PutLaws.{put_both, after-within}
use Rattle.listing.specs.Text.{newline, space, decimal}
use Rattle.listing.specs.Columns.{columns_shown}
use Rattle.listing.specs.Line.{wrote, refused, type_text, end_word, end_line, refused_word, refused_line, put}

-- a text after a space
pub spaced : (o o₁ o₂ : List ℕ) (at p q : ℕ) (a b : List ℕ) → Put o at (space ∷ []) o₁ p → Put o₁ p a o₂ q → b ≡ a → Put o at (space ∷ b) o₂ q
spaced o o₁ o₂ at p q a b s t e = rw e (put_both o at (space ∷ []) a o₁ o₂ p q s t)

pub columns-put : (kind type : ℕ) (name value o o₁ o₂ o₃ o₄ o₅ : List ℕ) (p q r s t : ℕ) → Put o 0 (decimal kind) o₁ p
    → Put o₁ p (space ∷ name) o₂ q → Put o₂ q (space ∷ type_text kind type) o₃ r → Put o₃ r (space ∷ value) o₄ s
    → Put o₄ s (newline ∷ []) o₅ t → Put o 0 (columns_shown kind name type value) o₅ t
unfolding columns_shown
columns-put kind type name value o o₁ o₂ o₃ o₄ o₅ p q r s t a b c d e =
    put_both o 0 _ _ o₄ o₅ s t (put_both o 0 _ _ o₃ o₄ r s (put_both o 0 _ _ o₂ o₃ q r (put_both o 0 _ _ o₁ o₂ p q a b) c) d) e

-- ---- the last lines

pub end-put : (events : ℕ) (o o₁ o₂ o₃ : List ℕ) (p q r : ℕ) → Put o 0 end_word o₁ p → Put o₁ p (decimal events) o₂ q → Put o₂ q (newline ∷ []) o₃ r
    → Put o 0 (end_line events) o₃ r
unfolding end_line
end-put events o o₁ o₂ o₃ p q r a b c = put_both o 0 _ _ o₂ o₃ q r (put_both o 0 _ _ o₁ o₂ p q a b) c

pub refused-put : (number detail : ℕ) (o o₁ o₂ o₃ o₄ o₅ : List ℕ) (p q r s t : ℕ) → Put o 0 refused_word o₁ p → Put o₁ p (decimal number) o₂ q
    → Put o₂ q (space ∷ []) o₃ r → Put o₃ r (decimal detail) o₄ s → Put o₄ s (newline ∷ []) o₅ t → Put o 0 (refused_line number detail) o₅ t
unfolding refused_line
refused-put number detail o o₁ o₂ o₃ o₄ o₅ p q r s t a b c d e =
    put_both o 0 _ _ o₄ o₅ s t (put_both o 0 _ _ o₂ o₄ q s (put_both o 0 _ _ o₁ o₂ p q a b) (put_both o₂ q _ _ o₃ o₄ r s c d)) e

-- ---- the answer

pub put-fits : (text out out' : List ℕ) (n : ℕ) → length text ≤ length out → Put out 0 text out' n → record { reply = wrote n; out = out' } ≡ put text out
unfolding put
put-fits text out out' n h p =
    let all : out' ≡ text ++ drop (length text) out =
    p.text ∙ sets-eq text out 0 (omega arith) ∙ ap (λ (k : ℕ). text ++ drop k out) (zero-add (length text))
    in
    let whole : n ≡ length text = p.place ∙ after-within (length out) 0 (length text) (omega arith) ∙ zero-add (length text) in
    rw (le-leb (length text) (length out) h, whole, all)

pub put-short : (text out : List ℕ) → length out < length text → record { reply = refused output_full 0; out = out } ≡ put text out
unfolding put
put-short text out h = rw (lt-leb (length text) (length out) h)
