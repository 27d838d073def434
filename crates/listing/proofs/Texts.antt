-- Laws of the listing's text.
use Rattle.std.proofs.Common.{Bool, true, false, List, [], ◌∷◌, ◌++◌, ◌≡◌, ◌≢◌, ◌⊎◌, inl, inr, refl, sym, ap, ◌∙◌, ℕ, ◌+◌, ◌-◌, ◌/◌, ◌%◌, ◌≤◌, ◌<◌, cond, arith, eq-eqb, ne_eqb, eqb-true, eqb, suc, length, get_or, take, drop, length-append, length-drop, take_all, Option, Some, None, Bor}
use native.Mathlib.Nat.{suc-ne-zero}
use Rattle.std.proofs.lemmas.Bool.{false≢true}
use Rattle.wire.specs.Header.{be32}
use Rattle.wire.specs.Token.{attribute}
use Rattle.event.specs.Span.{span}
use Rattle.event.specs.Row.{has_name, shape, value_at, row_at}
use Rattle.event.specs.declared.Shape.{Shape}
use Rattle.text.specs.Numerals.{digit, hex}
use Rattle.text.specs.Laws.{numeral-one, numeral-more, hex-length}
use Rattle.listing.specs.Text.{newline, space, dash, equals, decimal, field}
use Rattle.listing.specs.Line.{type_text, value_text, columns, line, end_word, end_line, refused_word, refused_line, Left, put}
use Rattle.listing.specs.Columns.{shown, IsShort, columns_shown}

-- how many digits there are, where they end a list of 20
pub digits_long : (bytes : List ℕ) (start n : ℕ) → drop start bytes ≡ decimal n → length bytes ≡ 20 → 20 - start ≡ length (decimal n)
digits_long bytes start n e l = sym (ap (λ (k : ℕ). k - start) l) ∙ sym (length-drop start bytes) ∙ ap length e

pub digits-part : (bytes : List ℕ) (start n : ℕ) → drop start bytes ≡ decimal n → length bytes ≡ 20 → take (20 - start) (drop start bytes) ≡ decimal n
digits-part bytes start n e l = take_all (20 - start) (drop start bytes) (omega (arith, length-drop start bytes)) ∙ e

pub two_digits : (n : ℕ) → 10 ≤ n → n < 100 → decimal n ≡ digit (n / 10) ∷ digit (n % 10) ∷ []
two_digits n h k = numeral-more 10 n (omega arith) h ∙ ap (λ (t : List ℕ). t ++ (digit (n % 10) ∷ [])) (numeral-one 10 (n / 10) (omega arith))

-- ---- names and values

pub shown-none : (f : Option (Bor (List ℕ))) → f ≡ None → shown f ≡ dash ∷ []
unfolding field
shown-none f e = rw e

empty : (s : List ℕ) → true ≡ eqb (length s) 0 → field true s ≡ equals ∷ []
unfolding field
empty [] h = refl
empty (b ∷ s) h = absurd (suc-ne-zero (length s) (eqb-true (suc (length s)) 0 (sym h)))

pub shown-empty : (f : Option (Bor (List ℕ))) (s : Bor (List ℕ)) → f ≡ Some s → true ≡ eqb (length s.now) 0 → shown f ≡ equals ∷ []
shown-empty f s e h = rw e (empty s.now h)

filled : (s : List ℕ) → false ≡ eqb (length s) 0 → field true s ≡ hex s
unfolding field
filled [] h = absurd (false≢true h)
filled (b ∷ s) h = refl

pub shown-hex : (f : Option (Bor (List ℕ))) (s : Bor (List ℕ)) → f ≡ Some s → false ≡ eqb (length s.now) 0 → shown f ≡ hex s.now
shown-hex f s e h = rw e (filled s.now h)

short : (s : List ℕ) → length s < 4294967296 → length (field true s) < 8589934592
unfolding field
short [] h = omega arith
short (b ∷ s) h = omega (arith, hex-length (b ∷ s))

-- a name or value of few bytes is a short column
pub shown-short : (f : Option (Bor (List ℕ))) → IsShort f → length (shown f) < 8589934592
unfolding field
shown-short None h = omega arith
shown-short (Some s) h = short s.now h

-- ---- the last lines

pub end-length : (events : ℕ) → length (end_line events) ≡ length (decimal events) + 5
unfolding end_line
end-length events =
    omega
    (arith, length-append (end_word ++ decimal events) (newline ∷ []), length-append end_word (decimal events))

pub refused-length : (number detail : ℕ) → length (refused_line number detail) ≡ length (decimal number) + length (decimal detail) + 10
unfolding refused_line
refused-length number detail =
    omega (
      arith,
      length-append (refused_word ++ decimal number ++ (space ∷ decimal detail)) (newline ∷ []),
      length-append (refused_word ++ decimal number) (space ∷ decimal detail),
      length-append refused_word (decimal number),
    )

-- ---- columns

named : (b : Bool) (s : List ℕ) → field b (cond b s []) ≡ field b s
unfolding field
named true s = refl
named false s = refl

module _ (first second w : List ℕ) where
  -- the line of a row, by its name and value as they are shown
  line-is : line (row_at first second w)
      ≡ columns_shown (get_or w 0 0) (field (has_name (get_or w 0 0)) (span first second (get_or w 1 0) (get_or w 2 0) (get_or w 3 0))) (get_or w 4 0)
      (value_text (value_at first second (get_or w 5 0) (get_or w 6 0) (get_or w 7 0) (shape (get_or w 4 0))))
  unfolding line row_at columns columns_shown
  line-is = rw (named (has_name (get_or w 0 0)) (span first second (get_or w 1 0) (get_or w 2 0) (get_or w 3 0)))

  pub row_put : (name value out : List ℕ) (x : Left) → x ≡ put (columns_shown (get_or w 0 0) name (get_or w 4 0) value) out
      → name ≡ field (has_name (get_or w 0 0)) (span first second (get_or w 1 0) (get_or w 2 0) (get_or w 3 0))
      → value ≡ value_text (value_at first second (get_or w 5 0) (get_or w 6 0) (get_or w 7 0) (shape (get_or w 4 0)))
      → x ≡ put (line (row_at first second w)) out
  row_put name value out x e n v = rw line-is (e ∙ rw (n, v))

  -- a value by the shape of its type
  abbrev value_here : List ℕ
  value_here = value_text (value_at first second (get_or w 5 0) (get_or w 6 0) (get_or w 7 0) (shape (get_or w 4 0)))

  pub value-bytes : (h : Shape) → (h ≡ Shape.String) ⊎ (h ≡ Shape.Blob) → h ≡ shape (get_or w 4 0)
      → field true (span first second (get_or w 5 0) (get_or w 6 0) (get_or w 7 0)) ≡ value_here
  unfolding value_text value_at
  value-bytes h (inl i) e = rw (← e, i)
  value-bytes h (inr i) e = rw (← e, i)

  pub value-word : (h : Shape) → h ≡ Shape.Word → h ≡ shape (get_or w 4 0) → field true (be32 (get_or w 7 0)) ≡ value_here
  unfolding value_text value_at
  value-word h i e = rw (← e, i)

  pub value-pair : (h : Shape) → h ≡ Shape.Pair → h ≡ shape (get_or w 4 0) → field true (be32 (get_or w 6 0) ++ be32 (get_or w 7 0)) ≡ value_here
  unfolding value_text value_at
  value-pair h i e = rw (← e, i)

  pub value-none : (h : Shape) → (h ≡ Shape.Nothing) ⊎ (h ≡ Shape.Interned) ⊎ (h ≡ Shape.Unknown) → h ≡ shape (get_or w 4 0) → field false [] ≡ value_here
  unfolding value_text value_at field
  value-none h (inl i) e = rw (← e, i)
  value-none h (inr (inl i)) e = rw (← e, i)
  value-none h (inr (inr i)) e = rw (← e, i)

pub type-shown : (kind type : ℕ) → kind ≡ attribute → type_text kind type ≡ decimal type
unfolding type_text
type-shown kind type e = rw (eq-eqb kind attribute e)

pub type-hidden : (kind type : ℕ) → kind ≢ attribute → type_text kind type ≡ dash ∷ []
unfolding type_text
type-hidden kind type e = rw (ne_eqb kind attribute e)

pub columns-length : (kind type : ℕ) (name value : List ℕ)
    → length (columns_shown kind name type value) ≡ length (decimal kind) + length name + length (type_text kind type) + length value + 4
unfolding columns_shown
columns-length kind type name value =
    omega (
      arith,
      length-append (decimal kind ++ (space ∷ name) ++ (space ∷ type_text kind type) ++ (space ∷ value)) (newline ∷ []),
      length-append (decimal kind ++ (space ∷ name) ++ (space ∷ type_text kind type)) (space ∷ value),
      length-append (decimal kind ++ (space ∷ name)) (space ∷ type_text kind type),
      length-append (decimal kind) (space ∷ name),
    )
