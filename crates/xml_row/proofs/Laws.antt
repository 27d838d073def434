-- What the words of a row say of its text.
use mathlib.Core.Bool.{Bool, true, false, cond}
use mathlib.Core.Logic.{◌⊎◌, inl, inr}
use mathlib.Core.List.{List, [], ◌++◌}
use mathlib.Core.Path.{◌≡◌, refl, sym, ap, ◌∙◌}
use Prim.Native.Nat.{ℕ, zero, suc, ◌+◌, ◌*◌, ◌-◌, ◌/◌, ◌%◌, ◌≤◌, ◌<◌}
use native.Mathlib.Omega.{arith}
use borrow.Author.Tests.{lt-ltb, le-ltb, ne_eqb}
use lib.Dec.{ltb, eqb}
use lib.ListN.{length, get_or, take, drop, length-append, length-drop}
use lib.Seq.{take_all}
use Rattle.event.specs.Span.{span, value_in}
use Rattle.event.specs.Row as Row
use Rattle.event.specs.Row.{shape, has_name, value_at, row_at}
use Rattle.event.specs.declared.Shape.{Shape}
use Rattle.event.specs.declared.Shape.TheVariants as S
use Rattle.text.specs.Ascii.{ascii}
use Rattle.text.specs.Numerals.{numeral}
use Rattle.text.specs.Put.{after}
use Rattle.text.specs.PutLaws.{after-after}
use Rattle.xml_spec.specs.Xml.{value_xml, attribute_xml, text_of, text_xml}
use Rattle.xml_spec.specs.Rows.{closing, row_xml}
use Rattle.xml_row.specs.Numbers.{signed_by}
use Rattle.xml_row.specs.Texts.{marks}

-- ---- places

pub after_two : (limit at a b e r : ℕ) → e ≡ after limit at a → r ≡ after limit e b → r ≡ after limit at (a + b)
after_two limit at a b e r f g = g ∙ ap (λ (k : ℕ). after limit k b) f ∙ after-after limit at a b

pub twice : (n : ℕ) → n + n ≡ n * 2
twice n = omega arith

-- three bytes are a group, and so are one or two that are left
pub groups-are : (n g : ℕ) → ((n % 3 ≡ 0) × (g ≡ n / 3)) ⊎ ((n % 3 ≡ 0 → ⊥) × (g ≡ n / 3 + 1)) → g + g + g + g ≡ (n + 2) / 3 * 4
groups-are n g (inl h) = omega (arith, h.0, h.1)
groups-are n g (inr h) = some (n % 3) refl
  where
    some : (k : ℕ) → n % 3 ≡ k → g + g + g + g ≡ (n + 2) / 3 * 4
    some zero e = absurd (h.0 e)
    some (suc k) e = omega (arith, e, h.1)

-- ---- numbers

-- the digits stand from a start on in 20 bytes
pub digits-part : (start : ℕ) (bytes t : List ℕ) → drop start bytes ≡ t → length bytes ≡ 20 → take (20 - start) (drop start bytes) ≡ t
digits-part start bytes t e n = take_all (20 - start) (drop start bytes) (omega (arith, length-drop start bytes, n)) ∙ e

pub signed-length : (base size start : ℕ) (bytes : List ℕ) (negative : Bool) → drop start bytes ≡ numeral base size → start < 20 → length bytes ≡ 20
    → length (signed_by base negative size) ≡ cond negative (20 - start + 1) (20 - start)
unfolding signed_by
signed-length base size start bytes true e l n = let d = ap length e in omega (arith, d, length-drop start bytes, n)
signed-length base size start bytes false e l n = sym (ap length e) ∙ omega (arith, length-drop start bytes, n)

-- ---- texts

between : (a t b : List ℕ) → length (a ++ t ++ b) ≡ length t + (length a + length b)
between a t b = omega (arith, length-append (a ++ t) b, length-append a t)

pub text-length : (kind : ℕ) (t : List ℕ) → (kind ≡ 4 → ⊥) → length (text_xml kind t) ≡ length t + marks kind
unfolding text_xml marks
text-length kind t n = rw (ne_eqb kind 4 n) (go (eqb kind 5) (eqb kind 6) (eqb kind 7) (eqb kind 8) (eqb kind 9))
  where
    go : (cdata entity ignorable instruction comment : Bool)
        → length (cond cdata (ascii "<![CDATA[" ++ t ++ ascii "]]>") (cond entity (ascii "&" ++ t ++ ascii ";") (cond ignorable t (cond instruction (ascii "<?" ++ t ++ ascii "?>") (cond comment (ascii "<!--" ++ t ++ ascii "-->") (ascii "<!DOCTYPE " ++ t ++ ascii ">"))))))
        ≡ length t + cond cdata 12 (cond entity 2 (cond ignorable 0 (cond instruction 4 (cond comment 7 11))))
    go true e i p c = between (ascii "<![CDATA[") t (ascii "]]>")
    go false true i p c = between (ascii "&") t (ascii ";")
    go false false true p c = omega arith
    go false false false true c = between (ascii "<?") t (ascii "?>")
    go false false false false true = between (ascii "<!--") t (ascii "-->")
    go false false false false false = between (ascii "<!DOCTYPE ") t (ascii ">")

module _ (first second w : List ℕ) where
  -- ---- values

  pub value_of : (h : Shape) → shape (get_or w 4 0) ≡ h → (row_at first second w).value ≡ value_at first second (get_or w 5 0) (get_or w 6 0) (get_or w 7 0) h
  unfolding row_at
  value_of h e = rw e

  -- the arms of a match on a shape
  pub no-value : (h : Shape) → ((h ≡ S.Nothing) ⊎ ((h ≡ S.Interned) ⊎ (h ≡ S.Unknown))) → shape (get_or w 4 0) ≡ h → (row_at first second w).value ≡ Row.nothing
  unfolding row_at value_at
  no-value h (inl e) s = rw (s ∙ e)
  no-value h (inr (inl e)) s = rw (s ∙ e)
  no-value h (inr (inr e)) s = rw (s ∙ e)

  pub bytes-value : (h : Shape) → ((h ≡ S.String) ⊎ (h ≡ S.Blob)) → shape (get_or w 4 0) ≡ h → (row_at first second w).value ≡ Row.bytes (value_in first second w)
  unfolding row_at value_at
  bytes-value h (inl e) s = rw (s ∙ e)
  bytes-value h (inr e) s = rw (s ∙ e)

  pub no-text : (h : Shape) → ((h ≡ S.Nothing) ⊎ ((h ≡ S.Interned) ⊎ ((h ≡ S.Word) ⊎ ((h ≡ S.Pair) ⊎ (h ≡ S.Unknown))))) → shape (get_or w 4 0) ≡ h → text_of (row_at first second w).value ≡ []
  unfolding row_at value_at
  no-text h (inl e) s = rw (s ∙ e)
  no-text h (inr (inl e)) s = rw (s ∙ e)
  no-text h (inr (inr (inl e))) s = rw (s ∙ e)
  no-text h (inr (inr (inr (inl e)))) s = rw (s ∙ e)
  no-text h (inr (inr (inr (inr e)))) s = rw (s ∙ e)

  -- ---- names

  pub attribute-of : has_name (get_or w 0 0) ≡ true
      → attribute_xml (row_at first second w)
      ≡ ascii " " ++ span first second (get_or w 1 0) (get_or w 2 0) (get_or w 3 0) ++ ascii "=\"" ++ value_xml (get_or w 4 0) (row_at first second w).value ++ ascii "\""
  unfolding row_at attribute_xml
  attribute-of h = rw h

  pub attribute-length : has_name (get_or w 0 0) ≡ true
      → length (attribute_xml (row_at first second w)) ≡ length (span first second (get_or w 1 0) (get_or w 2 0) (get_or w 3 0)) + 3 + length (value_xml (get_or w 4 0) (row_at first second w).value) + 1
  attribute-length h = ap length (attribute-of h) ∙ lengths (span first second (get_or w 1 0) (get_or w 2 0) (get_or w 3 0)) (value_xml (get_or w 4 0) (row_at first second w).value)
    where
      lengths : (n v : List ℕ) → length (ascii " " ++ n ++ ascii "=\"" ++ v ++ ascii "\"") ≡ length n + 3 + length v + 1
      lengths n v =
          omega (arith, length-append (ascii " " ++ n ++ ascii "=\"" ++ v) (ascii "\""), length-append (ascii " " ++ n ++ ascii "=\"") v, length-append (ascii " " ++ n) (ascii "=\""), length-append (ascii " ") n)

  -- ---- rows

  pub row-none : (last : Bool) → get_or w 0 0 < 2 → row_xml last (row_at first second w) ≡ []
  unfolding row_at row_xml
  row-none last h = rw (lt-ltb (get_or w 0 0) 2 h)

  pub row-start : (last : Bool) → get_or w 0 0 ≡ 2 → row_xml last (row_at first second w) ≡ ascii "<" ++ span first second (get_or w 1 0) (get_or w 2 0) (get_or w 3 0) ++ closing last
  unfolding row_at row_xml has_name
  row-start last h = rw h

  pub row-end : (last : Bool) → get_or w 0 0 ≡ 3 → row_xml last (row_at first second w) ≡ ascii "</" ++ span first second (get_or w 1 0) (get_or w 2 0) (get_or w 3 0) ++ ascii ">"
  unfolding row_at row_xml has_name
  row-end last h = rw h

  pub start-length : (last : Bool) → get_or w 0 0 ≡ 2
      → length (row_xml last (row_at first second w)) ≡ length (span first second (get_or w 1 0) (get_or w 2 0) (get_or w 3 0)) + 1 + length (closing last)
  start-length last h = ap length (row-start last h) ∙ lengths (span first second (get_or w 1 0) (get_or w 2 0) (get_or w 3 0)) (closing last)
    where
      lengths : (n c : List ℕ) → length (ascii "<" ++ n ++ c) ≡ length n + 1 + length c
      lengths n c = omega (arith, length-append (ascii "<" ++ n) c, length-append (ascii "<") n)

  pub end-length : (last : Bool) → get_or w 0 0 ≡ 3 → length (row_xml last (row_at first second w)) ≡ length (span first second (get_or w 1 0) (get_or w 2 0) (get_or w 3 0)) + 3
  end-length last h = ap length (row-end last h) ∙ between (ascii "</") (span first second (get_or w 1 0) (get_or w 2 0) (get_or w 3 0)) (ascii ">")

  kind-of : (row_at first second w).kind ≡ get_or w 0 0
  unfolding row_at
  kind-of = refl

  pub row-attribute : (last : Bool) → get_or w 0 0 ≡ 15 → row_xml last (row_at first second w) ≡ attribute_xml (row_at first second w) ++ closing last
  unfolding row_xml
  row-attribute last h = let t = tests (row_at first second w).kind (kind-of ∙ h) in rw (t.0, t.1, t.2, t.3)
    where
      tests : (k : ℕ) → k ≡ 15 → (ltb k 2 ≡ false) × (eqb k 2 ≡ false) × (eqb k 3 ≡ false) × (eqb k 15 ≡ true)
      tests k e = rw e (refl, refl, refl, refl)

  pub row-text : (last : Bool) → 3 < get_or w 0 0 → (get_or w 0 0 ≡ 15 → ⊥)
      → row_xml last (row_at first second w) ≡ text_xml (get_or w 0 0) (text_of (row_at first second w).value)
  unfolding row_at row_xml
  row-text last a d = rw (le-ltb (get_or w 0 0) 2 (omega arith), ne_eqb (get_or w 0 0) 2 (omega arith), ne_eqb (get_or w 0 0) 3 (omega arith), ne_eqb (get_or w 0 0) 15 d)
