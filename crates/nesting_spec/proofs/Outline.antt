-- Attributes have no part in nesting: without them a list nests as it does with them.
use Rattle.std.specs.Prelude.{Bool, true, false, cond, ◌||◌, not, ◌≡◌, ℕ, ◌/◌, ◌<◌, eqb, length}
use Rattle.std.proofs.lemmas.Bool.{false≢true, eqb-false}
use mathlib.Core.List.{List, [], ◌∷◌, map}
use Rattle.std.proofs.Math.Path.{refl}
use Rattle.std.proofs.Common.{sym, ◌∙◌, arith, eqb-true, ne_eqb}
use Rattle.wire.specs.Token.{start_document, end_document, start_tag, end_tag, attribute}
use Rattle.event.specs.Laws.{both}
use Rattle.event.specs.Row.{Row, rows_at}
use Rattle.event.specs.Words.{opens, list_forms}
use Rattle.event.specs.Attributes.{placed, list-placed}
use Rattle.grammar.proofs.Choice.{by_test}
use Rattle.nesting_spec.specs.Nesting.{Name, document}
use Rattle.nesting_spec.specs.OnePass.{Tag, outside, tag_of, none, nested, rooted, begun, passes}
use Rattle.nesting_spec.proofs.KindLaws.{by_kind, begun_kept, tag-begins, tag-ends, tag-start, tag-end, tag-anywhere, tag-inside}
use Rattle.nesting_spec.proofs.Agreement.{document-passes}

unfoldable pub without_attributes : List Row → List Row
without_attributes [] = []
without_attributes (r ∷ rest) = cond (eqb r.kind attribute) (without_attributes rest) (r ∷ without_attributes rest)

-- ---- one row

module _ (r : Row) (rest : List Row) where
  kept : (eqb r.kind attribute ≡ false) → without_attributes (r ∷ rest) ≡ r ∷ without_attributes rest
  unfolding without_attributes
  kept e = rw e

  left_out : r.kind ≡ attribute → without_attributes (r ∷ rest) ≡ without_attributes rest
  unfolding without_attributes
  left_out e = rw e

  placed-next : (inside : Bool) → placed inside (r ∷ rest) ≡ true → placed (opens r.kind) rest ≡ true
  unfolding placed
  placed-next inside h = (both (not (eqb r.kind attribute) || inside) (placed (opens r.kind) rest) h).1

  placed-under : (inside : Bool) → r.kind ≡ attribute → placed inside (r ∷ rest) ≡ true → inside ≡ true
  unfolding placed
  placed-under inside e h = (both inside (placed (opens attribute) rest) (rw e at h)).0

-- the first row of a list is no attribute
first-kept : (r : Row) (rest : List Row) → placed false (r ∷ rest) ≡ true → eqb r.kind attribute ≡ false
first-kept r rest p =
    by_test (eqb r.kind attribute) (λ e. absurd (false≢true (placed-under r rest false (eqb-true r.kind attribute e) p))) (λ e. e)

-- no row follows, with attributes or without
none_kept : (rest : List Row) → placed false rest ≡ true → none (map tag_of (without_attributes rest)) ≡ none (map tag_of rest)
unfolding none
none_kept [] p = unfold without_attributes in refl
none_kept (r ∷ rest) p = rw (kept r rest (first-kept r rest p))

-- no attribute may stand after a row that is neither a start tag nor an attribute
closed : (r : Row) → (r.kind ≡ start_tag → ⊥) → eqb r.kind attribute ≡ false → opens r.kind ≡ false
unfolding opens
closed r s e = rw (ne_eqb r.kind start_tag s, e)

-- where an attribute may stand a tag is open
abbrev Some : Bool → List Name → Type 0
Some inside names = inside ≡ true → 0 < length names

-- a row that stays, before tags that nest alike
module _ (r : Row) (stays : eqb r.kind attribute ≡ false) (a b : List Tag) (alike : (names : List Name) → Some (opens r.kind) names → nested a names ≡ nested b names) where
  alike-closed : (r.kind ≡ start_tag → ⊥) → (names : List Name) → nested a names ≡ nested b names
  alike-closed s names = alike names (λ o. absurd (false≢true (sym (closed r s stays) ∙ o)))

  step : (names : List Name) → (r.kind ≡ end_document → none a ≡ none b) → nested (tag_of r ∷ a) names ≡ nested (tag_of r ∷ b) names
  unfolding nested
  step [] last =
      by_kind r.kind
      (λ e. rw (tag-begins r e))
      (λ e. rw (tag-ends r e) (last e))
      (λ e. rw (tag-start r e))
      (λ e. rw (tag-end r e))
      (λ h.
      by_test (outside r.kind)
      (λ o. rw (tag-anywhere r h o) (alike-closed (λ e. omega arith) []))
      (λ o. rw (tag-inside r h o)))
  step (m ∷ names) last =
      by_kind r.kind
      (λ e. rw (tag-begins r e))
      (λ e. rw (tag-ends r e))
      (λ e. rw (tag-start r e, alike (r.name ∷ m ∷ names) (λ o. omega arith)))
      (λ e. rw (tag-end r e, alike-closed (λ q. omega arith) names))
      (λ h.
      by_test (outside r.kind)
      (λ o. rw (tag-anywhere r h o) (alike-closed (λ e. omega arith) (m ∷ names)))
      (λ o. rw (tag-inside r h o) (alike-closed (λ e. omega arith) (m ∷ names))))

  -- before the outermost element
  rooted-step : (end_tag < r.kind → rooted a ≡ rooted b) → rooted (tag_of r ∷ a) ≡ rooted (tag_of r ∷ b)
  unfolding rooted
  rooted-step q =
      by_kind r.kind
      (λ e. rw (tag-begins r e))
      (λ e. rw (tag-ends r e))
      (λ e. rw (tag-start r e) (alike (r.name ∷ []) (λ o. omega arith)))
      (λ e. rw (tag-end r e))
      (λ h.
      by_test (outside r.kind)
      (λ o. rw (tag-anywhere r h o) (q h))
      (λ o. rw (tag-inside r h o)))

-- an attribute is passed over
under : (r : Row) (rest : List Row) (inside : Bool) (names : List Name) → r.kind ≡ attribute → placed inside (r ∷ rest) ≡ true → Some inside names
    → nested (map tag_of rest) names ≡ nested (map tag_of (r ∷ rest)) names
unfolding nested
under r rest inside [] e p s = absurd (let some = s (placed-under r rest inside e p) in omega arith)
under r rest inside (m ∷ names) e p s = rw (tag-inside r (omega arith) (rw e))

nested-kept : (rows : List Row) (inside : Bool) (names : List Name) → placed inside rows ≡ true → Some inside names
    → nested (map tag_of (without_attributes rows)) names ≡ nested (map tag_of rows) names
nested-kept [] inside names p s = unfold without_attributes in refl
nested-kept (r ∷ rest) inside names p s =
    by_test (eqb r.kind attribute)
    (λ b.
    let e = eqb-true r.kind attribute b in
    rw (left_out r rest e) (nested-kept rest (opens r.kind) names (placed-next r rest inside p) (λ o. s (placed-under r rest inside e p)) ∙ under r rest inside names e p s))
    (λ b.
    rw (kept r rest b)
    (step r b (map tag_of (without_attributes rest)) (map tag_of rest) (λ more q. nested-kept rest (opens r.kind) more (placed-next r rest inside p) q) names
    (λ e. none_kept rest (rw (closed r (λ q. omega arith) b) at (placed-next r rest inside p)))))

rooted-kept : (rows : List Row) → placed false rows ≡ true → rooted (map tag_of (without_attributes rows)) ≡ rooted (map tag_of rows)
rooted-kept [] p = unfold without_attributes in refl
rooted-kept (r ∷ rest) p =
    let stays = first-kept r rest p in
    let next = placed-next r rest false p in
    rw (kept r rest stays)
    (rooted-step r stays (map tag_of (without_attributes rest)) (map tag_of rest) (λ names s. nested-kept rest (opens r.kind) names next s)
    (λ h. rooted-kept rest (rw (closed r (λ e. omega arith) stays) at next)))

pub document-kept : (rows : List Row) → placed false rows ≡ true → document (without_attributes rows) ≡ document rows
unfolding passes begun
document-kept [] p = unfold without_attributes in refl
document-kept (r ∷ rest) p =
    let stays = first-kept r rest p in
    document-passes (without_attributes (r ∷ rest))
    ∙ rw (kept r rest stays)
    (by_test (eqb r.kind start_document)
    (λ b.
    let e = eqb-true r.kind start_document b in
    rw (tag-begins r e) (rooted-kept rest (rw (closed r (λ q. omega arith) stays) at (placed-next r rest false p))))
    (λ b.
    let other = eqb-false r.kind start_document b in
    rw (begun_kept r (map tag_of (without_attributes rest)) other, begun_kept r (map tag_of rest) other) (rw (kept r rest stays) at (rooted-kept (r ∷ rest) p))))
    ∙ sym (document-passes (r ∷ rest))

pub outline : (first second w : List ℕ) → list_forms first second w ≡ true
    → document (without_attributes (rows_at first second (length w / 8) w)) ≡ document (rows_at first second (length w / 8) w)
outline first second w h = document-kept (rows_at first second (length w / 8) w) (list-placed first second w h)
