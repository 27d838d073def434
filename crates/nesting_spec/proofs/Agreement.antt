-- The one pass takes exactly the nested documents.
use Rattle.std.specs.Prelude.{Bool, true, cond, ◌&&◌, List, [], ◌∷◌, ◌++◌, map, ◌≡◌, ltb, leb, length, take}
use Rattle.std.proofs.Math.Bool.{false, and_assoc}
use Rattle.std.proofs.Math.Path.{refl}
use Rattle.std.proofs.Common.{sym, ◌∙◌, arith}
use Prim.Native.Nat.{ℕ, suc, ◌-◌, ◌<◌}
use borrow.Author.Tests.{leb-true, lt-leb, eqb-true, eqb-false, ne_eqb}
use Rattle.std.proofs.Math.Dec.{eqb}
use Rattle.wire.specs.Token.{start_document, end_document, start_tag, end_tag}
use Rattle.event.specs.Span.{same}
use Rattle.event.specs.Row.{Row}
use Rattle.grammar.proofs.Choice.{by_test}
use Rattle.nesting_spec.specs.Nesting.{Name, depth, after, innermost, fits, balanced, outer, count, among, all_among, may_stand, kinds, ends_last, every, document}
use Rattle.nesting_spec.specs.OnePass.{outside, tag_of, none, nested, rooted, begun, passes}
use Rattle.nesting_spec.proofs.KindLaws.{by_kind, begun_kept, tag-begins, tag-ends, tag-start, tag-end, tag-anywhere, tag-inside}

-- the rules for the rows after some others, where these tags are open and so many outermost elements are to come
abbrev Left : ℕ → List Row → List Name → Bool
Left n rows names =
    every
    (balanced rows names
    ∷ eqb (count start_tag (outer rows names)) n
    ∷ all_among (outer rows names) may_stand
    ∷ eqb (count start_document (kinds rows)) 0
    ∷ ends_last rows
    ∷ [])

-- an EndDocument has no row after it
ends-turn : (r : Row) (rest : List Row) → ends_last (r ∷ rest) ≡ cond (eqb r.kind end_document) (none (map tag_of rest)) (ends_last rest)
unfolding count none
ends-turn r [] = by (eqb r.kind end_document)
  where
    by : (b : Bool) → true ≡ cond b true true
    by true = refl
    by false = refl
ends-turn r (q ∷ rest) =
    let two : suc (suc (length rest)) - 1 ≡ suc (length rest) = omega arith in
    let one : suc (length rest) - 1 ≡ length rest = omega arith in
    rw (two, one) (by (eqb r.kind end_document) (count end_document (kinds (take (length rest) (q ∷ rest)))))
  where
    by : (b : Bool) (n : ℕ) → eqb (cond b (suc n) n) 0 ≡ cond b false (eqb n 0)
    by true n = ne_eqb (suc n) 0 (λ e. omega arith)
    by false n = refl

-- of what is neither an element's tag nor a document's
among-outside : (k : ℕ) → end_tag < k → among k may_stand ≡ outside k
unfolding among
among-outside k h =
    by_test (eqb k 7) (λ e. rw (eqb-true k 7 e))
    (λ a. by_test (eqb k 8) (λ e. rw (eqb-true k 8 e))
    (λ b. by_test (eqb k 9) (λ e. rw (eqb-true k 9 e))
    (λ c. by_test (eqb k 10) (λ e. rw (eqb-true k 10 e))
    (λ d.
    let none = no_other (eqb-false k 7 a) (eqb-false k 8 b) (eqb-false k 9 c) (eqb-false k 10 d) in
    rw (a, b, c, d, ne_eqb k 0 (λ e. omega arith), ne_eqb k 1 (λ e. omega arith), ne_eqb k 2 (λ e. omega arith)) (sym none)))))
  where
    no_other : (k ≡ 7 → ⊥) → (k ≡ 8 → ⊥) → (k ≡ 9 → ⊥) → (k ≡ 10 → ⊥) → outside k ≡ false
    no_other a b c d =
        by_test (leb 7 k)
        (λ l. let m = leb-true 7 k l in rw (l, lt-leb k 10 (omega arith)))
        (λ l. rw l)

every-false : (before after : List Bool) → every (before ++ (false ∷ after)) ≡ false
unfolding every
every-false [] after = refl
every-false (true ∷ before) after = every-false before after
every-false (false ∷ before) after = refl

eqb-suc : (c : ℕ) → eqb (suc c) 1 ≡ eqb c 0
eqb-suc c =
    by_test (eqb c 0) (λ e. rw (eqb-true c 0 e))
    (λ e. let some = eqb-false c 0 e in ne_eqb (suc c) 1 (λ q. some (omega arith)) ∙ sym e)

-- ---- a row by its kind

module _ (n : ℕ) (r : Row) (rest : List Row) where
  left-begins : r.kind ≡ start_document → (names : List Name) → Left n (r ∷ rest) names ≡ false
  unfolding count
  left-begins e names = rw here (every-false (_ ∷ _ ∷ _ ∷ []) _)
    where
      here : eqb (count start_document (kinds (r ∷ rest))) 0 ≡ false
      here = rw e (ne_eqb (suc (count start_document (kinds rest))) 0 (λ q. omega arith))

  -- where rows follow an EndDocument
  left-more : r.kind ≡ end_document → (names : List Name) → none (map tag_of rest) ≡ false → Left n (r ∷ rest) names ≡ false
  left-more e names h = rw (ends-turn r rest, e, h) (every-false (_ ∷ _ ∷ _ ∷ _ ∷ []) [])

  left_end : r.kind ≡ end_tag → Left n (r ∷ rest) [] ≡ false
  unfolding after innermost fits balanced every
  left_end e = rw e

  left-close : r.kind ≡ end_tag → (m : Name) (names : List Name) → Left n (r ∷ rest) (m ∷ names) ≡ (same m r.name && Left n rest names)
  unfolding after innermost fits balanced outer count every
  left-close e m names = rw (ends-turn r rest, e) (and_assoc (same m r.name) (balanced rest names) _)

  left_other : end_tag < r.kind → (m : Name) (names : List Name) → Left n (r ∷ rest) (m ∷ names) ≡ Left n rest (m ∷ names)
  unfolding after innermost fits balanced outer count
  left_other h m names =
      let k : ℕ = r.kind in
      rw (ends-turn r rest, ne_eqb k 0 (λ e. omega arith), ne_eqb k 1 (λ e. omega arith), ne_eqb k 2 (λ e. omega arith), ne_eqb k 3 (λ e. omega arith))

  outer-kept : end_tag < r.kind → outer (r ∷ rest) [] ≡ r.kind ∷ outer rest []
  unfolding outer after
  outer-kept h = let k : ℕ = r.kind in rw (ne_eqb k 2 (λ e. omega arith), ne_eqb k 3 (λ e. omega arith))

  left-outside : end_tag < r.kind → outside r.kind ≡ true → Left n (r ∷ rest) [] ≡ Left n rest []
  unfolding after innermost fits balanced count all_among
  left-outside h o =
      let k : ℕ = r.kind in
      rw (ends-turn r rest, outer-kept h, ne_eqb k 0 (λ e. omega arith), ne_eqb k 1 (λ e. omega arith), ne_eqb k 2 (λ e. omega arith), ne_eqb k 3 (λ e. omega arith), among-outside k h ∙ o)

  left-inside : end_tag < r.kind → outside r.kind ≡ false → Left n (r ∷ rest) [] ≡ false
  unfolding all_among
  left-inside h o = rw (outer-kept h, among-outside r.kind h ∙ o) (every-false (_ ∷ _ ∷ []) _)

  -- with none open and none to come, an element is one too many
  left-start : r.kind ≡ start_tag → n ≡ 0 → Left n (r ∷ rest) [] ≡ false
  unfolding after outer count
  left-start e z = rw here (every-false (_ ∷ []) _)
    where
      here : eqb (count start_tag (outer (r ∷ rest) [])) n ≡ false
      here = rw (e, z) (ne_eqb (suc (count start_tag (outer rest (r.name ∷ [])))) 0 (λ q. omega arith))

  left-root : r.kind ≡ start_tag → Left 1 (r ∷ rest) [] ≡ Left 0 rest (r.name ∷ [])
  unfolding after innermost fits balanced outer count all_among among
  left-root e = rw (ends-turn r rest, e, eqb-suc (count start_tag (outer rest (r.name ∷ []))))

  left-deeper : r.kind ≡ start_tag → (m : Name) (names : List Name)
      → Left n (r ∷ rest) (m ∷ names) ≡ (ltb (length (m ∷ names)) depth && Left n rest (r.name ∷ m ∷ names))
  unfolding after innermost fits balanced outer count every
  left-deeper e m names =
      rw (ends-turn r rest, e) (and_assoc (ltb (length (m ∷ names)) depth) (balanced rest (r.name ∷ m ∷ names)) _)

-- EndDocument: with none open it is the last row, and elsewhere it leaves a tag open or has rows after it
left-ends : (r : Row) (rest : List Row) → r.kind ≡ end_document → Left 0 (r ∷ rest) [] ≡ none (map tag_of rest)
unfolding after innermost fits balanced outer count all_among among every none
left-ends r [] e = rw e
left-ends r (q ∷ rest) e = left-more 0 r (q ∷ rest) e [] (unfold none in refl)

left-early : (n : ℕ) (r : Row) (rest : List Row) → r.kind ≡ end_document → (m : Name) (names : List Name) → Left n (r ∷ rest) (m ∷ names) ≡ false
unfolding after innermost fits balanced every
left-early n r [] e m names = rw (e, ne_eqb (suc (length names)) 0 (λ q. omega arith))
left-early n r (q ∷ rest) e m names = left-more n r (q ∷ rest) e (m ∷ names) (unfold none in refl)

left-rootless : (r : Row) (rest : List Row) → r.kind ≡ end_document → Left 1 (r ∷ rest) [] ≡ false
unfolding after outer count
left-rootless r [] e = rw e (every-false (_ ∷ []) _)
left-rootless r (q ∷ rest) e = left-more 1 r (q ∷ rest) e [] (unfold none in refl)

-- ---- the rows after a start tag, those before any, and all

left_open : (m : Name) (names : List Name) → Left 0 [] (m ∷ names) ≡ false
unfolding balanced every
left_open m names = rw (ne_eqb (suc (length names)) 0 (λ e. omega arith))

nested-rules : (rows : List Row) (names : List Name) → nested (map tag_of rows) names ≡ Left 0 rows names
unfolding nested
nested-rules [] [] = unfold balanced outer count all_among every in refl
nested-rules [] (m ∷ names) = sym (left_open m names)
nested-rules (r ∷ rest) [] =
    by_kind r.kind
    (λ e. rw (tag-begins r e) (sym (left-begins 0 r rest e [])))
    (λ e. rw (tag-ends r e) (sym (left-ends r rest e)))
    (λ e. rw (tag-start r e) (sym (left-start 0 r rest e refl)))
    (λ e. rw (tag-end r e) (sym (left_end 0 r rest e)))
    (λ h.
    by_test (outside r.kind)
    (λ o. rw (tag-anywhere r h o) (nested-rules rest [] ∙ sym (left-outside 0 r rest h o)))
    (λ o. rw (tag-inside r h o) (sym (left-inside 0 r rest h o))))
nested-rules (r ∷ rest) (m ∷ names) =
    by_kind r.kind
    (λ e. rw (tag-begins r e) (sym (left-begins 0 r rest e (m ∷ names))))
    (λ e. rw (tag-ends r e) (sym (left-early 0 r rest e m names)))
    (λ e. rw (tag-start r e, nested-rules rest (r.name ∷ m ∷ names)) (sym (left-deeper 0 r rest e m names)))
    (λ e. rw (tag-end r e, nested-rules rest names) (sym (left-close 0 r rest e m names)))
    (λ h.
    by_test (outside r.kind)
    (λ o. rw (tag-anywhere r h o) (nested-rules rest (m ∷ names) ∙ sym (left_other 0 r rest h m names)))
    (λ o. rw (tag-inside r h o) (nested-rules rest (m ∷ names) ∙ sym (left_other 0 r rest h m names))))

rooted-rules : (rows : List Row) → rooted (map tag_of rows) ≡ Left 1 rows []
unfolding rooted
rooted-rules [] = unfold balanced outer count every in refl
rooted-rules (r ∷ rest) =
    by_kind r.kind
    (λ e. rw (tag-begins r e) (sym (left-begins 1 r rest e [])))
    (λ e. rw (tag-ends r e) (sym (left-rootless r rest e)))
    (λ e. rw (tag-start r e) (nested-rules rest (r.name ∷ []) ∙ sym (left-root 1 r rest e)))
    (λ e. rw (tag-end r e) (sym (left_end 1 r rest e)))
    (λ h.
    by_test (outside r.kind)
    (λ o. rw (tag-anywhere r h o) (rooted-rules rest ∙ sym (left-outside 1 r rest h o)))
    (λ o. rw (tag-inside r h o) (sym (left-inside 1 r rest h o))))

-- the first row apart: after a StartDocument the other rules are left, and any other row is no StartDocument
after-begins : (r : Row) (rest : List Row) → r.kind ≡ start_document → document (r ∷ rest) ≡ Left 1 rest []
unfolding document after innermost fits balanced outer count all_among among
after-begins r rest e = rw (ends-turn r rest, e)

no-begins : (r : Row) (rest : List Row) → (r.kind ≡ start_document → ⊥) → document (r ∷ rest) ≡ Left 1 (r ∷ rest) []
unfolding document count
no-begins r rest not = rw (ne_eqb r.kind start_document not)

pub document-passes : (rows : List Row) → document rows ≡ passes rows
unfolding passes begun
document-passes [] = unfold document rooted balanced outer count every in refl
document-passes (r ∷ rest) =
    by_test (eqb r.kind start_document)
    (λ b.
    let e = eqb-true r.kind start_document b in
    rw (tag-begins r e) (after-begins r rest e ∙ sym (rooted-rules rest)))
    (λ b.
    let not = eqb-false r.kind start_document b in
    rw (begun_kept r (map tag_of rest) not) (no-begins r rest not ∙ sym (rooted-rules (r ∷ rest))))
