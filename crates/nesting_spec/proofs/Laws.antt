-- Nesting by its grammar: a document is StartDocument or not, what may stand outside, one element, what may stand outside, EndDocument or
-- not; contents hold elements, and each element holds contents. `document` decides it.
use Rattle.std.specs.Prelude.{true, List, [], ◌∷◌, ◌++◌, map, ◌≡◌, refl, ℕ, zero, suc, ◌+◌, ltb, length}
use Rattle.std.proofs.lemmas.Bool.{false≢true}
use Rattle.std.proofs.Common.{append_assoc, sym, ap, subst, ◌∙◌, arith, lt-ltb, ltb-true}
use Rattle.event.specs.Row.{Row}
use Rattle.event.specs.Span.{same}
use Rattle.event.specs.Laws.{both, same_refl, same-eq}
use Rattle.nesting_spec.specs.Nesting.{Name, depth, document}
use Rattle.nesting_spec.specs.OnePass as P
use Rattle.nesting_spec.specs.OnePass.{Tag, start, end, begins, ends, anywhere, inside, tag_of, nested, rooted, begun, passes}
use Rattle.nesting_spec.proofs.Agreement.{document-passes}

-- rows in which elements stand at most so many levels deep
mutual
  pub data Contents : ℕ → List Tag → Type 0 where
    none : {levels : ℕ} → Contents levels []
    event : {levels : ℕ} {rest : List Tag} → Contents levels rest → Contents levels (anywhere ∷ rest)
    text : {levels : ℕ} {rest : List Tag} → Contents levels rest → Contents levels (inside ∷ rest)
    holds : {levels : ℕ} {one rest : List Tag} → Element levels one → Contents levels rest → Contents levels (one ++ rest)

  pub data Element : ℕ → List Tag → Type 0 where
    element : {levels : ℕ} {inner : List Tag} (name : Name) → Contents levels inner
        → Element (suc levels) (start name ∷ (inner ++ (end name ∷ [])))

-- rows that may stand outside the outermost element
pub data Outside : List Tag → Type 0 where
  none : Outside []
  event : {rest : List Tag} → Outside rest → Outside (anywhere ∷ rest)

-- a tag or none
pub data Maybe (t : Tag) : List Tag → Type 0 where
  absent : Maybe t []
  present : Maybe t (t ∷ [])

-- a nested document
pub record Document (tags : List Tag) : Type 0 where
  pub first : List Tag
  pub before : List Tag
  pub root : List Tag
  pub after : List Tag
  pub last : List Tag
  pub says : tags ≡ first ++ (before ++ (root ++ (after ++ last)))
  pub first-is : Maybe begins first
  pub before-is : Outside before
  pub root_is : Element depth root
  pub after_is : Outside after
  pub last-is : Maybe ends last

-- ---- what the grammar makes nests

-- rows after which nesting goes on with the names that were open before them, one at least
abbrev Passed : ℕ → List Tag → Type 0
Passed levels tags = (rest : List Tag) (m : Name) (names : List Name) → length (m ∷ names) + levels ≡ depth
    → nested (tags ++ rest) (m ∷ names) ≡ nested rest (m ∷ names)

passed-event : (levels : ℕ) (tags : List Tag) → Passed levels tags → Passed levels (anywhere ∷ tags)
unfolding nested
passed-event levels tags p rest m names l = p rest m names l

passed-text : (levels : ℕ) (tags : List Tag) → Passed levels tags → Passed levels (inside ∷ tags)
unfolding nested
passed-text levels tags p rest m names l = p rest m names l

passed-both : (levels : ℕ) (one more : List Tag) → Passed levels one → Passed levels more → Passed levels (one ++ more)
passed-both levels one more p q rest m names l =
    ap (λ (t : List Tag). nested t (m ∷ names)) (append_assoc one more rest) ∙ p (more ++ rest) m names l ∙ q rest m names l

-- from the start tag's name on
passed-close : (levels : ℕ) (inner : List Tag) (name : Name) (names : List Name) (rest : List Tag) → Passed levels inner
    → length (name ∷ names) + levels ≡ depth → nested ((inner ++ (end name ∷ [])) ++ rest) (name ∷ names) ≡ nested rest names
unfolding nested
passed-close levels inner name names rest p l =
    rw (append_assoc inner (end name ∷ []) rest, p (end name ∷ rest) name names l, same_refl name)

passed-element : (levels : ℕ) (inner : List Tag) (name : Name) → Passed levels inner
    → Passed (suc levels) (start name ∷ (inner ++ (end name ∷ [])))
unfolding nested
passed-element levels inner name p rest m names l =
    let room : ltb (length (m ∷ names)) depth ≡ true = lt-ltb (length (m ∷ names)) depth (omega arith) in
    rw room (passed-close levels inner name (m ∷ names) rest p (omega arith))

contents-passed : {levels : ℕ} {tags : List Tag} → Contents levels tags → Passed levels tags
contents-passed c =
    elim c as (λ levels tags _. Passed levels tags) (λ levels tags _. Passed levels tags) [
      | none ↦ λ rest m names l. refl
      | event {levels} {rest} (c → p) ↦ passed-event levels rest p
      | text {levels} {rest} (c → p) ↦ passed-text levels rest p
      | holds {levels} {one} {rest} (x → p) (c → q) ↦ passed-both levels one rest p q
      | element {levels} {inner} name (c → p) ↦ passed-element levels inner name p
    ]

closed-outside : {after : List Tag} (last : List Tag) → Outside after → nested last [] ≡ true → nested (after ++ last) [] ≡ true
unfolding nested
closed-outside last none h = h
closed-outside last (event o) h = closed-outside last o h

closed-last : {last : List Tag} → Maybe ends last → nested last [] ≡ true
unfolding nested P.none
closed-last absent = refl
closed-last present = refl

root-nested : {levels : ℕ} {root : List Tag} (rest : List Tag) → Element levels root → levels ≡ depth → nested rest [] ≡ true → rooted (root ++ rest) ≡ true
unfolding rooted
root-nested rest (element {levels = levels} {inner = inner} name c) l h =
    passed-close levels inner name [] rest (contents-passed c) (omega arith) ∙ h

rooted-outside : {before : List Tag} (rest : List Tag) → Outside before → rooted rest ≡ true → rooted (before ++ rest) ≡ true
unfolding rooted
rooted-outside rest none h = h
rooted-outside rest (event o) h = rooted-outside rest o h

-- a list that begins as an element or an event outside does is begun as it stands
begun_first : {first : List Tag} (rest : List Tag) → Maybe begins first → rooted rest ≡ true → rooted (begun (first ++ rest)) ≡ true
unfolding begun
begun_first rest present h = h
begun_first [] absent h = h
begun_first (start n ∷ rest) absent h = h
begun_first (end n ∷ rest) absent h = h
begun_first (begins ∷ rest) absent h = absurd (false≢true (unfold rooted in h))
begun_first (ends ∷ rest) absent h = h
begun_first (anywhere ∷ rest) absent h = h
begun_first (inside ∷ rest) absent h = h

grammar-nested : (tags : List Tag) → Document tags → rooted (begun tags) ≡ true
grammar-nested tags d =
    rw d.says
    (begun_first (d.before ++ (d.root ++ (d.after ++ d.last))) d.first-is
    (rooted-outside (d.root ++ (d.after ++ d.last)) d.before-is
    (root-nested (d.after ++ d.last) d.root_is refl
    (closed-outside d.last d.after_is (closed-last d.last-is)))))

-- ---- what nests the grammar makes

-- rows that close these names, the innermost first, with contents before each end tag; after the last they are closed
data Closes : ℕ → List Name → List Tag → Type 0 where
  last : {levels : ℕ} {tags : List Tag} → nested tags [] ≡ true → Closes levels [] tags
  close : {levels : ℕ} {names : List Name} {inner rest : List Tag} (name : Name) → Contents levels inner → Closes (suc levels) names rest
      → Closes levels (name ∷ names) (inner ++ (end name ∷ rest))

event-first : {levels : ℕ} {m : Name} {names : List Name} {tags : List Tag} → Closes levels (m ∷ names) tags
    → Closes levels (m ∷ names) (anywhere ∷ tags)
event-first (close name c k) = close name (event c) k

text-first : {levels : ℕ} {m : Name} {names : List Name} {tags : List Tag} → Closes levels (m ∷ names) tags
    → Closes levels (m ∷ names) (inside ∷ tags)
text-first (close name c k) = close name (text c) k

element-first : {levels : ℕ} {m : Name} {names : List Name} {one tags : List Tag} → Element levels one → Closes levels (m ∷ names) tags
    → Closes levels (m ∷ names) (one ++ tags)
element-first {levels} {one = one} x (close {names = names} {inner = inner} {rest = rest} name c k) =
    subst (Closes levels (name ∷ names)) (append_assoc one inner (end name ∷ rest)) (close name (holds x c) k)

opened-first : {levels : ℕ} {m : Name} {names : List Name} {tags : List Tag} (name : Name) → Closes levels (name ∷ m ∷ names) tags
    → Closes (suc levels) (m ∷ names) (start name ∷ tags)
opened-first {levels} {m = m} {names = names} _ (close {inner = inner} {rest = rest} name c k) =
    subst (λ (t : List Tag). Closes (suc levels) (m ∷ names) (start name ∷ t)) (append_assoc inner (end name ∷ []) rest)
    (element-first (element name c) k)

closes : (tags : List Tag) (names : List Name) (levels : ℕ) → length names + levels ≡ depth → nested tags names ≡ true
    → Closes levels names tags
unfolding nested
closes [] [] levels l h = last (unfold nested in refl)
closes [] (m ∷ names) levels l h = absurd (false≢true h)
closes (start n ∷ rest) [] levels l h = absurd (false≢true h)
closes (start n ∷ rest) (m ∷ names) zero l h =
    let room = (both (ltb (length (m ∷ names)) depth) (nested rest (n ∷ m ∷ names)) h).0 in
    absurd (omega (arith, ltb-true (length (m ∷ names)) depth room))
closes (start n ∷ rest) (m ∷ names) (suc levels) l h =
    opened-first n (closes rest (n ∷ m ∷ names) levels (omega arith) (both (ltb (length (m ∷ names)) depth) (nested rest (n ∷ m ∷ names)) h).1)
closes (end n ∷ rest) [] levels l h = absurd (false≢true h)
closes (end n ∷ rest) (m ∷ names) levels l h =
    let parts = both (same m n) (nested rest names) h in
    subst (λ (x : Name). Closes levels (m ∷ names) (end x ∷ rest)) (same-eq m n parts.0)
    (close m none (closes rest names (suc levels) (omega arith) parts.1))
closes (begins ∷ rest) names levels l h = absurd (false≢true h)
closes (ends ∷ rest) [] levels l h = last (unfold nested in h)
closes (ends ∷ rest) (m ∷ names) levels l h = absurd (false≢true h)
closes (anywhere ∷ rest) [] levels l h = last (unfold nested in h)
closes (anywhere ∷ rest) (m ∷ names) levels l h = event-first (closes rest (m ∷ names) levels l h)
closes (inside ∷ rest) [] levels l h = absurd (false≢true h)
closes (inside ∷ rest) (m ∷ names) levels l h = text-first (closes rest (m ∷ names) levels l h)

-- the outermost element, and what stands before it and after it
record Rooted (tags : List Tag) : Type 0 where
  before : List Tag
  root : List Tag
  rest : List Tag
  says : tags ≡ before ++ (root ++ rest)
  before-is : Outside before
  root_is : Element depth root
  rest-is : nested rest [] ≡ true

root-of : (n : Name) {names : List Name} {tags : List Tag} → Closes 63 (n ∷ names) tags → names ≡ [] → Rooted (start n ∷ tags)
root-of _ (close {names = names} {inner = inner} {rest = rest} name c k) e =
    record {
      before = [];
      root = start name ∷ (inner ++ (end name ∷ []));
      rest = rest;
      says = ap (λ (t : List Tag). start name ∷ t) (sym (append_assoc inner (end name ∷ []) rest));
      before-is = none;
      root_is = element name c;
      rest-is = over k e;
    }
  where
    over : {levels : ℕ} {names : List Name} {tags : List Tag} → Closes levels names tags → names ≡ [] → nested tags [] ≡ true
    over (last h) e = h
    over (close {names = names} name c k) e =
        let z : ◌≡◌ {A = ℕ} (suc (length names)) 0 = ap length e in
        absurd (omega arith)

root-splits : (tags : List Tag) → rooted tags ≡ true → Rooted tags
unfolding rooted
root-splits [] h = absurd (false≢true h)
root-splits (start n ∷ rest) h = root-of n (closes rest (n ∷ []) 63 refl h) refl
root-splits (end n ∷ rest) h = absurd (false≢true h)
root-splits (begins ∷ rest) h = absurd (false≢true h)
root-splits (ends ∷ rest) h = absurd (false≢true h)
root-splits (anywhere ∷ rest) h =
    let r = root-splits rest h in
    record {
      before = anywhere ∷ r.before;
      root = r.root;
      rest = r.rest;
      says = ap (λ (t : List Tag). anywhere ∷ t) r.says;
      before-is = event r.before-is;
      root_is = r.root_is;
      rest-is = r.rest-is;
    }
root-splits (inside ∷ rest) h = absurd (false≢true h)

record Closed (tags : List Tag) : Type 0 where
  after : List Tag
  last : List Tag
  says : tags ≡ after ++ last
  after_is : Outside after
  last-is : Maybe ends last

closed-splits : (tags : List Tag) → nested tags [] ≡ true → Closed tags
unfolding nested P.none
closed-splits [] h = record { after = []; last = []; says = refl; after_is = none; last-is = absent }
closed-splits (start n ∷ rest) h = absurd (false≢true h)
closed-splits (end n ∷ rest) h = absurd (false≢true h)
closed-splits (begins ∷ rest) h = absurd (false≢true h)
closed-splits (ends ∷ []) h = record { after = []; last = ends ∷ []; says = refl; after_is = none; last-is = present }
closed-splits (ends ∷ t ∷ rest) h = absurd (false≢true h)
closed-splits (anywhere ∷ rest) h =
    let r = closed-splits rest h in
    record { after = anywhere ∷ r.after; last = r.last; says = ap (λ (t : List Tag). anywhere ∷ t) r.says; after_is = event r.after_is; last-is = r.last-is }
closed-splits (inside ∷ rest) h = absurd (false≢true h)

whole : (first tags : List Tag) → Maybe begins first → rooted tags ≡ true → Document (first ++ tags)
whole first tags f h =
    let r = root-splits tags h in
    let c = closed-splits r.rest r.rest-is in
    record {
      first = first;
      before = r.before;
      root = r.root;
      after = c.after;
      last = c.last;
      says = ap (λ (t : List Tag). first ++ t) (r.says ∙ ap (λ (t : List Tag). r.before ++ (r.root ++ t)) c.says);
      first-is = f;
      before-is = r.before-is;
      root_is = r.root_is;
      after_is = c.after_is;
      last-is = c.last-is;
    }

nested-grammar : (tags : List Tag) → rooted (begun tags) ≡ true → Document tags
unfolding begun
nested-grammar [] h = whole [] [] absent h
nested-grammar (start n ∷ rest) h = whole [] (start n ∷ rest) absent h
nested-grammar (end n ∷ rest) h = whole [] (end n ∷ rest) absent h
nested-grammar (begins ∷ rest) h = whole (begins ∷ []) rest present h
nested-grammar (ends ∷ rest) h = whole [] (ends ∷ rest) absent h
nested-grammar (anywhere ∷ rest) h = whole [] (anywhere ∷ rest) absent h
nested-grammar (inside ∷ rest) h = whole [] (inside ∷ rest) absent h

-- ---- a list is nested exactly when the grammar makes it

pub grammar-document : (rows : List Row) → Document (map tag_of rows) → document rows ≡ true
unfolding passes
grammar-document rows d = document-passes rows ∙ grammar-nested (map tag_of rows) d

pub document-grammar : (rows : List Row) → document rows ≡ true → Document (map tag_of rows)
unfolding passes
document-grammar rows h = nested-grammar (map tag_of rows) (sym (document-passes rows) ∙ h)
