-- The words that the writer does not refuse say events that it takes.
use Rattle.std.specs.Prelude.{Bool, false, ◌&&◌, cond, ◌≡◌, length, drop, leb, ltb, eqb}
use Rattle.std.proofs.Math.Bool.{true}
use Rattle.std.proofs.lemmas.Bool.{false≢true}
use Rattle.std.proofs.Math.Option.{Option, none, some}
use mathlib.Core.List.{List, [], ◌∷◌}
use Rattle.std.proofs.Math.Path.{refl, ap}
use Rattle.std.proofs.Common.{◌∙◌, add-zero, get_or-drop}
use Prim.Native.Nat.{ℕ, zero, suc, ◌+◌, ◌≤◌, ◌<◌}
use native.Mathlib.Omega.{arith}
use borrow.Author.Tests.{leb-true, ltb-true, ltb-false, eqb-true, ne_eqb}
use Rattle.std.proofs.Math.ListN.{get_or}
use Rattle.utf8.specs.Utf8.{well_formed}
use Rattle.event.specs.Row.{Row, Event, shape, shapes, has_name, value_at, row_at, rows_at}
use Rattle.event.specs.declared.Shape.{Shape}
use Rattle.event.specs.Span.{span, span_in}
use Rattle.writer_spec.specs.Encode.{flat}
use Rattle.writer_spec.specs.Formed.{Str, FormedValue, FormedAttribute, FormedAttributes, FormedFirst, FormedEvent, FormedEvents, Words32}
use Rattle.event.specs.Words.{zeros, value_forms, attribute_forms, row_forms, row_forms_in, opens, rows_form}
use Rattle.writer_spec.specs.Faults.{longest, blob_fault, string_fault, first_fault, value_fault, row_fault, rows_fault, glue, group}
use Rattle.event.specs.Row as Row
use Rattle.grammar.proofs.KindLaws.{bare-unnamed, tag-named, text-unnamed}
use Rattle.grammar.proofs.Choice.{by_test, cond-by}
use Rattle.event.specs.Laws.{both}

-- ---- strings

some≢none : {f : ℕ × ℕ} → ◌≡◌ {A = Option (ℕ × ℕ)} (some f) none → ⊥
some≢none h = let z : ◌≡◌ {A = ℕ} 0 1 = cc h in omega arith

no-string-fault : (b : List ℕ) → string_fault b ≡ none → Str b
unfolding string_fault
no-string-fault b h =
    by_test (ltb longest (length b)) (λ a. absurd (some≢none (rw a at h)))
    (λ a. by_test (well_formed b) (λ c. (ltb-false longest (length b) a, c)) (λ c. absurd (some≢none (rw (a, c) at h))))

no-blob-fault : (b : List ℕ) → blob_fault b ≡ none → length b ≤ longest
unfolding blob_fault
no-blob-fault b h = by_test (ltb longest (length b)) (λ a. absurd (some≢none (rw a at h))) (λ a. ltb-false longest (length b) a)

pub no-faults : (f g : Option (ℕ × ℕ)) → first_fault f g ≡ none → (f ≡ none) × (g ≡ none)
no-faults none g h = (refl, h)
no-faults (some f) g h = absurd (some≢none h)

-- ---- one row

abbrev RowOK : Bool → Row → Type 0
RowOK inside r = cond (eqb r.kind 15) ((inside ≡ true) × FormedAttribute r) (FormedFirst r)

module _ (first second w : List ℕ) (small : Words32 w) where
  abbrev r : Row
  r = row_at first second w

  -- the name's words, and the value's, are a span in the stores
  abbrev named : Bool
  named = span_in first second (get_or w 1 0) (get_or w 2 0) (get_or w 3 0)

  abbrev valued : Bool
  valued = span_in first second (get_or w 5 0) (get_or w 6 0) (get_or w 7 0)

  value-formed : (h : Shape) → value_forms valued w h ≡ true
      → value_fault h (value_at first second (get_or w 5 0) (get_or w 6 0) (get_or w 7 0) h) ≡ none
      → FormedValue h (value_at first second (get_or w 5 0) (get_or w 6 0) (get_or w 7 0) h)
  unfolding value_forms value_at value_fault
  value-formed Shape.Nothing v f = refl
  value-formed Shape.String v f = (_, refl, no-string-fault _ f)
  value-formed Shape.Interned v f = absurd (false≢true v)
  value-formed Shape.Blob v f = (_, refl, no-blob-fault _ f)
  value-formed Shape.Word v f = (_, refl, small 7)
  value-formed Shape.Pair v f = (_, _, refl, small 6, small 7)
  value-formed Shape.Unknown v f = absurd (false≢true v)

  zero-at : (at n i : ℕ) → zeros w at n ≡ true → i < n → get_or w (at + i) 0 ≡ 0
  unfolding zeros
  zero-at at zero i z h = absurd (omega arith)
  zero-at at (suc n) zero z h = rw (add-zero at) (eqb-true (get_or w at 0) 0 (both (eqb (get_or w at 0) 0) (zeros w (suc at) n) z).0)
  zero-at at (suc n) (suc i) z h = (let e : at + suc i ≡ suc at + i = omega arith in ap (λ (k : ℕ). get_or w k 0) e) ∙ zero-at (suc at) n i (both (eqb (get_or w at 0) 0) (zeros w (suc at) n) z).1 (omega arith)

  kind-is : r.kind ≡ get_or w 0 0
  unfolding row_at
  kind-is = refl

  type-is : r.type ≡ get_or w 4 0
  unfolding row_at
  type-is = refl

  name-none : has_name (get_or w 0 0) ≡ false → r.name ≡ []
  unfolding row_at
  name-none h = rw h

  value-is : (t : ℕ) → get_or w 4 0 ≡ t → r.value ≡ value_at first second (get_or w 5 0) (get_or w 6 0) (get_or w 7 0) (shape t)
  unfolding row_at
  value-is t h = rw h

  row-faults : row_fault r ≡ none → (cond (has_name r.kind) (string_fault r.name) none ≡ none) × (value_fault (shape r.type) r.value ≡ none)
  unfolding row_fault
  row-faults g = no-faults (cond (has_name r.kind) (string_fault r.name) none) (value_fault (shape r.type) r.value) g

  name-sound : row_fault r ≡ none → has_name (get_or w 0 0) ≡ true → Str r.name
  name-sound g h = no-string-fault r.name (rw (kind-is, h) at (row-faults g).0)

  value-sound : row_fault r ≡ none → value_fault (shape r.type) r.value ≡ none
  value-sound g = (row-faults g).1

  bare-ok : get_or w 0 0 < 2 → zeros w 1 7 ≡ true → (r.name ≡ []) × (r.type ≡ 0) × (r.value ≡ Row.nothing)
  unfolding value_at shape shapes
  bare-ok k z = (name-none (bare-unnamed _ k), type-is ∙ zero-at 1 7 3 z (omega arith), value-is 0 (zero-at 1 7 3 z (omega arith)))

  tag-ok : 2 ≤ get_or w 0 0 → get_or w 0 0 < 4 → zeros w 4 4 ≡ true → row_fault r ≡ none → Str r.name × (r.type ≡ 0) × (r.value ≡ Row.nothing)
  unfolding value_at shape shapes
  tag-ok k j z g = (name-sound g (tag-named _ k j), type-is ∙ zero-at 4 4 0 z (omega arith), value-is 0 (zero-at 4 4 0 z (omega arith)))

  text-ok : 4 ≤ get_or w 0 0 → get_or w 0 0 ≤ 10 → get_or w 4 0 ≡ 2 → row_fault r ≡ none → (r.name ≡ []) × (r.type ≡ 2) × ((b : List ℕ) × (r.value ≡ Row.bytes b) × Str b)
  unfolding value_at shape shapes value_fault
  text-ok k j t g =
      let b : List ℕ = span first second (get_or w 5 0) (get_or w 6 0) (get_or w 7 0) in
      let v : r.value ≡ Row.bytes b = value-is 2 t in
      let f : value_fault (shape 2) (Row.bytes b) ≡ none = rw (type-is, t, v) at (value-sound g) in
      (name-none (text-unnamed _ k j), type-is ∙ t, (b, v, no-string-fault b f))

  attribute-ok : get_or w 0 0 ≡ 15 → value_forms valued w (shape (get_or w 4 0)) ≡ true → row_fault r ≡ none → FormedAttribute r
  unfolding has_name
  attribute-ok k v g =
      let e : r.value ≡ value_at first second (get_or w 5 0) (get_or w 6 0) (get_or w 7 0) (shape (get_or w 4 0)) = value-is (get_or w 4 0) refl in
      record {
        its-kind = kind-is ∙ k;
        its-name = name-sound g (rw k);
        its-value = rw (e, type-is) (value-formed (shape (get_or w 4 0)) v (rw (type-is, e) at (value-sound g)));
      }

  row_ok : (inside : Bool) → row_forms_in first second inside w ≡ true → row_fault r ≡ none → RowOK inside r
  unfolding row_forms_in row_forms attribute_forms row_at
  row_ok inside f g =
      let k : ℕ = get_or w 0 0 in
      rw kind-is
      (by_test (ltb k 2)
      (λ a. rw (ne_eqb k 15 (λ q. omega (arith, ltb-true k 2 a)), a) (bare-ok (ltb-true k 2 a) (rw a at f)))
      (λ a. by_test (ltb k 4)
      (λ b. let f₁ : (named && zeros w 4 4) ≡ true = rw (a, b) at f in
      rw (ne_eqb k 15 (λ q. omega (arith, ltb-true k 4 b)), a, b) (tag-ok (ltb-false k 2 a) (ltb-true k 4 b) (both named (zeros w 4 4) f₁).1 g))
      (λ b. by_test (leb k 10)
      (λ c. let f₁ : (eqb (get_or w 4 0) 2 && (valued && zeros w 1 3)) ≡ true = rw (a, b, c) at f in
      let f₂ = both (eqb (get_or w 4 0) 2) _ f₁ in
      rw (ne_eqb k 15 (λ q. omega (arith, leb-true k 10 c)), a, b, c) (text-ok (ltb-false k 4 b) (leb-true k 10 c) (eqb-true (get_or w 4 0) 2 f₂.0) g))
      (λ c. by_test (eqb k 15)
      (λ d. let f₁ : (inside && (named && value_forms valued w (shape (get_or w 4 0)))) ≡ true = rw (a, b, c, d) at f in
      let f₂ = both inside _ f₁ in
      rw d (f₂.0, attribute-ok (eqb-true k 15 d) (both named _ f₂.1).1 g))
      (λ d. absurd (false≢true (rw (a, b, c, d) at f)))))))

-- ---- rows to events

abbrev RowsOK : Bool → List Row → Type 0
RowsOK inside [] = Unit {0}
RowsOK inside (r ∷ rs) = RowOK inside r × RowsOK (opens r.kind) rs

rows_ok : (first second : List ℕ) (n : ℕ) (w : List ℕ) (inside : Bool) → Words32 w → rows_form first second inside n w ≡ true → rows_fault (rows_at first second n w) ≡ none
    → RowsOK inside (rows_at first second n w)
unfolding rows_form rows_fault rows_at
rows_ok first second zero w inside small f g = tt
rows_ok first second (suc n) w inside small f g =
    let r : Row = row_at first second w in
    let fs = both (row_forms_in first second inside w) (rows_form first second (opens (get_or w 0 0)) n (drop 8 w)) f in
    let gs = no-faults (row_fault r) (rows_fault (rows_at first second n (drop 8 w))) g in (
      row_ok first second w small inside fs.0 gs.0,
      rw (kind-is first second w small)
          (rows_ok first second n (drop 8 w) (opens (get_or w 0 0)) (λ i. rw (get_or-drop 8 w i 0) (small (8 + i))) fs.1 gs.1),
    )

-- events of which the first may lack its start tag, where one stands before
abbrev GroupOK : Bool → List Event → Type 0
GroupOK inside [] = Unit {0}
GroupOK inside ([] ∷ es) = ⊥
GroupOK inside ((q ∷ qs) ∷ es) = cond (eqb q.kind 15) ((inside ≡ true) × FormedAttributes (q ∷ qs) × FormedEvents es) (FormedEvents ((q ∷ qs) ∷ es))

alone : (r : Row) → FormedFirst r → FormedEvent (r ∷ [])
alone r f = (f, by_test (eqb r.kind 2) (λ a. rw a tt) (λ a. rw a refl))

glue-ok : (inside : Bool) (r : Row) (es : List Event) → RowOK inside r → GroupOK (opens r.kind) es → GroupOK inside (glue r es)
unfolding glue opens
glue-ok inside r [] o g =
    by_test (eqb r.kind 15) (λ a. let p : (inside ≡ true) × FormedAttribute r = rw a at o in rw a (p.0, (p.1, tt), tt))
    (λ a. let p : FormedFirst r = rw a at o in rw a (alone r p, tt))
glue-ok inside r ([] ∷ es) o g = absurd g
glue-ok inside r ((q ∷ qs) ∷ es) o g =
    by_test (eqb q.kind 15)
    (λ b. let h : (cond (eqb r.kind 2) true (eqb r.kind 15) ≡ true) × FormedAttributes (q ∷ qs) × FormedEvents es = rw b at g in
    rw b
    (by_test (eqb r.kind 15) (λ a. let p : (inside ≡ true) × FormedAttribute r = rw a at o in rw a (p.0, (p.1, h.1), h.2))
    (λ a. let p : FormedFirst r = rw a at o in
    by_test (eqb r.kind 2) (λ c. rw (a, c) ((p, h.1), h.2))
    (λ c. absurd (false≢true (rw (c, a) at h.0))))))
    (λ b. let h : FormedEvents ((q ∷ qs) ∷ es) = rw b at g in
    rw b
    (by_test (eqb r.kind 15) (λ a. let p : (inside ≡ true) × FormedAttribute r = rw a at o in rw a (p.0, (p.1, tt), h))
    (λ a. let p : FormedFirst r = rw a at o in rw a (alone r p, h))))

group-ok : (rs : List Row) (inside : Bool) → RowsOK inside rs → GroupOK inside (group rs)
unfolding group
group-ok [] inside o = tt
group-ok (r ∷ rs) inside o = glue-ok inside r (group rs) o.0 (group-ok rs (opens r.kind) o.1)

whole-events : (es : List Event) → GroupOK false es → FormedEvents es
whole-events [] g = tt
whole-events ([] ∷ es) g = absurd g
whole-events ((q ∷ qs) ∷ es) g =
    by_test (eqb q.kind 15) (λ a. absurd (let p : (false ≡ true) × FormedAttributes (q ∷ qs) × FormedEvents es = rw a at g in false≢true p.0)) (λ a. rw a at g)

flat-glue : (r : Row) (es : List Event) → flat (glue r es) ≡ r ∷ flat es
unfolding flat glue
flat-glue r [] = refl
flat-glue r ([] ∷ es) = refl
flat-glue r ((q ∷ qs) ∷ es) = cond-by (λ (x : List Event). flat x ≡ r ∷ flat ((q ∷ qs) ∷ es)) (eqb q.kind 15) _ _ (λ _. refl) (λ _. refl)

pub flat-group : (rs : List Row) → flat (group rs) ≡ rs
unfolding group flat
flat-group [] = refl
flat-group (r ∷ rs) = flat-glue r (group rs) ∙ ap (λ (x : List Row). r ∷ x) (flat-group rs)

-- words that form rows, with no string too long or ill-formed, say events that can be written
pub taken : (first second : List ℕ) (n : ℕ) (w : List ℕ) → Words32 w → rows_form first second false n w ≡ true → rows_fault (rows_at first second n w) ≡ none
    → FormedEvents (group (rows_at first second n w))
taken first second n w small f g = whole-events (group (rows_at first second n w)) (group-ok (rows_at first second n w) false (rows_ok first second n w false small f g))
