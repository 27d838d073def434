-- Where a name stands in a pool that grows at its end.
use mathlib.Core.Bool.{cond}
use mathlib.Core.Option.{Option, none, some, map}
use mathlib.Core.List.{List, [], ◌∷◌, ◌++◌, append-nil, append_assoc}
use mathlib.Core.Path.{◌≡◌, refl, sym, ap, ◌∙◌}
use Prim.Native.Nat.{ℕ, zero, suc, ◌≤◌, ◌<◌}
use native.Mathlib.Omega.{arith}
use borrow.Author.Tests.{lt-ltb, le-ltb, ltb-true, ltb-false, eqb-true, eqb-false}
use lib.Dec.{ltb, eqb}
use lib.ListN.{length}
use Rattle.event.specs.Span.{same}
use Rattle.event.specs.Laws.{same_refl, same-eq}
use Rattle.event.specs.Row.{Row, has_name}
use Rattle.names.specs.Laws.{same_not}
use Rattle.grammar.specs.Grammar.{most}
use Rattle.grammar.specs.Document.{Pool}
use Rattle.grammar.proofs.Choice.{by_test}
use Rattle.writer_spec.specs.Encode.{find, keep_by, keep, keep_row, keep_rows}

-- ---- options

pub some-none : (i : ℕ) → ◌≡◌ {A = Option ℕ} (some i) none → ⊥
some-none i e = let z : ◌≡◌ {A = ℕ} 0 1 = cc e in omega arith

pub some_same : (i j : ℕ) → ◌≡◌ {A = Option ℕ} (some i) (some j) → i ≡ j
some_same i j e = cc e

map-some : (o : Option ℕ) (i : ℕ) → map suc o ≡ some i → (j : ℕ) × (o ≡ some j) × (i ≡ suc j)
map-some none i e = absurd (some-none i (sym e))
map-some (some j) i e = (j, refl, sym (some_same (suc j) i e))

map-none : (o : Option ℕ) → map suc o ≡ none → o ≡ none
map-none none e = refl
map-none (some j) e = absurd (some-none (suc j) e)

-- ---- a name in a pool and in a longer one

pub find-there : (pool more : Pool) (n : List ℕ) (i : ℕ) → find pool n ≡ some i → find (pool ++ more) n ≡ some i
unfolding find
find-there [] more n i e = absurd (some-none i (sym e))
find-there (m ∷ pool) more n i e =
    by_test (same m n) (λ t. rw t (rw t at e))
    (λ t. let p = map-some (find pool n) i (rw t at e) in rw (t, find-there pool more n p.0 p.1) (ap some (sym p.2)))

pub find-new : (pool : Pool) (n : List ℕ) → find pool n ≡ none → find (pool ++ (n ∷ [])) n ≡ some (length pool)
unfolding find
find-new [] n e = rw (same_refl n)
find-new (m ∷ pool) n e =
    by_test (same m n) (λ t. absurd (some-none 0 (rw t at e)))
    (λ t. rw (t, find-new pool n (map-none (find pool n) (rw t at e))))

pub find-other : (pool : Pool) (n m : List ℕ) → (n ≡ m → ⊥) → find (pool ++ (n ∷ [])) m ≡ find pool m
unfolding find
find-other [] n m h = rw (same_not n m h)
find-other (p ∷ pool) n m h = rw (find-other pool n m h)

pub find-below : (pool : Pool) (n : List ℕ) (i : ℕ) → find pool n ≡ some i → i < length pool
unfolding find
find-below [] n i e = absurd (some-none i (sym e))
find-below (m ∷ pool) n i e =
    by_test (same m n) (λ t. omega (arith, some_same 0 i (rw t at e)))
    (λ t. let p = map-some (find pool n) i (rw t at e) in omega (arith, find-below pool n p.0 p.1, p.2))

-- two names at one place are one
pub find-one : (pool : Pool) (n m : List ℕ) (i : ℕ) → find pool n ≡ some i → find pool m ≡ some i → n ≡ m
unfolding find
find-one [] n m i e f = absurd (some-none i (sym e))
find-one (p ∷ pool) n m i e f =
    by_test (same p n)
    (λ s. by_test (same p m) (λ t. sym (same-eq p n s) ∙ same-eq p m t)
    (λ t. let q = map-some (find pool m) i (rw t at f) in absurd (omega (arith, some_same 0 i (rw s at e), q.2))))
    (λ s. let q = map-some (find pool n) i (rw s at e) in
    by_test (same p m) (λ t. absurd (omega (arith, some_same 0 i (rw t at f), q.2)))
    (λ t. let r = map-some (find pool m) i (rw t at f) in
    find-one pool n m q.0 q.1 (rw (let k : r.0 ≡ q.0 = omega (arith, q.2, r.2) in k) at r.1)))

-- in the beginning of a pool a name is where it is in the whole, if that is within the beginning, and else nowhere
module _ (pool more : Pool) (n : List ℕ) where
  late : (p : Pool) (i : ℕ) → find p n ≡ none → find (p ++ more) n ≡ some i → length p ≤ i
  unfolding find
  late [] i e f = omega arith
  late (m ∷ p) i e f =
      by_test (same m n) (λ t. absurd (some-none 0 (rw t at e)))
      (λ t. let q = map-some (find (p ++ more) n) i (rw t at f) in omega (arith, late p q.0 (map-none (find p n) (rw t at e)) q.1, q.2))

  front_by : (o : Option ℕ) (i : ℕ) → find pool n ≡ o → find (pool ++ more) n ≡ some i → i < length pool → find pool n ≡ some i
  front_by none i f e h = absurd (omega (arith, late pool i f e))
  front_by (some j) i f e h = f ∙ sym (find-there pool more n j f) ∙ e

  pub find-front : (i : ℕ) → find (pool ++ more) n ≡ some i → i < length pool → find pool n ≡ some i
  find-front i e h = front_by (find pool n) i refl e h

  later-by : (o : Option ℕ) (i : ℕ) → find pool n ≡ o → find (pool ++ more) n ≡ some i → length pool ≤ i → find pool n ≡ none
  later-by none i f e h = f
  later-by (some j) i f e h = absurd (omega (arith, find-below pool n j f, some_same j i (sym (find-there pool more n j f) ∙ e)))

  pub find-later : (i : ℕ) → find (pool ++ more) n ≡ some i → length pool ≤ i → find pool n ≡ none
  find-later i e h = later-by (find pool n) i refl e h

  never-by : (o : Option ℕ) → find pool n ≡ o → find (pool ++ more) n ≡ none → find pool n ≡ none
  never-by none f e = f
  never-by (some j) f e = absurd (some-none j (sym (find-there pool more n j f) ∙ e))

  pub find-never : find (pool ++ more) n ≡ none → find pool n ≡ none
  find-never e = never-by (find pool n) refl e

-- ---- what a name and rows add

module _ (pool : Pool) (n : List ℕ) where
  pub keep-there : (i : ℕ) → find pool n ≡ some i → keep pool n ≡ pool
  unfolding keep keep_by
  keep-there i e = rw e

  pub keep-new : find pool n ≡ none → length pool < most → keep pool n ≡ pool ++ (n ∷ [])
  unfolding keep keep_by
  keep-new e h = rw (e, lt-ltb (length pool) most h)

  full_by : most ≤ length pool → (o : Option ℕ) → find pool n ≡ o → keep pool n ≡ pool
  unfolding keep keep_by
  full_by h none e = rw (e, le-ltb (length pool) most h)
  full_by h (some i) e = rw e

  pub keep-full : most ≤ length pool → keep pool n ≡ pool
  keep-full h = full_by h (find pool n) refl

  keep-grows : (more : Pool) × (keep pool n ≡ pool ++ more)
  keep-grows = by (find pool n) refl
    where
      by : (o : Option ℕ) → find pool n ≡ o → (more : Pool) × (keep pool n ≡ pool ++ more)
      by (some i) e = ([], keep-there i e ∙ sym (append-nil pool))
      by none e =
          by_test (ltb (length pool) most) (λ t. (n ∷ [], keep-new e (ltb-true (length pool) most t)))
          (λ t. ([], keep-full (ltb-false (length pool) most t) ∙ sym (append-nil pool)))

pub row-full : (pool : Pool) (r : Row) → most ≤ length pool → keep_row pool r ≡ pool
unfolding keep_row
row-full pool r h = by_test (has_name r.kind) (λ t. rw t (keep-full pool r.name h)) (λ t. rw t)

row-grows : (pool : Pool) (r : Row) → (more : Pool) × (keep_row pool r ≡ pool ++ more)
unfolding keep_row
row-grows pool r = by_test (has_name r.kind) (λ t. rw t (keep-grows pool r.name)) (λ t. ([], rw t (sym (append-nil pool))))

pub rows_grow : (rs : List Row) (pool : Pool) → (more : Pool) × (keep_rows pool rs ≡ pool ++ more)
unfolding keep_rows
rows_grow [] pool = ([], sym (append-nil pool))
rows_grow (r ∷ rs) pool =
    let one = row-grows pool r in
    let rest = rows_grow rs (keep_row pool r) in
    (one.0 ++ rest.0, rest.1 ∙ ap (λ (p : Pool). p ++ rest.0) one.1 ∙ append_assoc pool one.0 rest.0)

-- ---- no more different places than there are

below_but : (m x : ℕ) → x < suc m → (x ≡ m → ⊥) → x < m
below_but m x h d = by_test (ltb x m) (λ t. ltb-true x m t) (λ t. absurd (d (omega (arith, ltb-false x m t))))

-- the last one's place goes to whoever is at place m
module _ (m n : ℕ) (f : ℕ → ℕ) (b : (i : ℕ) → i < suc n → f i < suc m) (d : (i j : ℕ) → i < suc n → j < suc n → f i ≡ f j → i ≡ j) where
  abbrev moved : ℕ → ℕ
  moved i = cond (eqb (f i) m) (f n) (f i)

  moved-below : (i : ℕ) → i < n → moved i < m
  moved-below i h =
      by_test (eqb (f i) m)
      (λ t. rw t (below_but m (f n) (b n (omega arith)) (λ e. let z : i ≡ n = d i n (omega arith) (omega arith) (eqb-true (f i) m t ∙ sym e) in omega arith)))
      (λ t. rw t (below_but m (f i) (b i (omega arith)) (eqb-false (f i) m t)))

  moved-distinct : (i j : ℕ) → i < n → j < n → moved i ≡ moved j → i ≡ j
  moved-distinct i j hi hj e =
      by_test (eqb (f i) m)
      (λ t. by_test (eqb (f j) m) (λ s. d i j (omega arith) (omega arith) (eqb-true (f i) m t ∙ sym (eqb-true (f j) m s)))
      (λ s. absurd (let z : n ≡ j = d n j (omega arith) (omega arith) (rw (t, s) at e) in omega arith)))
      (λ t. by_test (eqb (f j) m) (λ s. absurd (let z : i ≡ n = d i n (omega arith) (omega arith) (rw (t, s) at e) in omega arith))
      (λ s. d i j (omega arith) (omega arith) (rw (t, s) at e)))

pub pigeons : (m n : ℕ) (f : ℕ → ℕ) → ((i : ℕ) → i < n → f i < m) → ((i j : ℕ) → i < n → j < n → f i ≡ f j → i ≡ j) → n ≤ m
pigeons zero zero f b d = omega arith
pigeons zero (suc n) f b d = absurd (omega (arith, b 0 (omega arith)))
pigeons (suc m) zero f b d = omega arith
pigeons (suc m) (suc n) f b d = omega (arith, pigeons m n (moved m n f b d) (moved-below m n f b d) (moved-distinct m n f b d))
