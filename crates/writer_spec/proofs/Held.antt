-- Where the pool's names stand: the pairs that the writer keeps span them in what it has written.
use Rattle.std.specs.Prelude.{true, false, List, [], ◌∷◌, ◌++◌, ◌≡◌, ℕ, ◌+◌, ◌*◌, ◌≤◌, ◌<◌, length, take, drop, leb}
use Rattle.std.proofs.Math.Option.{Option, none, some}
use Rattle.std.proofs.Common.{append_assoc, append-nil, ◌∙◌, arith, ltb-true, le-leb, lt-ltb, le-ltb, length-append}
use Rattle.std.proofs.Math.Path.{refl}
use Rattle.std.proofs.Math.Seq.{take-append_seam, drop-append_seam, drop-append-add}
use Rattle.wire.specs.Header.{be16}
use Rattle.wire.specs.Token.{interned_new}
use Rattle.grammar.specs.Grammar.{most}
use Rattle.event.specs.Span.{part, same}
use Rattle.event.specs.Row.{Row, has_name}
use Rattle.grammar.specs.Document.{Pool}
use Rattle.grammar.proofs.Choice.{by_test, cond-by}
use Rattle.grammar.proofs.Laws.{part-append}
use Rattle.writer_spec.specs.Encode.{sized, find, name_by, name_bytes, keep_by, keep, value_bytes, token_type, row_bytes, keep_row, rows_bytes, keep_rows}
use Rattle.writer_spec.specs.Writer.{pool_at, meets_bad, row_pairs, rows_pairs}

-- pairs that span a pool's names in these bytes
pub data Holds (s : List ℕ) : List ℕ → Pool → Type 0 where
  empty : Holds s [] []
  entry : (start len : ℕ) (name pairs : List ℕ) (pool : Pool) → start + len ≤ length s → take len (drop start s) ≡ name → Holds s pairs pool
      → Holds s (start ∷ len ∷ pairs) (name ∷ pool)

pub holds-length : (s pairs : List ℕ) (pool : Pool) → Holds s pairs pool → length pairs ≡ 2 * length pool
holds-length s _ _ empty = refl
holds-length s _ _ (entry start len name pairs pool h e hs) = omega (arith, holds-length s pairs pool hs)

-- more bytes change no name
holds_more : (s t pairs : List ℕ) (pool : Pool) → Holds s pairs pool → Holds (s ++ t) pairs pool
holds_more s t _ _ empty = empty
holds_more s t _ _ (entry start len name pairs pool h e hs) =
    entry start len name pairs pool (omega (arith, length-append s t)) (part-append s t len start h ∙ e) (holds_more s t pairs pool hs)

holds-append : (s a b : List ℕ) (p q : Pool) → Holds s a p → Holds s b q → Holds s (a ++ b) (p ++ q)
holds-append s _ b _ q empty k = k
holds-append s _ b _ q (entry start len name a p h e hs) k = entry start len name (a ++ b) (p ++ q) h e (holds-append s a b p q hs k)

-- ---- a call finds that pool, and no pair that ends outside

module _ (s t more : List ℕ) where
  inside : (start len : ℕ) → start + len ≤ length s → leb (start + len) (length (s ++ t)) ≡ true
  inside start len h = le-leb (start + len) (length (s ++ t)) (omega (arith, length-append s t))

  pub pool-found : (pairs : List ℕ) (pool : Pool) → Holds s pairs pool → pool_at (s ++ t) (length pool) (pairs ++ more) ≡ pool
  unfolding pool_at part
  pool-found _ _ empty = refl
  pool-found _ _ (entry start len name pairs pool h e hs) = rw (inside start len h, part-append s t len start h, e, pool-found pairs pool hs)

  pub never-bad : (pairs : List ℕ) (pool : Pool) (name : List ℕ) → Holds s pairs pool → meets_bad (s ++ t) (length pool) (pairs ++ more) name ≡ false
  unfolding meets_bad
  never-bad _ _ n empty = refl
  never-bad _ _ n (entry start len name pairs pool h e hs) =
      rw (inside start len h)
      (cond-by (λ b. b ≡ false) (same (part (s ++ t) start len) n) _ _ (λ _. refl) (λ _. never-bad pairs pool n hs))

-- ---- what a row does to the pool

-- nothing; or its name joins, and its bytes are the sixth and following of the row's
data Joins (pool : Pool) (r : Row) : Type 0 where
  stays : keep_row pool r ≡ pool → Joins pool r
  joins : (front rest : List ℕ) → length front ≡ 5 → row_bytes pool r ≡ front ++ (r.name ++ rest) → keep_row pool r ≡ pool ++ (r.name ∷ [])
      → length pool < most → Joins pool r

joins-new : (pool : Pool) (r : Row) → has_name r.kind ≡ true → find pool r.name ≡ none → Joins pool r
unfolding keep_row keep keep_by row_bytes name_bytes name_by sized be16
joins-new pool r h f =
    let front : List ℕ = (token_type r * 16 + r.kind) ∷ (be16 interned_new ++ be16 (length r.name)) in
    let kept : keep_row pool r ≡ keep_by pool r.name none = rw (h, f) in
    let by-room : keep_row pool r ≡ keep_by pool r.name none → Joins pool r =
    cond-by (λ (x : Pool). keep_row pool r ≡ x → Joins pool r) _ _ _
    (λ a e. joins front (value_bytes r.value) refl (rw (h, f)) e (ltb-true _ _ a)) (λ a e. stays e) in
    by-room kept

joins-known : (pool : Pool) (r : Row) (o : Option ℕ) → has_name r.kind ≡ true → find pool r.name ≡ o → Joins pool r
unfolding keep_row keep keep_by
joins-known pool r none h f = joins-new pool r h f
joins-known pool r (some i) h f = stays (rw (h, f))

row-joins : (pool : Pool) (r : Row) → Joins pool r
unfolding keep_row
row-joins pool r = by_test (has_name r.kind) (λ h. joins-known pool r (find pool r.name) h refl) (λ h. stays (rw h))

-- ---- the pairs span the pool after every row

keep-stays : (s pairs : List ℕ) (pool : Pool) (r : Row) → Holds s pairs pool → keep_row pool r ≡ pool
    → Holds (s ++ row_bytes pool r) (pairs ++ row_pairs (length s) pool r) (keep_row pool r)
unfolding row_pairs
keep-stays s pairs pool r h e =
    rw (e, le-ltb (length pool) (length pool) (omega arith), append-nil pairs) (holds_more s (row_bytes pool r) pairs pool h)

row-holds : (s pairs : List ℕ) (pool : Pool) (r : Row) → Joins pool r → Holds s pairs pool
    → Holds (s ++ row_bytes pool r) (pairs ++ row_pairs (length s) pool r) (keep_row pool r)
unfolding row_pairs
row-holds s pairs pool r (stays e) h = keep-stays s pairs pool r h e
row-holds s pairs pool r (joins front rest five b e room) h =
    let name : List ℕ = r.name in
    let there : take (length name) (drop (length s + 5) (s ++ row_bytes pool r)) ≡ name =
    rw (b, drop-append-add s (front ++ (name ++ rest)) 5, ← five, drop-append_seam front (name ++ rest)) (take-append_seam name rest) in
    let fits : length s + 5 + length name ≤ length (s ++ row_bytes pool r) =
    rw b (omega (arith, length-append s (front ++ (name ++ rest)), length-append front (name ++ rest), length-append name rest)) in
    let one : Holds (s ++ row_bytes pool r) ((length s + 5) ∷ length name ∷ []) (name ∷ []) =
    entry (length s + 5) (length name) name [] [] fits there empty in
    rw (e, lt-ltb (length pool) (length (pool ++ (name ∷ []))) (omega (arith, length-append pool (name ∷ []))))
    (holds-append (s ++ row_bytes pool r) pairs ((length s + 5) ∷ length name ∷ []) pool (name ∷ []) (holds_more s (row_bytes pool r) pairs pool h) one)

pub rows-hold : (rs : List Row) (s pairs : List ℕ) (pool : Pool) → Holds s pairs pool
    → Holds (s ++ rows_bytes pool rs) (pairs ++ rows_pairs (length s) pool rs) (keep_rows pool rs)
unfolding rows_bytes rows_pairs keep_rows
rows-hold [] s pairs pool h = rw (append-nil s, append-nil pairs) h
rows-hold (r ∷ rs) s pairs pool h =
    rw (← append_assoc s (row_bytes pool r) (rows_bytes (keep_row pool r) rs), ← append_assoc pairs (row_pairs (length s) pool r), ← length-append s (row_bytes pool r))
    (rows-hold rs (s ++ row_bytes pool r) (pairs ++ row_pairs (length s) pool r) (keep_row pool r) (row-holds s pairs pool r (row-joins pool r) h))

-- two words for each name that joins
row_count : (at : ℕ) (pool : Pool) (r : Row) → Joins pool r → 2 * length pool + length (row_pairs at pool r) ≡ 2 * length (keep_row pool r)
unfolding row_pairs
row_count at pool r (stays e) = rw (e, le-ltb (length pool) (length pool) (omega arith)) (omega arith)
row_count at pool r (joins front rest five b e room) =
    let more : length (pool ++ (r.name ∷ [])) ≡ length pool + 1 = length-append pool (r.name ∷ []) in
    rw (e, lt-ltb (length pool) (length (pool ++ (r.name ∷ []))) (omega arith)) (omega arith)

pub pairs-count : (rs : List Row) (at : ℕ) (pool : Pool) → 2 * length pool + length (rows_pairs at pool rs) ≡ 2 * length (keep_rows pool rs)
unfolding rows_pairs keep_rows
pairs-count [] at pool = omega arith
pairs-count (r ∷ rs) at pool =
    let after : ℕ = at + length (row_bytes pool r) in
    omega (arith, row_count at pool r (row-joins pool r), length-append (row_pairs at pool r) (rows_pairs after (keep_row pool r) rs), pairs-count rs after (keep_row pool r))

-- an index is a u16 other than FFFF: no name is kept past the limit
row-bounded : (pool : Pool) (r : Row) → Joins pool r → length pool ≤ most → length (keep_row pool r) ≤ most
row-bounded pool r (stays e) h = rw e h
row-bounded pool r (joins front rest five b e room) h = rw e (omega (arith, length-append pool (r.name ∷ [])))

pub rows-bounded : (rs : List Row) (pool : Pool) → length pool ≤ most → length (keep_rows pool rs) ≤ most
unfolding keep_rows
rows-bounded [] pool h = h
rows-bounded (r ∷ rs) pool h = rows-bounded rs (keep_row pool r) (row-bounded pool r (row-joins pool r) h)
