-- What a writer that is not refused has written: exactly `encode` of the events so far.
use Rattle.std.specs.Prelude.{false, ◌≡◌, refl, take, drop}
use mathlib.Core.List.{List, [], ◌∷◌, ◌++◌, append_assoc}
use Rattle.std.proofs.Common.{ap, ◌∙◌, add-zero, add_assoc, take-append-drop}
use Prim.Native.Nat.{ℕ, ◌+◌, ◌*◌, ◌≤◌}
use native.Mathlib.Omega.{arith}
use Rattle.std.proofs.Math.ListN.{length, length-append}
use Rattle.byte_copy.specs.Sets.{take-sets}
use Rattle.wire.specs.Header.{magic_bytes}
use Rattle.event.specs.Row.{Row, Event}
use Rattle.grammar.specs.Document.{Pool}
use Rattle.writer_spec.specs.Encode.{row_bytes, keep_row, rows_bytes, keep_rows, flat, encode}
use Rattle.writer_spec.specs.Faults.{group}
use Rattle.writer_spec.proofs.Taken.{flat-group}
use Rattle.writer_spec.specs.Writer.{Writer, Lent, Reply, wrote, pool_at, meets_bad, row_pairs, rows_pairs, advanced, append}
use Rattle.writer_spec.proofs.Held.{Holds, empty, holds-length, pool-found, never-bad, rows-hold, pairs-count}

-- ---- rows after rows

pub keep_rows-append : (a b : List Row) (pool : Pool) → keep_rows pool (a ++ b) ≡ keep_rows (keep_rows pool a) b
unfolding keep_rows
keep_rows-append [] b pool = refl
keep_rows-append (r ∷ a) b pool = keep_rows-append a b (keep_row pool r)

pub rows_bytes-append : (a b : List Row) (pool : Pool) → rows_bytes pool (a ++ b) ≡ rows_bytes pool a ++ rows_bytes (keep_rows pool a) b
unfolding rows_bytes keep_rows
rows_bytes-append [] b pool = refl
rows_bytes-append (r ∷ a) b pool =
    rw (rows_bytes-append a b (keep_row pool r), append_assoc (row_bytes pool r) (rows_bytes (keep_row pool r) a))

pub rows_pairs-append : (a b : List Row) (at : ℕ) (pool : Pool)
    → rows_pairs at pool (a ++ b) ≡ rows_pairs at pool a ++ rows_pairs (at + length (rows_bytes pool a)) (keep_rows pool a) b
unfolding rows_pairs rows_bytes keep_rows
rows_pairs-append [] b at pool = rw (add-zero at)
rows_pairs-append (r ∷ a) b at pool =
    rw (
      rows_pairs-append a b (at + length (row_bytes pool r)) (keep_row pool r),
      length-append (row_bytes pool r) (rows_bytes (keep_row pool r) a),
      append_assoc (row_pairs at pool r),
      add_assoc at (length (row_bytes pool r)),
    )

pub flat_append : (a b : List Event) → flat (a ++ b) ≡ flat a ++ flat b
unfolding flat
flat_append [] b = refl
flat_append (e ∷ a) b = rw (flat_append a b, append_assoc e (flat a))

-- ---- the invariant

-- the pool after events, and its pairs: where its names stand in the document
abbrev pub pool_after : List Event → Pool
pool_after es = keep_rows [] (flat es)

abbrev pub pairs_after : List Event → List ℕ
pairs_after es = rows_pairs 4 [] (flat es)

-- the events so far are what the output's first bytes and the table's first pairs say
pub record Wrote (es : List Event) (w : Writer) (l : Lent) : Type 0 where
  pub bytes : take w.written l.output ≡ encode es
  pub pairs : take (2 * w.names) l.table ≡ pairs_after es
  pub length-is : w.written ≡ length (encode es)
  pub count-is : w.names ≡ length (pool_after es)

document-holds : (es : List Event) → Holds (encode es) (pairs_after es) (pool_after es)
unfolding encode
document-holds es = rows-hold (flat es) magic_bytes [] [] empty

-- what a further list of rows adds
module _ (es : List Event) (rs : List Row) where
  flat-more : flat (es ++ group rs) ≡ flat es ++ rs
  flat-more = flat_append es (group rs) ∙ ap (λ (x : List Row). flat es ++ x) (flat-group rs)

  pub encode-more : encode (es ++ group rs) ≡ encode es ++ rows_bytes (pool_after es) rs
  unfolding encode
  encode-more = rw (flat-more, rows_bytes-append (flat es) rs [])

  pub pool-more : pool_after (es ++ group rs) ≡ keep_rows (pool_after es) rs
  pool-more = rw (flat-more, keep_rows-append (flat es) rs [])

  pairs-more : pairs_after (es ++ group rs) ≡ pairs_after es ++ rows_pairs (length (encode es)) (pool_after es) rs
  unfolding encode
  pairs-more =
      let e : 4 + length (rows_bytes [] (flat es)) ≡ length (encode es) = omega arith in
      rw (flat-more, rows_pairs-append (flat es) rs 4 [], e)

-- a reply says one state
pub wrote-is : (q : Reply) (a b : Writer) → q ≡ wrote a → q ≡ wrote b → a ≡ b
wrote-is q a b h k = cc

module _ (es : List Event) (w : Writer) (l : Lent) (h : Wrote es w l) where
  output-splits : encode es ++ drop w.written l.output ≡ l.output
  output-splits = rw (← h.bytes) (take-append-drop w.written l.output)

  table-splits : pairs_after es ++ drop (2 * w.names) l.table ≡ l.table
  table-splits = rw (← h.pairs) (take-append-drop (2 * w.names) l.table)

  pub pool-is : pool_at l.output w.names l.table ≡ pool_after es
  pool-is =
      rw (output-splits, table-splits, ← h.count-is)
      at (pool-found (encode es) (drop w.written l.output) (drop (2 * w.names) l.table) (pairs_after es) (pool_after es) (document-holds es))

  -- so a search of the writer's own pool is never refused
  pub search-sound : (name : List ℕ) → meets_bad l.output w.names l.table name ≡ false
  search-sound name =
      rw (output-splits, table-splits, ← h.count-is)
      at (never-bad (encode es) (drop w.written l.output) (drop (2 * w.names) l.table) (pairs_after es) (pool_after es) name (document-holds es))

  pub written-fits : w.written ≤ length l.output
  written-fits = omega (arith, length-append (encode es) (drop w.written l.output), ap length output-splits)

  pub names-fit : 2 * w.names ≤ length l.table
  names-fit =
      omega (arith, length-append (pairs_after es) (drop (2 * w.names) l.table), ap length table-splits, holds-length (encode es) (pairs_after es) (pool_after es) (document-holds es), h.count-is)

  -- rows for which there is room
  pub append-keeps : (rs : List Row) (w' : Writer) → w.written + length (rows_bytes (pool_after es) rs) ≤ length l.output
      → 2 * length (keep_rows (pool_after es) rs) ≤ length l.table → (append w l rs).reply ≡ wrote w'
      → Wrote (es ++ group rs) w' (append w l rs).lent
  unfolding append
  append-keeps rs w' o t e =
      let pool : Pool = pool_after es in
      let more : List ℕ = rows_bytes pool rs in
      let pairs : List ℕ = rows_pairs w.written pool rs in
      let same : w' ≡ advanced w pool rs = rw pool-is at (wrote-is (append w l rs).reply w' _ e refl) in
      let added : 2 * w.names + length pairs ≡ 2 * length (keep_rows pool rs) = rw h.count-is (pairs-count rs w.written pool) in
      rw (same, pool-is)
      (record {
        bytes = rw (encode-more es rs, ← h.bytes) (take-sets l.output more w.written o);
        pairs = rw (← added, pairs-more es rs, ← h.length-is, ← h.pairs) (take-sets l.table pairs (2 * w.names) (omega arith));
        length-is = rw (encode-more es rs, length-append (encode es) more, h.length-is);
        count-is = rw (pool-more es rs);
      })
