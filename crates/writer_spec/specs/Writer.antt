-- The writer's calls, as functions of the state and of what is lent: document 01, "Writer" and "Refusals by place".
use Rattle.std.specs.Prelude.{Bool, true, false, ◌||◌, not, cond, List, [], ◌∷◌, ◌++◌, ℕ, zero, suc, ◌+◌, ◌*◌, ◌/◌, ◌%◌, length, get_or, drop, ltb, leb, eqb}
use Rattle.std.proofs.Math.Option.{Option, none, some}
use Rattle.std.proofs.lemmas.List.Edits.{sets}
use Rattle.wire.specs.Header.{magic_bytes}
use Rattle.wire.specs.Refusal.{bad_size, bad_state, not_rows, pool_full, output_full}
use Rattle.wire.specs.Limits.{max_store, max_table}
use Rattle.wire.specs.Token.{attribute}
use Rattle.event.specs.Span.{part, same}
use Rattle.event.specs.Row.{Row, shape, has_name, rows_at}
use Rattle.event.specs.Words.{list_forms, event_forms}
use Rattle.grammar.specs.Document.{Pool}
use Rattle.writer_spec.specs.Encode.{row_bytes, keep_row, rows_bytes, keep_rows}
use Rattle.writer_spec.specs.Faults.{first_fault, string_fault, value_fault}

-- the first `written` bytes of the output are used, the header included; the pool table has `names` pairs
pub record Writer : Type 0 where
  pub written : ℕ
  pub names : ℕ

-- what every call lends to be written: the output, and the pool table, whose pairs (start, length) are spans of the output
pub record Lent : Type 0 where
  pub output : List ℕ
  pub table : List ℕ

-- what a call answers: the new state; or a refusal, its number and detail, after which the caller's state still stands
pub data Reply : Type 0 where
  wrote : Writer → Reply
  refused : ℕ → ℕ → Reply

-- what a call leaves: its answer, and every word that it may write
pub record Left : Type 0 where
  pub reply : Reply
  pub lent : Lent

-- ---- refusals: none, or the first, with its number and detail

abbrev pub Refusal : Type 0
Refusal = Option (ℕ × ℕ)

infixr 20 ◌before◌
abbrev pub ◌before◌ : Refusal → Refusal → Refusal
f before g = first_fault f g

abbrev pub refuse_if : Bool → ℕ → Refusal
refuse_if test number = cond test (some (number, 0)) none

-- 17: the output is too long, or the pool table is no pairs or too long
unfoldable pub sizes_bad : Lent → Bool
sizes_bad l = ltb max_store (length l.output) || (eqb (length l.table % 2) 1 || ltb max_table (length l.table))

-- 19 for the state: it counts more bytes or pairs than are lent. A place inside the header is a place in the output
unfoldable pub state_bad : Writer → Lent → Bool
state_bad w l = ltb (length l.output) w.written || ltb (length l.table) (2 * w.names)

-- ---- the pool

-- The names that so many pairs span in the output as the call finds it. Every search of the call is among these, with the
-- call's own new names after them: a pair past `written`, which no call of the writer leaves, counts with the bytes that
-- stood there before. A pair that ends outside the output is read as empty, and a search that meets it is refused.
unfoldable pub pool_at : List ℕ → ℕ → List ℕ → Pool
pool_at output zero pairs = []
pool_at output (suc n) pairs = part output (get_or pairs 0 0) (get_or pairs 1 0) ∷ pool_at output n (drop 2 pairs)

-- 19 in a search: a pair that ends outside the output comes before any whose bytes are the name
unfoldable pub meets_bad : List ℕ → ℕ → List ℕ → List ℕ → Bool
meets_bad output zero pairs name = false
meets_bad output (suc n) pairs name =
    cond (leb (get_or pairs 0 0 + get_or pairs 1 0) (length output))
    (cond (same (part output (get_or pairs 0 0) (get_or pairs 1 0)) name) false (meets_bad output n (drop 2 pairs) name))
    true

-- ---- event by event: its strings, then the room for it; `bad` says whose search is refused

-- a row's strings in order: of the name 14, 7 and then the 19 of its search; of the value 14 and 7
unfoldable pub row_refusal : (List ℕ → Bool) → Row → Refusal
row_refusal bad r =
    cond (has_name r.kind) (string_fault r.name before refuse_if (bad r.name) bad_state) none
    before value_fault (shape r.type) r.value

-- where an event ends at this place and leaves this pool: 11, the table is too short for it; then 15, the output is
unfoldable pub room_refusal : Lent → ℕ → Pool → Refusal
room_refusal l at pool = refuse_if (ltb (length l.table) (2 * length pool)) pool_full before refuse_if (ltb (length l.output) at) output_full

-- an event ends before these rows: no attribute comes next
unfoldable pub ends : List Row → Bool
ends [] = true
ends (r ∷ rs) = not (eqb r.kind attribute)

-- rows from a place of the output on, with a pool: the strings row by row, the room at each event's last row
unfoldable pub rows_refusal : Lent → (List ℕ → Bool) → ℕ → Pool → List Row → Refusal
rows_refusal l bad at pool [] = none
rows_refusal l bad at pool (r ∷ rs) =
    let after : ℕ = at + length (row_bytes pool r) in
    let pool' : Pool = keep_row pool r in
    row_refusal bad r before cond (ends rs) (room_refusal l after pool') none before rows_refusal l bad after pool' rs

-- ---- the pairs of new names

-- of a row at a place, whose name joins the pool: its bytes stand after the token, FFFF and the length
unfoldable pub row_pairs : ℕ → Pool → Row → List ℕ
row_pairs at pool r = cond (ltb (length pool) (length (keep_row pool r))) ((at + 5) ∷ length r.name ∷ []) []

unfoldable pub rows_pairs : ℕ → Pool → List Row → List ℕ
rows_pairs at pool [] = []
rows_pairs at pool (r ∷ rs) = row_pairs at pool r ++ rows_pairs (at + length (row_bytes pool r)) (keep_row pool r) rs

-- ---- the calls

-- a refused call changes nothing; any other does what it is there for
unfoldable pub unless : Refusal → Lent → Left → Left
unless (some (number, detail)) l x = record { reply = refused number detail; lent = l }
unless none l x = x

-- the header, and an empty pool
unfoldable pub begin : Lent → Left
begin l =
    record {
      reply = wrote (record { written = 4; names = 0 });
      lent = record { output = sets l.output 0 magic_bytes; table = l.table };
    }

unfoldable pub create : Lent → Left
create l = unless (refuse_if (sizes_bad l) bad_size before refuse_if (ltb (length l.output) 4) output_full) l (begin l)

-- 17, 19, 16, then event by event
unfoldable pub refusal : Bool → Writer → Lent → List Row → Refusal
refusal formed w l rs =
    refuse_if (sizes_bad l) bad_size
    before refuse_if (state_bad w l) bad_state
    before refuse_if (not formed) not_rows
    before rows_refusal l (meets_bad l.output w.names l.table) w.written (pool_at l.output w.names l.table) rs

-- the state after rows
abbrev pub advanced : Writer → Pool → List Row → Writer
advanced w pool rs = record { written = w.written + length (rows_bytes pool rs); names = length (keep_rows pool rs) }

-- the rows' bytes come after those written, the pairs of new names after those of the table; all else stays
unfoldable pub append : Writer → Lent → List Row → Left
append w l rs =
    let pool : Pool = pool_at l.output w.names l.table in
    record {
      reply = wrote (advanced w pool rs);
      lent =
          record {
            output = sets l.output w.written (rows_bytes pool rs);
            table = sets l.table (2 * w.names) (rows_pairs w.written pool rs);
          };
    }

unfoldable pub write : Bool → Writer → Lent → List Row → Left
write formed w l rs = unless (refusal formed w l rs) l (append w l rs)

-- words as rows, their spans in two stores
abbrev pub rows_in : List ℕ → List ℕ → List ℕ → List Row
rows_in first second rows = rows_at first second (length rows / 8) rows

-- exactly one event
unfoldable pub write_event : Writer → List ℕ → List ℕ → List ℕ → Lent → Left
write_event w first second rows l = write (event_forms first second rows) w l (rows_in first second rows)

-- a list of events
unfoldable pub write_events : Writer → List ℕ → List ℕ → List ℕ → Lent → Left
write_events w first second rows l = write (list_forms first second rows) w l (rows_in first second rows)
