-- The chunk reader's calls, as functions of the state and of what is lent: document 01, "Chunk reader".
use Rattle.std.specs.Prelude.{Bool, true, false, ◌&&◌, ◌||◌, cond, List, [], ◌++◌, ℕ, ◌+◌, ◌*◌, ◌-◌, ◌/◌, ◌%◌, min, length, take, drop, ltb, eqb}
use Rattle.std.proofs.lemmas.List.Edits.{sets}
use Rattle.std.proofs.Math.Seq.{slice}
use Rattle.wire.specs.Header.{u32_at, magic}
use Rattle.wire.specs.Refusal.{header_short, invalid_magic, rows_full, pool_full, names_full, window_full, bad_size, already_finished, bad_state}
use Rattle.wire.specs.Limits.{max_store, min_window, max_window, max_table}
use Rattle.grammar.specs.Grammar.{Span, Items, event}
use Rattle.grammar.specs.Scan.{sound, adds, lengths, copied_pairs, joined, count, words, Outcome, complete, incomplete, bad, outcome}

-- the bytes of the window from `start` to `end` wait; the pool table has `names` pairs, the name store `bytes` bytes; whether
-- the header was passed, and whether a finish said that no more will come
pub record Stream : Type 0 where
  pub start : ℕ
  pub end : ℕ
  pub names : ℕ
  pub bytes : ℕ
  pub header : Bool
  pub finished : Bool

-- the buffers that every call lends: window, pool table and name store
pub record Lent : Type 0 where
  pub window : List ℕ
  pub table : List ℕ
  pub store : List ℕ

-- what a call answers: a feed took so many bytes; a finish is done; a next gives an event of so many rows, or needs more,
-- or is at the end; or a refusal, with its number and detail
pub data Reply : Type 0 where
  took : ℕ → Reply
  done : Reply
  gives : ℕ → Reply
  need_more : Reply
  end : Reply
  refused : ℕ → ℕ → Reply

-- what a call leaves: its answer, the state, and every lent word
pub record Left : Type 0 where
  pub reply : Reply
  pub stream : Stream
  pub lent : Lent
  pub rows : List ℕ

abbrev pub unchanged : Stream → Lent → List ℕ → Reply → Left
unchanged r l rows q = record { reply = q; stream = r; lent = l; rows = rows }

-- ---- what every call checks first

-- 17: a buffer of a length that no reader takes
unfoldable pub sizes_bad : Lent → Bool
sizes_bad l =
    ltb (length l.window) min_window || (ltb max_window (length l.window)
    || (eqb (length l.table % 2) 1 || (ltb max_table (length l.table) || ltb max_store (length l.store))))

-- 19: counts or places outside the buffers
unfoldable pub state_bad : Stream → Lent → Bool
state_bad r l =
    ltb r.end r.start || (ltb (length l.window) r.end
    || (ltb (length l.table) (2 * r.names) || ltb (length l.store) r.bytes))

-- 17, then 19, then what the call does
unfoldable pub checked : Stream → Lent → List ℕ → Left → Left
checked r l rows x =
    cond (sizes_bad l) (unchanged r l rows (refused bad_size 0)) (cond (state_bad r l) (unchanged r l rows (refused bad_state 0)) x)

-- ---- creation

-- a reader's state, or a refusal
pub data Created : Type 0 where
  created : Stream → Created
  refused : ℕ → ℕ → Created

abbrev pub fresh : Stream
fresh = record { start = 0; end = 0; names = 0; bytes = 0; header = false; finished = false }

unfoldable pub create : Lent → Created
create l = cond (sizes_bad l) (refused bad_size 0) (created fresh)

-- ---- feed and finish

-- how many bytes of a chunk fit after those that wait
abbrev pub fitting : Stream → Lent → List ℕ → ℕ
fitting r l chunk = min (length chunk) (length l.window - (r.end - r.start))

-- the waiting bytes move to the window's front, and the chunk's first bytes come after them; later window bytes stay
unfoldable pub fed : Stream → Lent → List ℕ → ℕ → Left
fed r l chunk n =
    record {
      reply = took n;
      stream = record { start = 0; end = r.end - r.start + n; names = r.names; bytes = r.bytes; header = r.header; finished = false };
      lent =
          record {
            window = slice r.start r.end l.window ++ (take n chunk ++ drop (r.end - r.start + n) l.window);
            table = l.table;
            store = l.store;
          };
      rows = [];
    }

unfoldable pub feed : Stream → Lent → List ℕ → Left
feed r l chunk = checked r l [] (cond r.finished (unchanged r l [] (refused already_finished 0)) (fed r l chunk (fitting r l chunk)))

-- no more will come
abbrev pub closed : Stream → Stream
closed r = record { start = r.start; end = r.end; names = r.names; bytes = r.bytes; header = r.header; finished = true }

unfoldable pub finish : Stream → Lent → Left
finish r l = checked r l [] (cond r.finished (unchanged r l [] (refused already_finished 0)) (unchanged (closed r) l [] done))

-- ---- next: an event that was read whole is handed out, where there is room, and its names are kept

-- `is` are the rows of the event that stands in the window from `from` on and has n bytes, `ts` the names that it adds
unfoldable pub given : Stream → Lent → List ℕ → ℕ → Items → ℕ → List Span → Left
given r l rows from is n ts =
    let table : List ℕ = sets l.table (2 * r.names) (copied_pairs r.bytes ts) in
    record {
      reply = gives (count is);
      stream =
          record { start = from + n; end = r.end; names = r.names + length ts; bytes = r.bytes + lengths ts; header = true; finished = r.finished };
      lent =
          record { window = l.window; table = table; store = sets l.store r.bytes (joined (slice from r.end l.window) ts) };
      rows = sets rows 0 (words 1 from table is);
    }

-- 10: too few whole rows; then 11: pool table too short; then 12: name store too short
unfoldable pub hand_out : Stream → Lent → List ℕ → ℕ → Items → ℕ → List Span → Left
hand_out r l rows from is n ts =
    cond (ltb (length rows / 8) (count is)) (unchanged r l rows (refused rows_full 0))
    (cond (ltb (length l.table) (2 * (r.names + length ts))) (unchanged r l rows (refused pool_full 0))
    (cond (ltb (length l.store) (r.bytes + lengths ts)) (unchanged r l rows (refused names_full 0))
    (given r l rows from is n ts)))

-- ---- next: by what stands in the window

-- the state with the header passed
abbrev pub passed : Stream → ℕ → Stream
passed r from = record { start = from; end = r.end; names = r.names; bytes = r.bytes; header = true; finished = r.finished }

-- 13: an incomplete event, and the waiting bytes, without a header just passed, fill the window
unfoldable pub by_outcome : Stream → Lent → List ℕ → ℕ → Items → Outcome → Left
by_outcome r l rows from is (complete n) = hand_out r l rows from is n (adds r.names is)
by_outcome r l rows from is incomplete =
    cond (eqb (r.end - from) (length l.window)) (unchanged r l rows (refused window_full 0)) (unchanged (passed r from) l rows need_more)
by_outcome r l rows from is (bad n d) = unchanged r l rows (refused n d)

-- past the header: the event that stands in the window from `from` on
unfoldable pub next_from : Stream → Lent → List ℕ → ℕ → Left
next_from r l rows from =
    let is : Items = event (sound r.names l.table (length l.store)) r.names (slice from r.end l.window) in
    cond (r.finished && eqb from r.end) (unchanged (passed r from) l rows end)
    (by_outcome r l rows from is (outcome r.finished is))

-- the header not yet passed
unfoldable pub next_header : Stream → Lent → List ℕ → Left
next_header r l rows =
    cond (ltb (r.end - r.start) 4) (cond r.finished (unchanged r l rows (refused header_short 0)) (unchanged r l rows need_more))
    (cond (eqb (u32_at l.window r.start) magic) (next_from r l rows (r.start + 4))
    (unchanged r l rows (refused invalid_magic (u32_at l.window r.start))))

unfoldable pub next : Stream → Lent → List ℕ → Left
next r l rows = checked r l rows (cond r.header (next_from r l rows r.start) (next_header r l rows))
