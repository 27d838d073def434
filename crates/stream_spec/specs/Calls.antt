-- Lists of feed, next and finish calls on one chunk reader, what has come of them, and what is claimed of that. The words
-- in quotes are document 01's, "Chunk reader".
use Rattle.std.specs.Prelude.{Bool, true, false, cond, List, [], ◌∷◌, ◌++◌, ◌⊎◌, ◌≡◌, ℕ, ◌+◌, ◌*◌, ◌-◌, ◌/◌, ◌≤◌, ◌<◌, length, take, drop, leb}
use Rattle.std.proofs.Math.Option.{none}
use Rattle.std.proofs.Math.Seq.{slice}
use Rattle.wire.specs.Refusal.{invalid_magic, rows_full, pool_full, names_full, window_full}
use Rattle.event.specs.Row.{Event, rows_at}
use Rattle.grammar.specs.Document.{Pool, pool_bytes, Reading, reads, stopped, read, events, sizes, last_pool, total, left, names_of, Open, Lasting, Last}
use Rattle.stream_spec.specs.Stream.{Stream, Lent, Left, Reply, took, done, gives, need_more, end, refused, unchanged, feed, finish, next}

-- ---- lists of calls

-- "chunk and rows may be others at each call"
pub data Call : Type 0 where
  call-feed : List ℕ → Call
  call_next : List ℕ → Call
  call-finish : Call

-- what has come of a list of calls: the state and the buffers as the last call left them, the bytes accepted, the events
-- handed out, the header bytes passed, whether a finish was not refused, and whether a next answered End
pub record Trace : Type 0 where
  pub stream : Stream
  pub lent : Lent
  pub accepted : List ℕ
  pub handed : List Event
  pub header : ℕ
  pub finished : Bool
  pub ended : Bool

-- "of each feed not refused, the first bytes of its chunk, as many as it says, joined in order"
unfoldable pub accepted_by : List ℕ → List ℕ → Reply → List ℕ
accepted_by accepted chunk (took n) = accepted ++ take n chunk
accepted_by accepted chunk done = accepted
accepted_by accepted chunk (gives n) = accepted
accepted_by accepted chunk need_more = accepted
accepted_by accepted chunk end = accepted
accepted_by accepted chunk (refused n d) = accepted

-- "for each Event, as many rows as that next counts, their bytes looked up in the window and name store it left"
unfoldable pub handed_by : List Event → Lent → List ℕ → Reply → List Event
handed_by handed l rows (gives n) = handed ++ (rows_at l.window l.store n rows ∷ [])
handed_by handed l rows (took n) = handed
handed_by handed l rows done = handed
handed_by handed l rows need_more = handed
handed_by handed l rows end = handed
handed_by handed l rows (refused n d) = handed

-- "4 once a next has answered Event or End, or NeedMore with 4 or more bytes accepted before it; else 0"
unfoldable pub header_by : ℕ → List ℕ → Reply → ℕ
header_by header accepted (gives n) = 4
header_by header accepted end = 4
header_by header accepted need_more = cond (leb 4 (length accepted)) 4 header
header_by header accepted (took n) = header
header_by header accepted done = header
header_by header accepted (refused n d) = header

unfoldable pub finished_by : Bool → Reply → Bool
finished_by finished done = true
finished_by finished end = finished
finished_by finished (gives n) = finished
finished_by finished need_more = finished
finished_by finished (took n) = finished
finished_by finished (refused n d) = finished

unfoldable pub ended_by : Bool → Reply → Bool
ended_by ended end = true
ended_by ended (gives n) = ended
ended_by ended need_more = ended
ended_by ended (took n) = ended
ended_by ended done = ended
ended_by ended (refused n d) = ended

-- one call more, which left x
unfoldable pub after_feed : Trace → List ℕ → Left → Trace
after_feed t chunk x =
    record {
      stream = x.stream;
      lent = x.lent;
      accepted = accepted_by t.accepted chunk x.reply;
      handed = t.handed;
      header = t.header;
      finished = t.finished;
      ended = t.ended;
    }

unfoldable pub after_next : Trace → Left → Trace
after_next t x =
    record {
      stream = x.stream;
      lent = x.lent;
      accepted = t.accepted;
      handed = handed_by t.handed x.lent x.rows x.reply;
      header = header_by t.header t.accepted x.reply;
      finished = t.finished;
      ended = ended_by t.ended x.reply;
    }

unfoldable pub after_finish : Trace → Left → Trace
after_finish t x =
    record {
      stream = x.stream;
      lent = x.lent;
      accepted = t.accepted;
      handed = t.handed;
      header = t.header;
      finished = finished_by t.finished x.reply;
      ended = t.ended;
    }

unfoldable pub step : Trace → Call → Trace
step t (call-feed chunk) = after_feed t chunk (feed t.stream t.lent chunk)
step t (call_next rows) = after_next t (next t.stream t.lent rows)
step t call-finish = after_finish t (finish t.stream t.lent)

unfoldable pub run : Trace → List Call → Trace
run t [] = t
run t (c ∷ cs) = run (step t c) cs

-- before the first call
abbrev pub start : Stream → Lent → Trace
start r l = record { stream = r; lent = l; accepted = []; handed = []; header = 0; finished = false; ended = false }

-- ---- what is claimed after every list of calls

-- the bytes of the header passed and of the events handed out
unfoldable pub consumed : Trace → ℕ
consumed t = t.header + total (take (length t.handed) (sizes (read t.accepted)))

-- "Bytes waiting: as many as the state returned last counts"
abbrev pub waits : Stream → ℕ
waits r = r.end - r.start

pub record Sound (t : Trace) : Type 0 where
  -- what is handed out is a beginning of what the grammar reads from the accepted bytes
  pub rest : List Event
  pub beginning : t.handed ++ rest ≡ events (read t.accepted)
  -- the lengths add up: header bytes passed, events handed out and bytes waiting are the bytes accepted
  pub sum : length t.accepted ≡ consumed t + waits t.stream
  -- "in the window they are the accepted bytes after that header and those events"
  pub waiting : slice t.stream.start t.stream.end t.lent.window ≡ drop (consumed t) t.accepted
  -- End means that all that the grammar reads from the accepted bytes came out
  pub exact : t.ended ≡ true → t.handed ≡ events (read t.accepted)
  -- and, "finished, header passed, none waiting", that it read to its end
  pub drained : t.ended ≡ true → (t.stream.finished ≡ true) × (t.stream.header ≡ true) × (waits t.stream ≡ 0) × (last_pool (read t.accepted) ≡ none → ⊥)

-- ---- when a next needs more, and what is claimed after it

-- "exactly when unfinished, header or event incomplete, and the window isn't full": the grammar, were the accepted bytes all, would be left
-- with `Last` of those that wait, "counted without a header just passed". Fewer than four bytes are no header, and nothing is counted
pub record Incomplete (t : Trace) : Type 0 where
  pub unfinished : t.finished ≡ false
  pub waiting : ℕ
  pub counted : 4 ≤ length t.accepted → length t.accepted ≡ 4 + total (take (length t.handed) (sizes (read t.accepted))) + waiting
  pub lacking : Last waiting (left (length t.handed) (read t.accepted))
  pub feedable : waiting < length t.lent.window

-- No NeedMore holds back an event that could be handed out. No finish was accepted, a feed has room, and of the events that the grammar reads
-- from the accepted bytes at most one is not handed out, which ends where they end (a start tag, since more attributes may follow).
-- And it stands for no refusal but of bytes that lack
pub record Prompt (t : Trace) : Type 0 where
  pub unfinished : t.finished ≡ false
  pub feedable : waits t.stream < length t.lent.window
  pub all_but_last : (e : Event) (es : List Event) → t.handed ++ (e ∷ es) ≡ events (read t.accepted)
      → (es ≡ []) × (length t.accepted ≡ t.header + total (sizes (read t.accepted)))
  -- what is left to read of them, were they all: nothing; a start tag that takes all that wait; or a header or an event that lacks
  -- bytes, with 1, 3, 4 or 5
  pub awaits : Last (waits t.stream) (left (length t.handed) (read t.accepted))

-- ---- what is claimed of a refused next

-- the grammar refuses: however the accepted bytes may go on, it reads of them the events handed out and then stops with
-- this number and detail. Until a finish these are 2 and 6 to 9, which no byte that follows can mend
pub record Stops (t : Trace) (n d : ℕ) : Type 0 where
  pub all-handed : (u : List ℕ) → Open t.finished u → events (read (t.accepted ++ u)) ≡ t.handed
  pub stops : (u : List ℕ) → Open t.finished u → left (length t.handed) (read (t.accepted ++ u)) ≡ stopped n d
  pub number : (1 ≤ n) × (n ≤ 9)
  pub early : t.finished ≡ false → (n ≡ invalid_magic) ⊎ Lasting n

-- the event e is the next one, however the accepted bytes may go on
pub record NextIs (t : Trace) (e : Event) : Type 0 where
  pub size : ℕ
  pub rest : List ℕ → Reading
  pub reading : (u : List ℕ) → Open t.finished u → left (length t.handed) (read (t.accepted ++ u)) ≡ reads e size (rest u)

-- what each refusal of a next means: 1 to 9, 10, 11, 12, 13. No other comes
pub data Refused (t : Trace) (rows : List ℕ) (n d : ℕ) : Type 0 where
  by-grammar : Stops t n d → Refused t rows n d
  -- the next event has more rows
  few-rows : (e : Event) → NextIs t e → length rows / 8 < length e → n ≡ rows_full → d ≡ 0 → Refused t rows n d
  -- the names up to the next event, and so the document's, have no room
  short-table : (e : Event) → NextIs t e → ((u : List ℕ) → Open t.finished u → length t.lent.table < 2 * length (names_of (t.accepted ++ u)))
      → n ≡ pool_full → d ≡ 0 → Refused t rows n d
  short-store : (e : Event) → NextIs t e → ((u : List ℕ) → Open t.finished u → length t.lent.store < pool_bytes (names_of (t.accepted ++ u)))
      → n ≡ names_full → d ≡ 0 → Refused t rows n d
  -- what waits past the header fills the window, and is no event yet
  full-window : t.finished ≡ false → Last (length t.lent.window) (left (length t.handed) (read t.accepted))
      → length t.accepted ≡ 4 + total (take (length t.handed) (sizes (read t.accepted))) + length t.lent.window
      → n ≡ window_full → d ≡ 0 → Refused t rows n d

-- ---- what is claimed once no more will come

-- pool pairs and name bytes for a pool of names
pub record Room (names : Pool) (l : Lent) : Type 0 where
  pub pairs-fit : 2 * length names ≤ length l.table
  pub bytes_fit : pool_bytes names ≤ length l.store

-- these events come, one a next that has rows for it, and then End, with any rows
abbrev pub Delivers : List Event → Trace → Type 0
Delivers [] t = (rows : List ℕ) → (next t.stream t.lent rows).reply ≡ end
Delivers (e ∷ es) t =
    (rows : List ℕ) → 8 * length e ≤ length rows
    → ((next t.stream t.lent rows).reply ≡ gives (length e))
    × ((step t (call_next rows)).handed ≡ t.handed ++ (e ∷ []))
    × Delivers es (step t (call_next rows))

-- what a reading has comes: each event at a next that has rows for it, else 10; then End, or the refusal at which it stops. A
-- refused next leaves all as it was, so that it is refused again
abbrev pub Answers : Reading → Trace → Type 0
Answers (reads e n r) t =
    (rows : List ℕ)
    → (length rows < 8 * length e → next t.stream t.lent rows ≡ unchanged t.stream t.lent rows (refused rows_full 0))
    × (8 * length e ≤ length rows
    → ((next t.stream t.lent rows).reply ≡ gives (length e))
    × ((step t (call_next rows)).handed ≡ t.handed ++ (e ∷ []))
    × Answers r (step t (call_next rows)))
Answers (Reading.ended p) t = (rows : List ℕ) → (next t.stream t.lent rows).reply ≡ end
Answers (stopped n d) t = (rows : List ℕ) → next t.stream t.lent rows ≡ unchanged t.stream t.lent rows (refused n d)
