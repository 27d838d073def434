-- What the code's states and answers say, in the terms of the chunk reader's definition.
use Rattle.std.specs.Prelude.{Bool, true, cond, List, [], ℕ, ◌+◌, ◌*◌, ◌≤◌, length, Result, Ok, Err}
use Rattle.wire.specs.Answers.{number_of, detail_of}
use Rattle.wire.specs.declared.Refusal.{Refusal}
use Rattle.wire.specs.declared.Refusal.TheVariants.{BadSize, BadState, AlreadyFinished}
use Rattle.wire.specs.Limits.{max_store, max_window, max_table}
use Rattle.stream_spec.specs.Stream.{Stream, Lent, Left, Reply, took, done, gives, need_more, end, sizes_bad, state_bad}
use Rattle.stream_spec.specs.Stream as Defined
use Rattle.stream.specs.declared.Stream as Coded
use Rattle.stream.specs.declared.Fed.{Fed}
use Rattle.stream.specs.declared.Answer.{Answer}

abbrev pub stream_of : Coded.Stream → Stream
stream_of s =
    record { start = s.start; end = s.end; names = s.names; bytes = s.bytes; header = s.header; finished = s.finished }

-- what a call is lent: window, pool table and name store
abbrev pub lend : List ℕ → List ℕ → List ℕ → Lent
lend window table store = record { window = window; table = table; store = store }

-- ---- what every call checks first

unfoldable pub fault : Stream → Lent → Result Unit Refusal
fault r l = cond (sizes_bad l) (Err BadSize) (cond (state_bad r l) (Err BadState) (Ok tt))

-- and for a call that is refused after a finish
abbrev pub unless_open : Result Unit Refusal → Bool → Result Unit Refusal
unless_open (Ok x) finished = cond finished (Err AlreadyFinished) (Ok x)
unless_open (Err e) finished = Err e

unfoldable pub open_fault : Stream → Lent → Result Unit Refusal
open_fault r l = unless_open (fault r l) r.finished

-- what then holds of the places and counts
pub record Fits (r : Stream) (l : Lent) : Type 0 where
  pub start_fits : r.start ≤ r.end
  pub end_fits : r.end ≤ length l.window
  pub names-fit : 2 * r.names ≤ length l.table
  pub bytes_fit : r.bytes ≤ length l.store
  pub window-small : length l.window ≤ max_window
  pub table-small : length l.table ≤ max_table
  pub store-small : length l.store ≤ max_store

-- the state after an event at `from`, with what the event adds to it
abbrev pub later : Stream → ℕ → ℕ → ℕ → ℕ → Stream
later r from len added bytes =
    record { start = from + len; end = r.end; names = r.names + added; bytes = r.bytes + bytes; header = true; finished = r.finished }

-- it stays in the buffers
pub record Sums (r : Stream) (from len added bytes : ℕ) : Type 0 where
  pub end-within : from + len ≤ r.end
  pub names-small : r.names + added ≤ max_table
  pub bytes_small : r.bytes + bytes ≤ max_store

-- ---- answers; a refusal carries no state, and leaves that which the call was given

abbrev pub created_of : Result Coded.Stream Refusal → Defined.Created
created_of (Ok s) = Defined.created (stream_of s)
created_of (Err e) = Defined.Created.refused (number_of e) (detail_of e)

abbrev pub left : Coded.Stream → Lent → List ℕ → Reply → Left
left s l rows q = record { reply = q; stream = stream_of s; lent = l; rows = rows }

abbrev pub fed_of : Coded.Stream → Lent → Result Fed Refusal → Left
fed_of old l (Ok x) = left x.stream l [] (took x.count)
fed_of old l (Err e) = left old l [] (Reply.refused (number_of e) (detail_of e))

abbrev pub closed_of : Coded.Stream → Lent → Result Coded.Stream Refusal → Left
closed_of old l (Ok s) = left s l [] done
closed_of old l (Err e) = left old l [] (Reply.refused (number_of e) (detail_of e))

abbrev pub answer_of : Coded.Stream → Lent → List ℕ → Result Answer Refusal → Left
answer_of old l rows (Ok (Answer.Event n s)) = left s l rows (gives n)
answer_of old l rows (Ok (Answer.NeedMore s)) = left s l rows need_more
answer_of old l rows (Ok (Answer.End s)) = left s l rows end
answer_of old l rows (Err e) = left old l rows (Reply.refused (number_of e) (detail_of e))
