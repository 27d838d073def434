-- Demand 3 for the bytes that the writer makes: the claim, whole. The words in quotes are document 01's, "Chunk reader", and
-- the demand's own.
use Rattle.std.specs.Prelude.{true, List, ◌≡◌, ℕ, ◌/◌, length, take, drop}
use Rattle.event.specs.Row.{Event, rows_at}
use Rattle.writer_spec.specs.Faults.{group}
use Rattle.writer_spec.specs.Names.{kept_names}
use Rattle.writer_spec.specs.Formed.{Words32}
use Rattle.writer_spec.specs.Writer as Writer
use Rattle.writer_spec.specs.Writer.{Writer, wrote, write_events}
use Rattle.stream_spec.specs.Stream.{Stream, Lent, create, created}
use Rattle.stream_spec.specs.Calls.{Call, Trace, run, start, Sound, Room, Delivers}

-- "What the writer made of an event list: the header and that list's events, from an empty pool, the list not refused": a
-- writer was created and then took a list, and neither call was refused
pub record Made (es : List Event) (document : List ℕ) : Type 0 where
  -- the output and the pool table, holding anything
  pub lent : Writer.Lent
  pub fresh : Writer
  pub created-it : (Writer.create lent).reply ≡ wrote fresh
  -- two stores, and u32 words that say the events
  pub first : List ℕ
  pub second : List ℕ
  pub rows : List ℕ
  pub words : Words32 rows
  pub says : es ≡ group (rows_at first second (length rows / 8) rows)
  -- the list call, and the bytes of the output that it counts
  pub after : Writer
  pub took_it : (write_events fresh first second rows (Writer.create lent).lent).reply ≡ wrote after
  pub bytes : document ≡ take after.written (write_events fresh first second rows (Writer.create lent).lent).lent.output

-- The spaces: "window at least 64 and one byte over the longest event; rows for the event that has the most; pool pairs for
-- the distinct names (at most 65,535) and bytes for these". Less is asked here, so more is claimed:
-- - of the window nothing but what creation asks (at least 64): every byte was accepted, so each event has had its place in it;
-- - of the rows, "needed only at the next calls of demand 3's last sentence", room at each next for the event that it gives.
abbrev pub Spaces : List Event → Lent → Type 0
Spaces es l = Room (kept_names es) l

-- after a list of calls on a reader that was created with the buffers l
pub record Demand3 (l : Lent) (t : Trace) : Type 0 where
  -- "what is handed out is a beginning of what the grammar reads from the accepted bytes; the lengths add up", and the
  -- bytes waiting are the accepted ones after those
  pub sound : Sound t
  -- "on written bytes, End means that exactly that list came out"
  pub exact : (es : List Event) → Made es t.accepted → t.ended ≡ true → t.handed ≡ es
  -- "after finish the remaining events come, one a next, then End". "Remaining: events of the written list not handed out"
  pub lively : (es : List Event) → Made es t.accepted → Spaces es l → t.finished ≡ true → Delivers (drop (length t.handed) es) t

-- "a single claim about the whole list of calls". "Fresh is the state a creation not refused returned, with its buffers
-- (window, pool table, name store) holding anything"
abbrev pub Demand3-holds : Type 0
Demand3-holds = (r : Stream) (l : Lent) → create l ≡ created r → (cs : List Call) → Demand3 l (run (start r l) cs)
