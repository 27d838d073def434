-- The laws of the writer's calls: a refused call changes nothing, and any other leaves `encode` of the events so far.
use Rattle.std.specs.Prelude.{Bool, true, false, not, cond, ◌≡◌, get_or, take, drop, ltb, eqb}
use Rattle.std.proofs.lemmas.Bool.{false≢true}
use Rattle.std.proofs.Math.Option.{none, some}
use mathlib.Core.List.{List, [], ◌∷◌, ◌++◌}
use Rattle.std.proofs.Math.Path.{refl}
use Rattle.std.proofs.Common.{sym, ap, arith, length-append}
use Prim.Native.Nat.{ℕ, zero, suc, ◌+◌, ◌*◌, ◌/◌, ◌%◌, ◌≤◌}
use borrow.Author.Tests.{ltb-false, le-ltb}
use Rattle.std.proofs.Math.ListN.{length}
use Rattle.std.proofs.lemmas.List.Edits.{sets-eq}
use Rattle.std.proofs.Math.Seq.{length-sets}
use Rattle.byte_copy.specs.Sets.{take-sets}
use Rattle.wire.specs.Header.{magic_bytes}
use Rattle.wire.specs.Refusal.{not_rows}
use Rattle.wire.specs.Limits.{max_store, max_table}
use Rattle.event.specs.Row.{Row, Event, row_at, rows_at}
use Rattle.event.specs.Words.{rows_form, list_forms, event_forms, attributes_only, single}
use Rattle.event.specs.Laws.{both}
use Rattle.grammar.proofs.Choice.{neither}
use Rattle.grammar.specs.Document.{Pool}
use Rattle.writer_spec.specs.Encode.{rows_bytes, keep_rows, flat, encode}
use Rattle.writer_spec.specs.Faults.{rows_fault, glue, group}
use Rattle.writer_spec.specs.Formed.{FormedEvents}
use Rattle.writer_spec.specs.Formed.{Words32}
use Rattle.writer_spec.proofs.Taken.{no-faults, taken}
use Rattle.writer_spec.specs.Writer.{Writer, Lent, wrote, refused, Left, Refusal, ◌before◌, refuse_if, sizes_bad, state_bad, pool_at, meets_bad, rows_refusal, rows_pairs, unless, advanced, begin, create, refusal, append, write, rows_in, write_event, write_events}
use Rattle.writer_spec.proofs.Held.{pairs-count}
use Rattle.writer_spec.proofs.Unrefused.{no-refuse, no-fault, fits, room-enough}
use Rattle.writer_spec.proofs.Wrote.{wrote-is, pool_after, Wrote, encode-more, pool-more, pool-is, search-sound, written-fits, names-fit, append-keeps}

-- ---- the calls

went : (f : Refusal) (l : Lent) (x : Left) (w : Writer) → (unless f l x).reply ≡ wrote w → f ≡ none
unfolding unless
went none l x w h = refl
went (some (n, d)) l x w h = absurd (let z : ◌≡◌ {A = ℕ} 0 1 = cc h in omega arith)

stayed : (f : Refusal) (l : Lent) (x : Left) (w : Writer) (n d : ℕ) → x.reply ≡ wrote w → (unless f l x).reply ≡ refused n d → (unless f l x).lent ≡ l
unfolding unless
stayed none l x w n d e h = absurd (let z : ◌≡◌ {A = ℕ} 0 1 = cc in omega arith)
stayed (some (m, k)) l x w n d e h = refl

-- a refused call changes nothing
pub create-refused : (l : Lent) (n d : ℕ) → (create l).reply ≡ refused n d → (create l).lent ≡ l
unfolding create begin
create-refused l n d = stayed _ l (begin l) _ n d refl

pub write-refused : (formed : Bool) (w : Writer) (l : Lent) (rs : List Row) (n d : ℕ) → (write formed w l rs).reply ≡ refused n d → (write formed w l rs).lent ≡ l
unfolding write append
write-refused formed w l rs n d = stayed (refusal formed w l rs) l (append w l rs) _ n d refl

pub event-refused : (w : Writer) (first second rows : List ℕ) (l : Lent) (n d : ℕ) → (write_event w first second rows l).reply ≡ refused n d
    → (write_event w first second rows l).lent ≡ l
unfolding write_event
event-refused w first second rows l = write-refused (event_forms first second rows) w l (rows_in first second rows)

pub list-refused : (w : Writer) (first second rows : List ℕ) (l : Lent) (n d : ℕ) → (write_events w first second rows l).reply ≡ refused n d
    → (write_events w first second rows l).lent ≡ l
unfolding write_events
list-refused w first second rows l = write-refused (list_forms first second rows) w l (rows_in first second rows)

-- a call that is not refused does what it is there for, and passed every test
pub record Passed (formed : Bool) (w : Writer) (l : Lent) (rs : List Row) : Type 0 where
  pub leaves : write formed w l rs ≡ append w l rs
  pub sizes : sizes_bad l ≡ false
  pub state : state_bad w l ≡ false
  pub rows-form : formed ≡ true
  pub by_rows : rows_refusal l (meets_bad l.output w.names l.table) w.written (pool_at l.output w.names l.table) rs ≡ none

pub passed : (formed : Bool) (w w' : Writer) (l : Lent) (rs : List Row) → (write formed w l rs).reply ≡ wrote w' → Passed formed w l rs
unfolding write refusal unless
passed formed w w' l rs h =
    let none_is : refusal formed w l rs ≡ none = went (refusal formed w l rs) l (append w l rs) w' h in
    let a = no-faults (refuse_if (sizes_bad l) 17) _ none_is in
    let b = no-faults (refuse_if (state_bad w l) 19) _ a.1 in
    let c = no-faults (refuse_if (not formed) 16) _ b.1 in
    record {
      leaves = ap (λ (f : Refusal). unless f l (append w l rs)) none_is;
      sizes = no-refuse _ 17 a.0;
      state = no-refuse _ 19 b.0;
      rows-form = not-false formed (no-refuse _ 16 c.0);
      by_rows = c.1;
    }
  where
    not-false : (b : Bool) → not b ≡ false → b ≡ true
    not-false true h = refl
    not-false false h = absurd (false≢true (sym h))

-- create: no events yet
pub create-wrote : (l : Lent) (w : Writer) → (create l).reply ≡ wrote w → Wrote [] w (create l).lent
unfolding create begin encode rows_bytes keep_rows rows_pairs flat unless
create-wrote l w h =
    let none_is = went (refuse_if (sizes_bad l) 17 before refuse_if (ltb (length l.output) 4) 15) l (begin l) w h in
    let long = ltb-false _ _ (no-refuse _ 15 (no-faults (refuse_if (sizes_bad l) 17) _ none_is).1) in
    let e : create l ≡ begin l = ap (λ (f : Refusal). unless f l (begin l)) none_is in
    let same : w ≡ record { written = 4; names = 0 } = wrote-is (create l).reply w _ h (rw e) in
    rw (same, e) (record { bytes = take-sets l.output magic_bytes 0 long; pairs = refl; length-is = refl; count-is = refl })

-- rows not refused: the events so far, and then these
pub write-wrote : (formed : Bool) (es : List Event) (w w' : Writer) (l : Lent) (rs : List Row) → Wrote es w l → (write formed w l rs).reply ≡ wrote w'
    → Wrote (es ++ group rs) w' (write formed w l rs).lent
write-wrote formed es w w' l rs h e =
    let p : Passed formed w l rs = passed formed w w' l rs e in
    let pool = pool-is es w l h in
    let room = fits l _ rs w.written (pool_after es) (written-fits es w l h) (rw h.count-is at (names-fit es w l h)) (rw pool at p.by_rows) in
    rw p.leaves (append-keeps es w l h rs w' room.0 room.1 (rw p.leaves at e))

-- ---- by words and stores

-- words as events
abbrev pub events_in : List ℕ → List ℕ → List ℕ → List Event
events_in first second rows = group (rows_in first second rows)

pub both-forms : (a b : Bool) → cond a b false ≡ true → (a ≡ true) × (b ≡ true)
both-forms true b h = (refl, h)
both-forms false b h = absurd (false≢true h)

-- rows of which all but the first are attributes are one event
one-event : (first second : List ℕ) (n : ℕ) (w : List ℕ) (r : Row) → attributes_only n w ≡ true
    → group (r ∷ rows_at first second n w) ≡ (r ∷ rows_at first second n w) ∷ []
unfolding attributes_only rows_at row_at group glue
one-event first second zero w r h = refl
one-event first second (suc n) w r h =
    let parts = both (eqb (get_or w 0 0) 15) (attributes_only n (drop 8 w)) h in
    rw (one-event first second n (drop 8 w) (row_at first second w) parts.1, parts.0)

single-event : (first second : List ℕ) (n : ℕ) (w : List ℕ) → single n w ≡ true → group (rows_at first second n w) ≡ rows_at first second n w ∷ []
unfolding single rows_at
single-event first second zero w h = absurd (false≢true h)
single-event first second (suc n) w h = one-event first second n (drop 8 w) (row_at first second w) h

module _ (first second rows : List ℕ) where
  pub list-rows : list_forms first second rows ≡ true → rows_form first second false (length rows / 8) rows ≡ true
  unfolding list_forms
  list-rows h = (both-forms (eqb (length rows % 8) 0) _ h).1

  -- the words of a single-event call say one event
  pub event-one : event_forms first second rows ≡ true → events_in first second rows ≡ rows_in first second rows ∷ []
  unfolding event_forms
  event-one h = single-event first second (length rows / 8) rows (both-forms (list_forms first second rows) _ h).1

  module _ (w w' : Writer) (l : Lent) where
    -- what is written can be written
    pub list-formed : Words32 rows → (write_events w first second rows l).reply ≡ wrote w' → FormedEvents (events_in first second rows)
    unfolding write_events
    list-formed small e =
        let p = passed (list_forms first second rows) w w' l (rows_in first second rows) e in
        taken first second (length rows / 8) rows small (list-rows p.rows-form) (no-fault l _ _ _ _ p.by_rows)

    pub event-formed : Words32 rows → (write_event w first second rows l).reply ≡ wrote w' → FormedEvents (events_in first second rows)
    unfolding write_event event_forms
    event-formed small e =
        let p = passed (event_forms first second rows) w w' l (rows_in first second rows) e in
        taken first second (length rows / 8) rows small (list-rows (both-forms (list_forms first second rows) _ p.rows-form).0) (no-fault l _ _ _ _ p.by_rows)

    module _ (es : List Event) (h : Wrote es w l) where
      pub list_wrote : (write_events w first second rows l).reply ≡ wrote w'
          → Wrote (es ++ events_in first second rows) w' (write_events w first second rows l).lent
      unfolding write_events
      list_wrote e = write-wrote (list_forms first second rows) es w w' l _ h e

      pub event-wrote : (write_event w first second rows l).reply ≡ wrote w'
          → Wrote (es ++ (rows_in first second rows ∷ [])) w' (write_event w first second rows l).lent
      unfolding write_event
      event-wrote e =
          let p = passed (event_forms first second rows) w w' l (rows_in first second rows) e in
          rw (← event-one p.rows-form) (write-wrote (event_forms first second rows) es w w' l _ h e)

  -- the list call of a fresh writer: the document that `encode` makes of the list
  pub document : (l : Lent) (w w' : Writer) → (create l).reply ≡ wrote w → (write_events w first second rows (create l).lent).reply ≡ wrote w'
      → take w'.written (write_events w first second rows (create l).lent).lent.output ≡ encode (events_in first second rows)
  document l w w' c e = (list_wrote w w' (create l).lent [] (create-wrote l w c) e).bytes

-- ---- the state and the buffers that a call leaves

pub pool-count : (output : List ℕ) (n : ℕ) (pairs : List ℕ) → length (pool_at output n pairs) ≡ n
unfolding pool_at
pool-count output zero pairs = refl
pool-count output (suc n) pairs = ap suc (pool-count output n (drop 2 pairs))

module _ (formed : Bool) (w w' : Writer) (l : Lent) (rs : List Row) (e : (write formed w l rs).reply ≡ wrote w') where
  abbrev pool : Pool
  pool = pool_at l.output w.names l.table

  p : Passed formed w l rs
  p = passed formed w w' l rs e

  state-is : w' ≡ advanced w pool rs
  unfolding append
  state-is = wrote-is (append w l rs).reply w' _ (rw p.leaves at e) refl

  enough : (w.written + length (rows_bytes pool rs) ≤ length l.output) × (2 * length (keep_rows pool rs) ≤ length l.table)
  unfolding state_bad
  enough =
      let held = neither (ltb (length l.output) w.written) _ p.state in
      fits l _ rs w.written pool (ltb-false _ _ held.0) (rw (pool-count l.output w.names l.table) (ltb-false _ _ held.1)) p.by_rows

  -- bytes before those written and after them keep their values, and so do the table's words
  pub output-left : (write formed w l rs).lent.output ≡ take w.written l.output ++ rows_bytes pool rs ++ drop w'.written l.output
  unfolding append
  output-left = rw (p.leaves, state-is) (sets-eq (rows_bytes pool rs) l.output w.written enough.0)

  pub table-left : (write formed w l rs).lent.table ≡ take (2 * w.names) l.table ++ rows_pairs w.written pool rs ++ drop (2 * w'.names) l.table
  unfolding append
  table-left =
      let pairs : List ℕ = rows_pairs w.written pool rs in
      let counts : 2 * w.names + length pairs ≡ 2 * length (keep_rows pool rs) = rw (pool-count l.output w.names l.table) at (pairs-count rs w.written pool) in
      rw (p.leaves, state-is, ← counts) (sets-eq pairs l.table (2 * w.names) (omega (arith, enough.1)))

  -- the next call with them is not refused 17, nor 19 for the state
  pub ready : (sizes_bad (write formed w l rs).lent ≡ false) × (state_bad w' (write formed w l rs).lent ≡ false)
  unfolding sizes_bad state_bad append
  ready =
      rw (p.leaves, state-is) (
        simp length-sets p.sizes,
        simp length-sets (rw (le-ltb (length l.output) (w.written + length (rows_bytes pool rs)) enough.0, le-ltb (length l.table) (2 * length (keep_rows pool rs)) enough.1)),
      )

-- a search of the writer's own pool meets no pair that ends outside
pub sound : (es : List Event) (w : Writer) (l : Lent) → Wrote es w l → meets_bad l.output w.names l.table ≡ (λ name. false)
sound es w l h = λ i name. search-sound es w l h name i

-- so the writer's own states are refused for the words, the strings and the room alone: no 17, no 19
pub own-refusal : (formed : Bool) (es : List Event) (w : Writer) (l : Lent) (rs : List Row) → Wrote es w l → sizes_bad l ≡ false
    → refusal formed w l rs ≡ (refuse_if (not formed) not_rows before rows_refusal l (λ name. false) w.written (pool_after es) rs)
unfolding refusal state_bad
own-refusal formed es w l rs h s =
    rw (s, le-ltb (length l.output) w.written (written-fits es w l h), le-ltb (length l.table) (2 * w.names) (names-fit es w l h), sound es w l h, pool-is es w l h)

-- ---- what is not refused: buffers of the right sizes with room, words that form rows, strings that can be written

sizes-good : (l : Lent) → length l.output ≤ max_store → length l.table % 2 ≡ 0 → length l.table ≤ max_table → sizes_bad l ≡ false
unfolding sizes_bad
sizes-good l o e t = rw (le-ltb, e, le-ltb)

pub create-taken : (l : Lent) → sizes_bad l ≡ false → 4 ≤ length l.output → create l ≡ begin l
unfolding create unless
create-taken l s h = rw (s, le-ltb (length l.output) 4 h)

pub write-taken : (es : List Event) (w : Writer) (l : Lent) (rs : List Row) → Wrote es w l → sizes_bad l ≡ false → rows_fault rs ≡ none
    → length (encode (es ++ group rs)) ≤ length l.output → 2 * length (pool_after (es ++ group rs)) ≤ length l.table
    → write true w l rs ≡ append w l rs
unfolding write unless
write-taken es w l rs h s f o t =
    let size = length-append (encode es) (rows_bytes (pool_after es) rs) in
    let fits = ap length (encode-more es rs) in
    let none_is : rows_refusal l (λ name. false) w.written (pool_after es) rs ≡ none = room-enough l rs w.written (pool_after es) f (omega (arith, h.length-is)) (rw (pool-more es rs) at t) in
    rw (own-refusal true es w l rs h s, none_is)

-- the list call of a fresh writer
pub list-taken : (first second rows : List ℕ) (l : Lent) → list_forms first second rows ≡ true → rows_fault (rows_in first second rows) ≡ none
    → length l.output ≤ max_store → length l.table % 2 ≡ 0 → length l.table ≤ max_table
    → length (encode (events_in first second rows)) ≤ length l.output → 2 * length (pool_after (events_in first second rows)) ≤ length l.table
    → (w : Writer) × (w' : Writer) × ((create l).reply ≡ wrote w) × ((write_events w first second rows (create l).lent).reply ≡ wrote w')
unfolding write_events begin append sizes_bad encode
list-taken first second rows l n f a b c o t =
    let rs : List Row = rows_in first second rows in
    let w : Writer = record { written = 4; names = 0 } in
    let begun : create l ≡ begin l = create-taken l (sizes-good l a b c) (omega arith) in
    let creates : (create l).reply ≡ wrote w = rw begun in
    let writes : write true w (create l).lent rs ≡ append w (create l).lent rs =
    write-taken [] w (create l).lent rs (create-wrote l w creates) (rw begun (simp length-sets (sizes-good l a b c))) f (rw begun (simp length-sets o)) (rw begun t) in
    (w, advanced w (pool_at (create l).lent.output 0 (create l).lent.table) rs, creates, rw (n, writes))
