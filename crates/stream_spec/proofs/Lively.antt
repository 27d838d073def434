-- Once no more will come: with room for the names, the events that are left come out one by one, and then End or the refusal at
-- which the grammar stops.
use Rattle.std.specs.Prelude.{Bool, false, ◌&&◌, cond, List, [], ◌∷◌, ◌++◌, ◌≡◌, ℕ, zero, suc, ◌+◌, ◌*◌, ◌-◌, ◌/◌, ◌≤◌, ◌<◌, take, drop, ltb, eqb}
use Rattle.std.proofs.Math.Bool.{true, and-false}
use Rattle.std.proofs.Common.{true≢false, append_assoc, append-nil, sym, ap, ◌∙◌, arith, length-append, length-drop, length-take-le}
use Rattle.std.proofs.Math.Option.{some}
use Rattle.std.proofs.Math.Path.{refl}
use borrow.Author.Tests.{ltb-true, ltb-false, eqb-true, eqb-false, lt-ltb, le-ltb, ne_eqb}
use Rattle.std.proofs.Math.ListN.{length}
use Rattle.std.proofs.Math.Seq.{slice, slice_empty, length-slice, length-sets, take-append_seam, drop-append_seam}
use Rattle.wire.specs.Header.{u32_at, magic, header}
use Rattle.wire.specs.Refusal.{header_short, invalid_magic, rows_full}
use Rattle.event.specs.Row.{Event}
use Rattle.grammar.specs.Grammar.{Span, Items, event}
use Rattle.grammar.specs.Document.{Pool, pool_bytes, all, rows_of, pool_of, Reading, reads, ended, stopped, read_f, read, events, last_pool, left, names_of, Open}
use Rattle.grammar.specs.Scan.{lengths, adds, count, Outcome, outcome, complete, incomplete, bad}
use Rattle.grammar.proofs.Choice.{by_test}
use Rattle.grammar.proofs.Laws.{agree-event}
use Rattle.grammar.proofs.Steps.{read_s, ReadsOn, names-on, reads_here}
use Rattle.grammar.proofs.Outcomes.{complete-reads-on, incomplete-last, bad-stops-here}
use Rattle.grammar.proofs.Added.{these, AllIn, adds-in, grown, bytes_at-length, pool-adds}
use Rattle.grammar.proofs.Remaining.{count-rows, names-of-last, names-grow, left-events, left-pool, left-more}
use Rattle.stream_spec.specs.Stream.{Stream, Lent, Left, Reply, gives, end, created, unchanged, sizes_bad, state_bad, checked, create, fitting, fed, feed, finish, given, hand_out, passed, by_outcome, next_from, next_header, next}
use Rattle.stream_spec.proofs.Branches.{feed-by, finish-by, next-by, next_from-by}
use Rattle.stream_spec.specs.Calls.{Call, call-feed, call_next, call-finish, Trace, handed_by, finished_by, after_feed, after_next, after_finish, step, run, start, Room, Delivers, Answers}
use Rattle.stream_spec.proofs.Held.{pool_bytes-append}
use Rattle.stream_spec.proofs.Invariant.{Inv, Holds, open-nil, sound-all, passed_on, passing, u32_at-slice, holds-sound, holds-step, holds-start, created-fresh, holds-created, left_here}

-- ---- one call of next, by what is left to read

lengths-bytes : (s : List ℕ) (ts : List Span) → AllIn (length s) ts → lengths ts ≡ pool_bytes (these s ts)
unfolding lengths
lengths-bytes s [] a = refl
lengths-bytes s (t ∷ ts) a = omega (arith, lengths-bytes s ts a.1, bytes_at-length s t a.0)

-- what a next leaves where this is left to read, and these are the names of the whole document
abbrev Says : Stream → Lent → List ℕ → Pool → Reading → Left → Type 0
Says r l rows names (reads e n rd) x =
    (length rows < 8 * length e → x ≡ unchanged r l rows (Reply.refused rows_full 0)) × (8 * length e ≤ length rows → Room names l → x.reply ≡ gives (length e))
Says r l rows names (ended p) x = x.reply ≡ end
Says r l rows names (stopped n d) x = x ≡ unchanged r l rows (Reply.refused n d)

pub some_byte : (k : ℕ) → (k ≡ 0 → ⊥) → 1 ≤ k
some_byte zero f = absurd (f refl)
some_byte (suc k) f = omega arith

module _ (r : Stream) (l : Lent) (acc : List ℕ) (handed : List Event) (over : Bool) (from : ℕ) (p : Inv (passed r from) l acc handed 4 over) where
  abbrev s : List ℕ
  s = slice from r.end l.window

  abbrev is : Items
  is = event all (length p.pool) s

  abbrev ts : List Span
  ts = adds r.names is

  abbrev later : Pool
  later = pool_of s p.pool is

  -- past the header, with the grammar's rows
  pub from-items : (rows : List ℕ) → next_from r l rows from
      ≡ cond (r.finished && eqb from r.end) (unchanged (passed r from) l rows end) (by_outcome r l rows from is (outcome r.finished is))
  unfolding next_from
  from-items rows = rw (sound-all p.pool r.names r.bytes l.table l.store p.held, p.held.counts)

  -- the pool after the event, and after the document
  grew : later ≡ p.pool ++ these s ts
  grew = rw p.held.counts (pool-adds s p.pool is)

  pub grew-pairs : length later ≡ r.names + length ts
  grew-pairs = ap length grew ∙ grown s p.pool ts ∙ rw p.held.counts

  pub grew-bytes : pool_bytes later ≡ r.bytes + lengths ts
  grew-bytes =
      ap pool_bytes grew ∙ pool_bytes-append p.pool (these s ts)
      ∙ rw (p.held.used, lengths-bytes s ts (adds-in s [] 1 r.names (length p.pool) is _ (agree-event s [] all (length p.pool))))

  pub names_more : (n : ℕ) → ReadsOn p.pool s r.finished n is → (u : List ℕ) → Open r.finished u → (more : Pool) × (names_of (acc ++ u) ≡ later ++ more)
  names_more n on u v =
      let g = names-grow (read_s later (drop n s ++ u)) later (drop n s ++ u) in
      (g.0, p.names-on u v ∙ names-on p.pool s r.finished n is on u v ∙ g.1)

  module _ (fin : r.finished ≡ true) (rows : List ℕ) where
    from_is : (o : Outcome) → (from ≡ r.end → ⊥) → outcome true is ≡ o → next_from r l rows from ≡ by_outcome r l rows from is o
    from_is o ne w =
        let w' : outcome r.finished is ≡ o = ap (λ (b : Bool). outcome b is) fin ∙ w in
        from-items rows ∙ rw (ne_eqb from r.end ne, and-false r.finished, w')

    hand-few : (n : ℕ) → length rows / 8 < count is → hand_out r l rows from is n ts ≡ unchanged r l rows (Reply.refused rows_full 0)
    unfolding hand_out
    hand-few n a = rw (lt-ltb (length rows / 8) (count is) a)

    hand-gives : (n : ℕ) → count is ≤ length rows / 8 → 2 * (r.names + length ts) ≤ length l.table → r.bytes + lengths ts ≤ length l.store
        → (hand_out r l rows from is n ts).reply ≡ gives (count is)
    unfolding hand_out given
    hand-gives n a b c =
        rw (le-ltb (length rows / 8) (count is) a, le-ltb (length l.table) (2 * (r.names + length ts)) b, le-ltb (length l.store) (r.bytes + lengths ts) c)

    from-says : Says r l rows (names_of acc) (read_s p.pool s) (next_from r l rows from)
    unfolding by_outcome
    from-says = by_test (eqb from r.end) at-end (λ b. go (eqb-false from r.end b) (outcome true is) refl)
      where
        ls : length s ≡ r.end - from
        ls = length-slice from r.end l.window p.placed

        at-end : eqb from r.end ≡ true → Says r l rows (names_of acc) (read_s p.pool s) (next_from r l rows from)
        at-end b =
            let z : s ≡ [] = rw (eqb-true from r.end b) (slice_empty r.end l.window) in
            let e : read_s p.pool s ≡ ended p.pool = ap (read_s p.pool) z ∙ unfold read_s read_f in refl in
            rw e (unfold next_from in rw (fin, b))

        go : (from ≡ r.end → ⊥) → (o : Outcome) → outcome true is ≡ o → Says r l rows (names_of acc) (read_s p.pool s) (next_from r l rows from)
        go ne (complete n) o =
            let on : ReadsOn p.pool s true n is = complete-reads-on p.pool s true n o in
            let e : read_s p.pool s ≡ reads (rows_of s p.pool is) n (read_s later (drop n s)) = reads_here p.pool s true n is on refl in
            let g = names_more n (rw fin on) [] (open-nil r.finished) in
            let names : names_of acc ≡ later ++ g.0 = ap names_of (sym (append-nil acc)) ∙ g.1 in
            let c : count is ≡ length (rows_of s p.pool is) = count-rows s p.pool is in
            rw e (
              λ few. from_is (complete n) ne o ∙ hand-few n (omega arith),
              λ enough room.
                  ap (λ (x : Left). x.reply) (from_is (complete n) ne o)
                  ∙ hand-gives n (omega arith) (omega (arith, room.pairs-fit, ap length names, length-append later g.0, grew-pairs))
                  (omega (arith, room.bytes_fit, ap pool_bytes names, pool_bytes-append later g.0, grew-bytes))
                  ∙ ap gives c,
            )
        go ne incomplete o = absurd (true≢false (incomplete-last p.pool s true o).0)
        go ne (bad n d) o =
            let e : read_s p.pool s ≡ stopped n d = bad-stops-here p.pool s true n d (λ _. some_byte (length s) (λ z. ne (omega (arith, p.ordered, ls)))) o refl in
            rw e (from_is (bad n d) ne o)

-- a trace that holds is in no bad state
pub state-good : (t : Trace) → Holds t → state_bad t.stream t.lent ≡ false
unfolding state_bad
state-good t h =
    rw (
      le-ltb t.stream.end t.stream.start h.ordered,
      le-ltb (length t.lent.window) t.stream.end h.placed,
      le-ltb (length t.lent.table) (2 * t.stream.names) h.held.table_fits,
      le-ltb (length t.lent.store) t.stream.bytes h.held.store-fits,
    )

-- fewer than four bytes are no header, and other bytes are none
pub few-read : (s : List ℕ) → length s < 4 → read s ≡ stopped header_short 0
unfolding read header
few-read s h = rw (lt-ltb (length s) 4 h)

pub other-read : (s : List ℕ) → 4 ≤ length s → (u32_at s 0 ≡ magic → ⊥) → read s ≡ stopped invalid_magic (u32_at s 0)
unfolding read header
other-read s a b = rw (le-ltb (length s) 4 a, ne_eqb (u32_at s 0) magic b)

module _ (t : Trace) (h : Holds t) (ok : sizes_bad t.lent ≡ false) (rows : List ℕ) where
  abbrev r : Stream
  r = t.stream

  abbrev l : Lent
  l = t.lent

  abbrev waiting : List ℕ
  waiting = slice r.start r.end l.window

  -- what is left to read
  abbrev rest : Reading
  rest = left (length t.handed) (read t.accepted)

  pub next-good : next r l rows ≡ cond r.header (next_from r l rows r.start) (next_header r l rows)
  unfolding next checked
  next-good = rw (ok, state-good t h)

  module _ (fin : t.stream.finished ≡ true) where
    says-from : (from : ℕ) → Inv (passed r from) l t.accepted t.handed 4 t.ended → next r l rows ≡ next_from r l rows from
        → Says r l rows (names_of t.accepted) rest (next r l rows)
    says-from from p e =
        let s : List ℕ = slice from r.end l.window in
        let q : rest ≡ read_s p.pool s = left_here (passed r from) l t.accepted t.handed 4 t.ended p in
        rw (q, e) (from-says r l t.accepted t.handed t.ended from p fin rows)

    next-says : Says r l rows (names_of t.accepted) rest (next r l rows)
    next-says =
        by_test r.header
        (λ hd. says-from r.start (passed_on r l t.accepted t.handed t.header t.ended h hd) (next-good ∙ rw hd))
        (λ hd.
        let q : rest ≡ read waiting = rw hd at (left_here r l t.accepted t.handed t.header t.ended h) in
        by_test (ltb (r.end - r.start) 4)
        (λ a. rw (q, few-read waiting (omega (arith, ls, ltb-true (r.end - r.start) 4 a))) (next-good ∙ rw hd (unfold next_header in rw (a, fin))))
        (λ a.
        let four : 4 ≤ r.end - r.start = ltb-false (r.end - r.start) 4 a in
        let m : u32_at waiting 0 ≡ u32_at l.window r.start = u32_at-slice l.window r.start r.end (omega arith) in
        by_test (eqb (u32_at l.window r.start) magic)
        (λ b. says-from (r.start + 4) (passing r l t.accepted t.handed t.header t.ended h hd four (eqb-true _ _ b)) (next-good ∙ rw hd (unfold next_header in rw (a, b))))
        (λ b. rw (q, other-read waiting (omega (arith, ls)) (λ z. eqb-false _ _ b (sym m ∙ z)), m) (next-good ∙ rw hd (unfold next_header in rw (a, b))))))
      where
        ls : length waiting ≡ r.end - r.start
        ls = length-slice r.start r.end l.window h.placed

-- ---- what no call changes

-- the buffers' lengths
pub record SameSizes (a b : Lent) : Type 0 where
  pub same-window : length a.window ≡ length b.window
  pub same-table : length a.table ≡ length b.table
  pub same_store : length a.store ≡ length b.store

-- and, by a feed or a next, whether the reader is finished
record Kept (r : Stream) (l : Lent) (x : Left) : Type 0 where
  same-sizes : SameSizes x.lent l
  same-finished : x.stream.finished ≡ r.finished

all_same : (l : Lent) → SameSizes l l
all_same l = record { same-window = refl; same-table = refl; same_store = refl }

feed-keeps : (t : Trace) (chunk : List ℕ) → Holds t → Kept t.stream t.lent (feed t.stream t.lent chunk)
unfolding fed
feed-keeps t chunk h =
    let r : Stream = t.stream in
    let l : Lent = t.lent in
    let n : ℕ = fitting r l chunk in
    let s : List ℕ = slice r.start r.end l.window in
    let later : List ℕ = drop (r.end - r.start + n) l.window in
    feed-by (Kept r l) r l chunk (λ _ _. record { same-sizes = all_same l; same-finished = refl }) (λ unfin.
    record {
      same-sizes =
          record {
            same-window = omega (
              arith,
              length-slice r.start r.end l.window h.placed,
              length-take-le n chunk (omega arith),
              length-append s (take n chunk ++ later),
              length-append (take n chunk) later,
              length-drop (r.end - r.start + n) l.window,
              h.ordered,
              h.placed,
            );
            same-table = refl;
            same_store = refl;
          };
      same-finished = sym unfin;
    })

finish-keeps : (r : Stream) (l : Lent) → SameSizes (finish r l).lent l
finish-keeps r l = finish-by (λ x. SameSizes x.lent l) r l (λ _ _. all_same l) (λ _. all_same l)

from-keeps : (r : Stream) (l : Lent) (rows : List ℕ) (from : ℕ) → Kept r l (next_from r l rows from)
unfolding given
from-keeps r l rows from =
    next_from-by (Kept r l) r l rows (λ _ _. record { same-sizes = all_same l; same-finished = refl }) from
    (λ _ _. record { same-sizes = all_same l; same-finished = refl })
    (λ _ _. record { same-sizes = all_same l; same-finished = refl })
    (λ n _ _ _ _ _. record {
      same-sizes =
          record {
            same-window = refl;
            same-table = simp length-sets;
            same_store = simp length-sets;
          };
      same-finished = refl;
    })

next-keeps : (r : Stream) (l : Lent) (rows : List ℕ) → Kept r l (next r l rows)
next-keeps r l rows =
    next-by (Kept r l) r l rows (λ _ _. record { same-sizes = all_same l; same-finished = refl })
    (λ _. from-keeps r l rows r.start)
    (λ _ _ _. record { same-sizes = all_same l; same-finished = refl })
    (λ _ _ _. from-keeps r l rows (r.start + 4))

step-sizes : (t : Trace) (c : Call) → Holds t → SameSizes (step t c).lent t.lent
unfolding step after_feed after_next after_finish
step-sizes t (call-feed chunk) h = (feed-keeps t chunk h).same-sizes
step-sizes t (call_next rows) h = (next-keeps t.stream t.lent rows).same-sizes
step-sizes t call-finish h = finish-keeps t.stream t.lent

pub run-sizes : (cs : List Call) (t : Trace) → Holds t → SameSizes (run t cs).lent t.lent
unfolding run
run-sizes [] t h = all_same t.lent
run-sizes (c ∷ cs) t h =
    let a = step-sizes t c h in
    let b = run-sizes cs (step t c) (holds-step t c h) in
    record { same-window = b.same-window ∙ a.same-window; same-table = b.same-table ∙ a.same-table; same_store = b.same_store ∙ a.same_store }

pub sizes-stay-good : (a b : Lent) → SameSizes a b → sizes_bad b ≡ false → sizes_bad a ≡ false
unfolding sizes_bad
sizes-stay-good a b e h = rw (e.same-window, e.same-table, e.same_store) h

room-stays : (names : Pool) (a b : Lent) → SameSizes a b → Room names b → Room names a
room-stays names a b e h = record { pairs-fit = rw e.same-table h.pairs-fit; bytes_fit = rw e.same_store h.bytes_fit }

-- a finish that was not refused is the state's mark
step-finished : (t : Trace) (c : Call) → Holds t → t.finished ≡ t.stream.finished → (step t c).finished ≡ (step t c).stream.finished
unfolding step after_feed after_next after_finish finished_by
step-finished t (call-feed chunk) h k = k ∙ sym (feed-keeps t chunk h).same-finished
step-finished t (call_next rows) h k = k ∙ sym (next-keeps t.stream t.lent rows).same-finished
step-finished t call-finish h k = finish-by (λ x. finished_by t.finished x.reply ≡ x.stream.finished) t.stream t.lent (λ _ _. k) (λ _. refl)

pub run-finished : (cs : List Call) (t : Trace) → Holds t → t.finished ≡ t.stream.finished → (run t cs).finished ≡ (run t cs).stream.finished
unfolding run
run-finished [] t h k = k
run-finished (c ∷ cs) t h k = run-finished cs (step t c) (holds-step t c h) (step-finished t c h k)

-- what holds of a created reader after any calls
pub record After (t : Trace) : Type 0 where
  pub holds : Holds t
  pub sizes-good : sizes_bad t.lent ≡ false
  pub marked : t.finished ≡ t.stream.finished

at-start : (r : Stream) (l : Lent) → create l ≡ created r → Holds (start r l)
at-start r l c = rw (created-fresh r l c).is-fresh (holds-start l)

pub after-calls : (r : Stream) (l : Lent) → create l ≡ created r → (cs : List Call) → After (run (start r l) cs)
after-calls r l c cs =
    let f = created-fresh r l c in
    record {
      holds = holds-created r l c cs;
      sizes-good = sizes-stay-good (run (start r l) cs).lent l (run-sizes cs (start r l) (at-start r l c)) f.sizes-good;
      marked = run-finished cs (start r l) (at-start r l c) (rw f.is-fresh);
    }

-- ---- the events that are left, one by one

-- a beginning is as much of the list as it is long
front : (a b es : List Event) → a ++ b ≡ es → a ≡ take (length a) es
front a b es h = sym (ap (λ (x : List Event). take (length a) x) (sym h) ∙ take-append_seam a b)

one_more : (a b es : List Event) (e : Event) (rem : List Event) → a ++ b ≡ es → e ∷ rem ≡ drop (length a) es → a ++ (e ∷ []) ≡ take (length a + 1) es
one_more a b es e rem h d =
    let b-is : b ≡ e ∷ rem = sym (d ∙ ap (λ (x : List Event). drop (length a) x) (sym h) ∙ drop-append_seam a b) in
    front (a ++ (e ∷ [])) rem es (append_assoc a (e ∷ []) rem ∙ ap (λ (x : List Event). a ++ x) (sym b-is) ∙ h) ∙ ap (λ (n : ℕ). take n es) (length-append a (e ∷ []))

handed-more : (hs : List Event) (l : Lent) (rows : List ℕ) (n : ℕ) (q : Reply) → q ≡ gives n → length (handed_by hs l rows q) ≡ length hs + 1
unfolding handed_by
handed-more hs l rows n q e = rw (e, length-append)

-- once finished, with room for the names
answers : (rd : Reading) (t : Trace) → Holds t → t.stream.finished ≡ true → sizes_bad t.lent ≡ false → Room (names_of t.accepted) t.lent
    → left (length t.handed) (read t.accepted) ≡ rd → Answers rd t
unfolding step after_next events
answers (reads e n rd) t h fin ok room q = λ rows.
    let says : Says t.stream t.lent rows (names_of t.accepted) (reads e n rd) (next t.stream t.lent rows) = rw q at (next-says t h ok rows fin) in (
      says.0,
      λ enough.
          let g : (next t.stream t.lent rows).reply ≡ gives (length e) = says.1 enough room in
          let k : Kept t.stream t.lent (next t.stream t.lent rows) = next-keeps t.stream t.lent rows in
          let h' : Holds (step t (call_next rows)) = holds-step t (call_next rows) h in
          let more : length (step t (call_next rows)).handed ≡ length t.handed + 1 = handed-more t.handed _ _ (length e) _ g in
          let one : length (step t (call_next rows)).handed ≡ suc (length t.handed) = omega (arith, more) in
          let es : List Event = events (read t.accepted) in
          let d : e ∷ events rd ≡ drop (length t.handed) es = sym (ap events q) ∙ left-events (length t.handed) (read t.accepted) in (
            g,
            front _ _ es (holds-sound (step t (call_next rows)) h').beginning ∙ ap (λ (n : ℕ). take n es) more
                ∙ sym (one_more t.handed _ es e (events rd) (holds-sound t h).beginning d),
            answers rd (step t (call_next rows)) h' (k.same-finished ∙ fin)
                (sizes-stay-good _ t.lent k.same-sizes ok) (room-stays (names_of t.accepted) _ t.lent k.same-sizes room)
                (ap (λ (n : ℕ). left n (read t.accepted)) one ∙ left-more (length t.handed) (read t.accepted) e n rd q),
          ),
    )
answers (ended p) t h fin ok room q = λ rows. rw q at (next-says t h ok rows fin)
answers (stopped n d) t h fin ok room q = λ rows. rw q at (next-says t h ok rows fin)

-- the chunk reader agrees with the grammar, whatever the document: once all its bytes are accepted and a finish was not
-- refused, the events that the grammar reads of it and that were not handed out come one by one, and then End, or the
-- refusal at which the grammar stops
pub agreement : (r : Stream) (l : Lent) → create l ≡ created r → (cs : List Call) → Room (names_of (run (start r l) cs).accepted) l → (run (start r l) cs).finished ≡ true
    → Answers (left (length (run (start r l) cs).handed) (read (run (start r l) cs).accepted)) (run (start r l) cs)
agreement r l c cs room fin =
    let t : Trace = run (start r l) cs in
    let a = after-calls r l c cs in
    answers _ t a.holds (sym a.marked ∙ fin) a.sizes-good
    (room-stays (names_of t.accepted) t.lent l (run-sizes cs (start r l) (at-start r l c)) room) refl

-- of a document that is read to its end, so that demand 3 can be told of its events alone
delivers : (rd : Reading) (t : Trace) (names : Pool) → last_pool rd ≡ some names → Answers rd t → Delivers (events rd) t
unfolding events last_pool
delivers (reads e n rd) t names h a = λ rows enough. let b = (a rows).1 enough in (b.0, b.1, delivers rd (step t (call_next rows)) names h b.2)
delivers (ended p) t names h a = a
delivers (stopped n d) t names h a = absurd (let z : ◌≡◌ {A = ℕ} 0 1 = cc h in omega arith)

pub agreement-ended : (r : Stream) (l : Lent) → create l ≡ created r → (cs : List Call) (names : Pool)
    → last_pool (read (run (start r l) cs).accepted) ≡ some names → Room names l → (run (start r l) cs).finished ≡ true
    → Delivers (drop (length (run (start r l) cs).handed) (events (read (run (start r l) cs).accepted))) (run (start r l) cs)
agreement-ended r l c cs names e room fin =
    let t : Trace = run (start r l) cs in
    let k : ℕ = length t.handed in
    rw (← left-events k (read t.accepted))
    (delivers (left k (read t.accepted)) t names (left-pool k (read t.accepted) ∙ e) (agreement r l c cs (rw (names-of-last t.accepted names e) room) fin))
