-- An invariant of every list of calls, and that it says what is claimed of them.
use Rattle.std.specs.Prelude.{Bool, true, false, ◌&&◌, cond, List, [], ◌∷◌, ◌++◌, ◌≡◌, refl, ℕ, ◌+◌, ◌*◌, ◌-◌, ◌/◌, ◌≤◌, ◌<◌, length, take, drop, eqb}
use Rattle.std.proofs.Common.{true≢false, append_assoc, append-nil, sym, ap, ◌∙◌, add-zero, arith, le-leb, eq-eqb, length-append, length-drop, get_or-drop, get_or-take, drop-drop, length-take-le, take_at}
use Rattle.std.proofs.lemmas.Bool.{false≢true, lt-leb}
use Rattle.std.proofs.Math.Option.{none}
use Rattle.std.proofs.Math.Seq.{slice, slice_empty, length-slice}
use Rattle.std.proofs.lemmas.List.Edits.{sets, sets-eq}
use Rattle.std.proofs.lemmas.List.{drop-append-le}
use Rattle.wire.specs.Header.{u32_at, magic}
use Rattle.event.specs.Row.{Event, rows_at}
use Rattle.grammar.specs.Grammar.{Span, Items, event}
use Rattle.grammar.specs.Document.{Pool, all, rows_of, pool_of, Reading, read, read_f, events, sizes, last_pool, left, names_from, names_of, total, Open}
use Rattle.grammar.specs.Scan.{lengths, copied_pairs, joined, sound, complete, outcome, adds, count, words}
use Rattle.grammar.proofs.Choice.{by_test}
use Rattle.grammar.proofs.Laws.{Agree, agree-event}
use Rattle.grammar.proofs.Steps.{chain, chain_snoc, events-chain, sizes-chain, read-passed, names-passed, read_s, ReadsOn, names-on}
use Rattle.grammar.proofs.Outcomes.{complete-reads-on}
use Rattle.grammar.proofs.Added.{pool-adds, adds-in}
use Rattle.grammar.proofs.Remaining.{left-chain}
use Rattle.grammar.proofs.Said.{rows-say, words-length}
use Rattle.grammar.proofs.Stores as Stores
use Rattle.stream_spec.specs.Stream.{Stream, Lent, Created, created, fresh, sizes_bad, create, fitting, fed, feed, finish, given, next, next_from, passed}
use Rattle.stream_spec.proofs.Branches.{feed-by, finish-by, next-by, next_from-by}
use Rattle.stream_spec.specs.Calls.{Call, call-feed, call_next, call-finish, Trace, accepted_by, handed_by, header_by, ended_by, after_feed, after_next, after_finish, step, run, start, consumed, Sound}
use Rattle.stream_spec.proofs.Held.{Held, held-adds, held-finds}

pub total-snoc : (ns : List ℕ) (n : ℕ) → total (ns ++ (n ∷ [])) ≡ total ns + n
unfolding total
total-snoc [] n = omega arith
total-snoc (m ∷ ns) n = omega (arith, total-snoc ns n)

-- what is still to be read: the document from its header on, or events from a pool on
abbrev pub resume : Bool → Pool → List ℕ → Reading
resume false pool s = read s
resume true pool s = read_s pool s

-- and the names at its end
abbrev pub resume_names : Bool → Pool → List ℕ → Pool
resume_names false pool s = names_of s
resume_names true pool s = names_from (read_s pool s) pool s

pub open-nil : (b : Bool) → Open b []
open-nil true = refl
open-nil false = tt

-- ---- the invariant

pub record Inv (r : Stream) (l : Lent) (acc : List ℕ) (handed : List Event) (header : ℕ) (over : Bool) : Type 0 where
  pub pool : Pool
  pub ns : List ℕ
  pub as_many : length ns ≡ length handed
  pub ordered : r.start ≤ r.end
  pub placed : r.end ≤ length l.window
  pub held : Held pool r.names r.bytes l.table l.store
  pub at_first : r.header ≡ false → (pool ≡ []) × (ns ≡ [])
  pub header-bytes : header ≡ cond r.header 4 0
  pub sum : length acc ≡ header + total ns + (r.end - r.start)
  pub waiting : slice r.start r.end l.window ≡ drop (header + total ns) acc
  pub onward : (u : List ℕ) → Open r.finished u → read (acc ++ u) ≡ chain handed ns (resume r.header pool (slice r.start r.end l.window ++ u))
  pub names-on : (u : List ℕ) → Open r.finished u → names_of (acc ++ u) ≡ resume_names r.header pool (slice r.start r.end l.window ++ u)
  pub at-end : over ≡ true → (r.finished ≡ true) × (r.header ≡ true) × (r.start ≡ r.end)

abbrev pub Holds : Trace → Type 0
Holds t = Inv t.stream t.lent t.accepted t.handed t.header t.ended

-- what is left to read after the events handed out
pub left-read : (r : Stream) (l : Lent) (acc : List ℕ) (handed : List Event) (header : ℕ) (over : Bool) (h : Inv r l acc handed header over) (u : List ℕ) → Open r.finished u
    → left (length handed) (read (acc ++ u)) ≡ resume r.header h.pool (slice r.start r.end l.window ++ u)
left-read r l acc handed header over h u v = rw (h.onward u v) (left-chain handed h.ns _ h.as_many)

-- the same, were the accepted bytes all: what is read of them, what is left of that, and how many bytes the events handed out have
module _ (r : Stream) (l : Lent) (acc : List ℕ) (handed : List Event) (header : ℕ) (over : Bool) (h : Inv r l acc handed header over) where
  abbrev unread : Reading
  unread = resume r.header h.pool (slice r.start r.end l.window)

  pub read_here : read acc ≡ chain handed h.ns unread
  read_here = ap read (sym (append-nil acc)) ∙ h.onward [] (open-nil r.finished) ∙ rw (append-nil (slice r.start r.end l.window))

  pub left_here : left (length handed) (read acc) ≡ unread
  left_here = rw read_here (left-chain handed h.ns unread h.as_many)

  pub handed-bytes : total (take (length handed) (sizes (read acc))) ≡ total h.ns
  handed-bytes = rw (read_here, sizes-chain handed h.ns unread h.as_many)

-- a reading that ends after these events does not stop
no-some : (es : List Event) (ns : List ℕ) (p : Pool) → length ns ≡ length es → last_pool (chain es ns (read_s p [])) ≡ none → ⊥
unfolding last_pool read_s read_f
no-some [] [] p h q = let z : ◌≡◌ {A = ℕ} 0 1 = cc q in omega arith
no-some [] (n ∷ ns) p h q = absurd (omega arith)
no-some (e ∷ es) [] p h q = absurd (omega arith)
no-some (e ∷ es) (n ∷ ns) p h q = no-some es ns p (omega arith) q

-- it says what is asked
pub holds-sound : (t : Trace) → Holds t → Sound t
unfolding consumed events read_s read_f
holds-sound t h =
    let s : List ℕ = slice t.stream.start t.stream.end t.lent.window in
    let e : read t.accepted ≡ chain t.handed h.ns (resume t.stream.header h.pool s) = read_here t.stream t.lent t.accepted t.handed t.header t.ended h in
    let c : total (take (length t.handed) (sizes (read t.accepted))) ≡ total h.ns = handed-bytes t.stream t.lent t.accepted t.handed t.header t.ended h in
    record {
      rest = events (resume t.stream.header h.pool s);
      beginning = rw e (sym (events-chain t.handed h.ns (resume t.stream.header h.pool s) h.as_many));
      sum = rw c h.sum;
      waiting = rw c h.waiting;
      exact = λ o.
          let a = h.at-end o in
          let z : s ≡ [] = rw a.2 (slice_empty t.stream.end t.lent.window) in
          sym (rw e (events-chain t.handed h.ns (resume t.stream.header h.pool s) h.as_many ∙ rw (a.1, z) (append-nil t.handed)));
      drained = λ o.
          let a = h.at-end o in
          let z : s ≡ [] = rw a.2 (slice_empty t.stream.end t.lent.window) in
          (a.0, a.1, omega (arith, a.2), λ q. no-some t.handed h.ns h.pool h.as_many (sym (ap last_pool (e ∙ rw (a.1, z))) ∙ q));
    }

-- it holds at the start
pub holds-start : (l : Lent) → Holds (start fresh l)
unfolding total
holds-start l = record {
  pool = [];
  ns = [];
  as_many = refl;
  ordered = omega arith;
  placed = omega arith;
  held = record { counts = refl; used = refl; table_fits = omega arith; store-fits = omega arith; entry = λ i k. absurd (omega arith) };
  at_first = λ _. (refl, refl);
  header-bytes = refl;
  sum = refl;
  waiting = refl;
  onward = λ u _. refl;
  names-on = λ u _. refl;
  at-end = λ e. absurd (false≢true e);
}

-- ---- feed and finish

pub holds-feed : (t : Trace) (chunk : List ℕ) → Holds t → Holds (after_feed t chunk (feed t.stream t.lent chunk))
unfolding fed after_feed accepted_by
holds-feed t chunk h =
    feed-by (λ x. Holds (after_feed t chunk x)) t.stream t.lent chunk (λ _ _. h) (λ unfin.
    let r : Stream = t.stream in
    let l : Lent = t.lent in
    let n : ℕ = fitting r l chunk in
    let s : List ℕ = slice r.start r.end l.window in
    let c : List ℕ = take n chunk in
    let later : List ℕ = drop (r.end - r.start + n) l.window in
    let ls : length s ≡ r.end - r.start = length-slice r.start r.end l.window h.placed in
    let lc : length c ≡ n = length-take-le n chunk (omega arith) in
    let lw : length (s ++ (c ++ later)) ≡ length l.window =
    omega (arith, length-append s (c ++ later), length-append c later, length-drop (r.end - r.start + n) l.window) in
    let front : take (r.end - r.start + n) (s ++ (c ++ later)) ≡ s ++ c =
    rw (← append_assoc s c later) (take_at (s ++ c) _ (r.end - r.start + n) (simp length-append (omega arith))) in
    record {
      pool = h.pool;
      ns = h.ns;
      as_many = h.as_many;
      ordered = omega arith;
      placed = omega arith;
      held = h.held;
      at_first = h.at_first;
      header-bytes = h.header-bytes;
      sum = simp length-append (omega arith);
      waiting = front ∙ rw h.waiting (sym (drop-append-le (t.header + total h.ns) t.accepted c (omega arith)));
      onward = λ u _. rw (append_assoc t.accepted c u, front, append_assoc s c u) (h.onward (c ++ u) (rw unfin tt));
      names-on = λ u _. rw (append_assoc t.accepted c u, front, append_assoc s c u) (h.names-on (c ++ u) (rw unfin tt));
      at-end = λ o. absurd (true≢false (sym (h.at-end o).0 ∙ unfin));
    })

pub holds-finish : (t : Trace) → Holds t → Holds (after_finish t (finish t.stream t.lent))
unfolding after_finish
holds-finish t h =
    finish-by (λ x. Holds (after_finish t x)) t.stream t.lent (λ _ _. h) (λ _.
    record {
      pool = h.pool;
      ns = h.ns;
      as_many = h.as_many;
      ordered = h.ordered;
      placed = h.placed;
      held = h.held;
      at_first = h.at_first;
      header-bytes = h.header-bytes;
      sum = h.sum;
      waiting = h.waiting;
      onward = λ u z. h.onward u (rw z (open-nil t.stream.finished));
      names-on = λ u z. h.names-on u (rw z (open-nil t.stream.finished));
      at-end = λ o. (refl, (h.at-end o).1, (h.at-end o).2);
    })

-- ---- next

-- every name of a pool that is held is at hand
pub sound-all : (pool : Pool) (names bytes : ℕ) (table store : List ℕ) → Held pool names bytes table store → sound names table (length store) ≡ all
sound-all pool names bytes table store h = Stores.sound-all names (length store) table (λ i k. omega (arith, (h.entry i k).inside, h.store-fits))

-- an event is handed out: `p` is the invariant with the header passed
handed_out : (t : Trace) (rows : List ℕ) (from : ℕ) (p : Inv (passed t.stream from) t.lent t.accepted t.handed 4 t.ended) (is : Items) (n : ℕ)
    → is ≡ event all (length p.pool) (slice from t.stream.end t.lent.window) → outcome t.stream.finished is ≡ complete n
    → (t.stream.finished && eqb from t.stream.end) ≡ false → count is ≤ length rows / 8
    → 2 * (t.stream.names + length (adds t.stream.names is)) ≤ length t.lent.table → t.stream.bytes + lengths (adds t.stream.names is) ≤ length t.lent.store
    → Holds (after_next t (given t.stream t.lent rows from is n (adds t.stream.names is)))
unfolding given after_next handed_by header_by ended_by
handed_out t rows from p is n e o going c₁ c₂ c₃ =
    let r : Stream = t.stream in
    let l : Lent = t.lent in
    let s : List ℕ = slice from r.end l.window in
    let pool : Pool = p.pool in
    let ts : List Span = adds r.names is in
    let table : List ℕ = sets l.table (2 * r.names) (copied_pairs r.bytes ts) in
    let store : List ℕ = sets l.store r.bytes (joined s ts) in
    let ws : List ℕ = words 1 from table is in
    let counts : r.names ≡ length pool = p.held.counts in
    let ag : Agree s [] (length pool) 1 is (event all (length pool) (s ++ [])) = rw e (agree-event s [] all (length pool)) in
    let ro : ReadsOn pool s r.finished n is = rw e (complete-reads-on pool s r.finished n (rw e at o)) in
    let ls : length s ≡ r.end - from = length-slice from r.end l.window p.placed in
    let held : Held (pool_of s pool is) (r.names + length ts) (r.bytes + lengths ts) table store =
    rw (pool-adds s pool is, ← counts) (held-adds s ts pool r.names r.bytes l.table l.store (adds-in s [] 1 r.names (length pool) is _ ag) p.held c₂ c₃) in
    let finds = held-finds l.window (pool_of s pool is) _ _ table store held in
    let lw : length ws ≡ 8 * count is = words-length 1 from table is in
    let said : rows_at l.window store (count is) (sets rows 0 ws) ≡ rows_of s pool is =
    rw (sets-eq ws rows 0 (omega arith))
    (rows-say 1 l.window store table from r.end p.ordered p.placed (pool_of s pool is) finds [] 1 (length pool) pool is _ (drop (0 + length ws) rows) refl refl ag) in
    let dropped : slice (from + n) r.end l.window ≡ drop n s = sym (drop-drop n from (take r.end l.window)) in
    let sums : 4 + total p.ns + n ≡ 4 + (total p.ns + n) = omega arith in
    record {
      pool = pool_of s pool is;
      ns = p.ns ++ (n ∷ []);
      as_many = simp length-append (omega arith);
      ordered = omega arith;
      placed = p.placed;
      held = held;
      at_first = λ z. absurd (true≢false z);
      header-bytes = refl;
      sum = rw (total-snoc p.ns n) (omega arith);
      waiting = dropped ∙ rw (p.waiting, total-snoc p.ns n, drop-drop n (4 + total p.ns) t.accepted, sums);
      onward = λ u v.
          p.onward u v
          ∙ ap (λ (x : Reading). chain t.handed p.ns x) (ro.onward u v)
          ∙ sym (rw (said, dropped) (chain_snoc t.handed p.ns (rows_of s pool is) n (read_s (pool_of s pool is) (drop n s ++ u)) p.as_many));
      names-on = λ u v.
          let later : Pool = pool_of s pool is in
          p.names-on u v ∙ names-on pool s r.finished n is ro u v ∙ ap (λ (x : List ℕ). names_from (read_s later (x ++ u)) later (x ++ u)) (sym dropped);
      at-end = λ z. let a = p.at-end z in absurd (true≢false (rw (a.0, eq-eqb from r.end a.2) at going));
    }

-- an answer End
at-its-end : (r : Stream) (l : Lent) (acc : List ℕ) (handed : List Event) (header : ℕ) (over : Bool) → Inv r l acc handed header over
    → r.finished ≡ true → r.header ≡ true → r.start ≡ r.end → Inv r l acc handed header true
at-its-end r l acc handed header over h a b c = record {
  pool = h.pool;
  ns = h.ns;
  as_many = h.as_many;
  ordered = h.ordered;
  placed = h.placed;
  held = h.held;
  at_first = h.at_first;
  header-bytes = h.header-bytes;
  sum = h.sum;
  waiting = h.waiting;
  onward = h.onward;
  names-on = h.names-on;
  at-end = λ _. (a, b, c);
}

-- past the header: `h` is the invariant as it stands, `p` with the header passed
holds-from : (t : Trace) (rows : List ℕ) (from : ℕ) → Holds t → Inv (passed t.stream from) t.lent t.accepted t.handed 4 t.ended
    → Holds (after_next t (next_from t.stream t.lent rows from))
unfolding after_next handed_by header_by ended_by
holds-from t rows from h p =
    let r : Stream = t.stream in
    let l : Lent = t.lent in
    let e : event (sound r.names l.table (length l.store)) r.names (slice from r.end l.window) ≡ event all (length p.pool) (slice from r.end l.window) =
    rw (sound-all p.pool r.names r.bytes l.table l.store p.held, p.held.counts) in
    next_from-by (λ x. Holds (after_next t x)) r l rows (λ _ _. h) from
    (λ fin at. at-its-end (passed r from) l t.accepted t.handed 4 t.ended p fin refl at)
    (λ _ _. rw (le-leb 4 (length t.accepted) (omega (arith, p.sum))) p)
    (λ n o going. handed_out t rows from p _ n e o going)

none-total : total [] ≡ 0
unfolding total
none-total = refl

pub passed_on : (r : Stream) (l : Lent) (acc : List ℕ) (handed : List Event) (header : ℕ) (over : Bool) → Inv r l acc handed header over
    → r.header ≡ true → Inv (passed r r.start) l acc handed 4 over
passed_on r l acc handed header over h hd =
    let k : header ≡ 4 = h.header-bytes ∙ rw hd in
    record {
      pool = h.pool;
      ns = h.ns;
      as_many = h.as_many;
      ordered = h.ordered;
      placed = h.placed;
      held = h.held;
      at_first = λ z. absurd (true≢false z);
      header-bytes = refl;
      sum = omega (arith, h.sum);
      waiting = rw k at h.waiting;
      onward = λ u v. rw hd at (h.onward u v);
      names-on = λ u v. rw hd at (h.names-on u v);
      at-end = λ z. ((h.at-end z).0, refl, (h.at-end z).2);
    }

pub u32_at-slice : (w : List ℕ) (f t : ℕ) → f + 4 ≤ t → u32_at (slice f t w) 0 ≡ u32_at w f
unfolding u32_at
u32_at-slice w f t h =
    rw (
      get_or-drop f (take t w) 0 0,
      get_or-drop f (take t w) 1 0,
      get_or-drop f (take t w) 2 0,
      get_or-drop f (take t w) 3 0,
      get_or-take t w (f + 0) 0 (omega arith),
      get_or-take t w (f + 1) 0 (omega arith),
      get_or-take t w (f + 2) 0 (omega arith),
      get_or-take t w (f + 3) 0 (omega arith),
      add-zero f,
    )

pub passing : (r : Stream) (l : Lent) (acc : List ℕ) (handed : List Event) (header : ℕ) (over : Bool) → Inv r l acc handed header over
    → r.header ≡ false → 4 ≤ r.end - r.start → u32_at l.window r.start ≡ magic → Inv (passed r (r.start + 4)) l acc handed 4 over
passing r l acc handed header over h hd four m =
    let k : header ≡ 0 = h.header-bytes ∙ rw hd in
    let s : List ℕ = slice r.start r.end l.window in
    let ls : length s ≡ r.end - r.start = length-slice r.start r.end l.window h.placed in
    let m' : u32_at s 0 ≡ magic = u32_at-slice l.window r.start r.end (omega arith) ∙ m in
    let dropped : slice (r.start + 4) r.end l.window ≡ drop 4 s = sym (drop-drop 4 r.start (take r.end l.window)) in
    let sums : header + total h.ns + 4 ≡ 4 + total h.ns = omega arith in
    record {
      pool = h.pool;
      ns = h.ns;
      as_many = h.as_many;
      ordered = omega arith;
      placed = h.placed;
      held = h.held;
      at_first = λ z. absurd (true≢false z);
      header-bytes = refl;
      sum = omega (arith, h.sum);
      waiting = dropped ∙ rw (h.waiting, drop-drop 4 (header + total h.ns) acc, sums);
      onward = λ u v.
          let e : read (acc ++ u) ≡ chain handed h.ns (read (s ++ u)) = rw hd at (h.onward u v) in
          e ∙ rw (read-passed s u (omega arith) m', dropped, (h.at_first hd).0);
      names-on = λ u v.
          let e : names_of (acc ++ u) ≡ names_of (s ++ u) = rw hd at (h.names-on u v) in
          e ∙ names-passed s u (omega arith) m'
          ∙ ap (λ (x : List ℕ). names_from (read_s [] (x ++ u)) [] (x ++ u)) (sym dropped)
          ∙ ap (λ (q : Pool). names_from (read_s q (slice (r.start + 4) r.end l.window ++ u)) q (slice (r.start + 4) r.end l.window ++ u)) (sym (h.at_first hd).0);
      at-end = λ z. absurd (true≢false (sym (h.at-end z).1 ∙ hd));
    }

-- fewer than four bytes wait for the header: no more were accepted
pub few-accepted : (r : Stream) (l : Lent) (acc : List ℕ) (handed : List Event) (header : ℕ) (over : Bool) → Inv r l acc handed header over
    → r.header ≡ false → r.end - r.start < 4 → length acc < 4
few-accepted r l acc handed header over h hd few =
    let z : total h.ns ≡ 0 = rw (h.at_first hd).1 none-total in
    let k : header ≡ 0 = h.header-bytes ∙ rw hd in
    omega (arith, h.sum)

pub holds-next : (t : Trace) (rows : List ℕ) → Holds t → Holds (after_next t (next t.stream t.lent rows))
unfolding after_next handed_by header_by ended_by
holds-next t rows h =
    let r : Stream = t.stream in
    let l : Lent = t.lent in
    next-by (λ x. Holds (after_next t x)) r l rows (λ _ _. h)
    (λ hd. holds-from t rows r.start h (passed_on r l t.accepted t.handed t.header t.ended h hd))
    (λ hd _ few. rw (lt-leb 4 (length t.accepted) (few-accepted r l t.accepted t.handed t.header t.ended h hd few)) h)
    (λ hd four m. holds-from t rows (r.start + 4) h (passing r l t.accepted t.handed t.header t.ended h hd four m))

pub holds-step : (t : Trace) (c : Call) → Holds t → Holds (step t c)
unfolding step
holds-step t (call-feed chunk) h = holds-feed t chunk h
holds-step t (call_next rows) h = holds-next t rows h
holds-step t call-finish h = holds-finish t h

pub holds-run : (cs : List Call) (t : Trace) → Holds t → Holds (run t cs)
unfolding run
holds-run [] t h = h
holds-run (c ∷ cs) t h = holds-run cs (step t c) (holds-step t c h)

-- ---- a reader that was created

pub record Fresh (r : Stream) (l : Lent) : Type 0 where
  pub sizes-good : sizes_bad l ≡ false
  pub is-fresh : r ≡ fresh

pub created-fresh : (r : Stream) (l : Lent) → create l ≡ created r → Fresh r l
unfolding create
created-fresh r l c =
    by_test (sizes_bad l) (λ b. absurd (let e : Created.refused 17 0 ≡ created r = rw b at c in let z : ◌≡◌ {A = ℕ} 0 1 = cc e in omega arith))
    (λ b. let e : created fresh ≡ created r = rw b at c in record { sizes-good = b; is-fresh = cc e })

pub holds-created : (r : Stream) (l : Lent) → create l ≡ created r → (cs : List Call) → Holds (run (start r l) cs)
holds-created r l c cs = rw (created-fresh r l c).is-fresh (holds-run cs (start fresh l) (holds-start l))

-- after every list of calls
pub trace-sound : (r : Stream) (l : Lent) → create l ≡ created r → (cs : List Call) → Sound (run (start r l) cs)
trace-sound r l c cs = holds-sound (run (start r l) cs) (holds-created r l c cs)
