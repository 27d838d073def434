-- With pairs for as many names as a pool can have, 11 is never answered; with rows for every event too, nexts hand out the
-- whole document.
use Rattle.std.proofs.Math.Option.{Option, none, some}
use Rattle.std.specs.Prelude.{List, [], ◌∷◌, ◌≡◌, ℕ, zero, suc, ◌+◌, ◌*◌, ◌/◌, ◌≤◌, ◌<◌, length, drop, ltb}
use Rattle.std.proofs.Common.{subst, arith, ltb-true}
use Rattle.wire.specs.Refusal.{rows_full}
use Rattle.event.specs.Row.{Event, rows_at}
use Rattle.grammar.specs.Grammar.{Ref, new, known, Value, Items, item, whole, lacks, stops, most, counted, counted_name, counted_value, after, event}
use Rattle.grammar.specs.Document.{Pool, all, rows_of, pool_of, keep_item, one, ending, read_one, Reading, reads, ended, stopped, read, events}
use Rattle.grammar.proofs.Choice.{cond-by}
use Rattle.grammar.proofs.Steps.{keep_item-length}
use Rattle.slice_spec.specs.Slice.{Place, created, create, Answer, gives, end, Left, unchanged, next}
use Rattle.slice_spec.proofs.Kept.{Frame, Kept, next-keeps}
use Rattle.slice_spec.proofs.Agreement.{Hands, Gives, agreement}

-- ---- no pool is larger

counted-most : (k : ℕ) (r : Ref) → k ≤ most → counted k r ≤ most
unfolding counted
counted-most k (new t) h = cond-by (λ n. n ≤ most) (ltb k most) (k + 1) k (λ b. let c = ltb-true k most b in omega arith) (λ _. h)
counted-most k (known i) h = h

pub counted_name-most : (k : ℕ) (r : Option Ref) → k ≤ most → counted_name k r ≤ most
unfolding counted_name
counted_name-most k none h = h
counted_name-most k (some r) h = counted-most k r h

pub counted_value-most : (k : ℕ) (v : Value) → k ≤ most → counted_value k v ≤ most
unfolding counted_value
counted_value-most k Value.nothing h = h
counted_value-most k Value.empty h = h
counted_value-most k (Value.span t) h = h
counted_value-most k (Value.interned r) h = counted-most k r h
counted_value-most k (Value.word w) h = h
counted_value-most k (Value.pair a b) h = h

pool-most : (s : List ℕ) (pool : Pool) (is : Items) → length pool ≤ most → length (pool_of s pool is) ≤ most
unfolding pool_of after
pool-most s pool (item i is) h = pool-most s (keep_item s pool i) is (rw (keep_item-length s pool i) (counted_value-most _ i.value (counted_name-most _ i.name h)))
pool-most s pool (whole n e) h = h
pool-most s pool (lacks k) h = h
pool-most s pool (stops n d) h = h

ending-pool : (rows : Event) (pool : Pool) (is : Items) (e : Event) (n : ℕ) (later : Pool) → ending rows pool is ≡ one e n later → pool ≡ later
unfolding ending
ending-pool rows pool (item i is) e n later h = ending-pool rows pool is e n later h
ending-pool rows pool (whole m d) e n later h = cc h
ending-pool rows pool (lacks k) e n later h = absurd (let z : ◌≡◌ {A = ℕ} 0 1 = cc h in omega arith)
ending-pool rows pool (stops m d) e n later h = absurd (let z : ◌≡◌ {A = ℕ} 0 1 = cc h in omega arith)

one-most : (pool : Pool) (s : List ℕ) (e : Event) (n : ℕ) (later : Pool) → read_one pool s ≡ one e n later → length pool ≤ most → length later ≤ most
unfolding read_one
one-most pool s e n later h l =
    let is : Items = event all (length pool) s in
    rw (ending-pool (rows_of s pool is) (pool_of s pool is) is e n later h) at (pool-most s pool is l)

-- ---- a table with room for them

-- as `Gives`, and never 11
abbrev pub Flows : List ℕ → Reading → Place → List ℕ → Type 0
Flows document (reads e n r) p table = (rows : List ℕ)
    → (length rows / 8 < length e → next p document table rows ≡ unchanged p table rows (Answer.refused rows_full 0))
    × (length e ≤ length rows / 8
    → (later : Pool) × Hands document p e n later (next p document table rows) × Flows document r (next p document table rows).place (next p document table rows).table)
Flows document (ended last) p table = (rows : List ℕ) → next p document table rows ≡ unchanged p table rows end
Flows document (stopped n d) p table = (rows : List ℕ) → next p document table rows ≡ unchanged p table rows (Answer.refused n d)

hands-frame : (document : List ℕ) (p : Place) (table rows : List ℕ) (e : Event) (n : ℕ) (later : Pool) → Hands document p e n later (next p document table rows)
    → Frame p table rows (length e) (next p document table rows)
hands-frame document p table rows e n later h =
    subst (λ (a : Answer). Kept p table rows a (next p document table rows)) h.answered (next-keeps p document table rows)

gives-flows : (document : List ℕ) (pool : Pool) (r : Reading) (p : Place) (table : List ℕ) → length pool ≤ most → 2 * most ≤ length table → Gives document pool r p table
    → Flows document r p table
gives-flows document pool (reads e n r) p table l room g = λ rows. (
  (g.2 rows).0,
  λ a.
      let m : length g.0 ≤ most = one-most pool (drop p.at document) e n g.0 g.1 l in
      let x = (g.2 rows).2 a (omega arith) in
      (g.0, x.0, gives-flows document g.0 r _ _ m (rw (hands-frame document p table rows e n g.0 x.0).same-table room) x.1),
)
gives-flows document pool (ended last) p table l room g = g.2
gives-flows document pool (stopped n d) p table l room g = g

pub agreement-roomy : (document table : List ℕ) (p : Place) → create document table ≡ created p → 2 * most ≤ length table → Flows document (read document) p table
agreement-roomy document table p c room = gives-flows document [] (read document) p table (omega arith) room (agreement document table p c)

-- ---- one next after another

-- the events that nexts hand out with the same rows, so many at most, and the answer at which they stop
pub record Handed : Type 0 where
  pub list : List Event
  pub stop : Option Answer

abbrev more : Event → Handed → Handed
more e x = record { list = e ∷ x.list; stop = x.stop }

abbrev by_answer : List ℕ → Left → Answer → Handed → Handed
by_answer document x (gives k) y = more (rows_at document [] k x.rows) y
by_answer document x end y = record { list = []; stop = some end }
by_answer document x (Answer.refused n d) y = record { list = []; stop = some (Answer.refused n d) }

unfoldable pub nexts : ℕ → Place → List ℕ → List ℕ → List ℕ → Handed
nexts zero p document table rows = record { list = []; stop = none }
nexts (suc f) p document table rows =
    let x : Left = next p document table rows in
    by_answer document x x.answer (nexts f x.place document x.table x.rows)

-- how a reading ends, as an answer
abbrev pub last_answer : Reading → Answer
last_answer (reads e n r) = last_answer r
last_answer (ended p) = end
last_answer (stopped n d) = Answer.refused n d

-- each event has room in so many rows
abbrev pub Fit : ℕ → List Event → Type 0
Fit k [] = Unit {0}
Fit k (e ∷ es) = (length e ≤ k) × Fit k es

flows-nexts : (r : Reading) (f : ℕ) (document : List ℕ) (p : Place) (table rows : List ℕ) → length (events r) < f → Fit (length rows / 8) (events r) → Flows document r p table
    → nexts f p document table rows ≡ record { list = events r; stop = some (last_answer r) }
unfolding nexts events
flows-nexts r zero document p table rows k fit w = absurd (omega arith)
flows-nexts (reads e n r) (suc f) document p table rows k fit w =
    let x : Left = next p document table rows in
    let y = (w rows).1 fit.0 in
    let h : Hands document p e n y.0 x = y.1 in
    let same : length x.rows ≡ length rows = (hands-frame document p table rows e n y.0 h).same_rows in
    let ih = flows-nexts r f document x.place x.table x.rows (omega arith) (rw same fit.1) y.2 in
    rw (h.answered, h.says, ih)
flows-nexts (ended last) (suc f) document p table rows k fit w = rw (w rows)
flows-nexts (stopped n d) (suc f) document p table rows k fit w = rw (w rows)

-- the whole document
pub whole-document : (document table rows : List ℕ) (p : Place) → create document table ≡ created p → 2 * most ≤ length table → Fit (length rows / 8) (events (read document))
    → nexts (suc (length (events (read document)))) p document table rows ≡ record { list = events (read document); stop = some (last_answer (read document)) }
whole-document document table rows p c room fit =
    flows-nexts (read document) (suc (length (events (read document)))) document p table rows (omega arith) fit (agreement-roomy document table p c room)
