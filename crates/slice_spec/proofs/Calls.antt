-- Every list of calls of a created reader: the place is past as many of the grammar's events as the calls gave or consumed, and
-- the next call goes on from there.
use Rattle.std.specs.Prelude.{false, List, [], ◌∷◌, ◌≡◌, refl, ℕ, zero, suc, ◌+◌, ◌≤◌, length, take, drop}
use Rattle.std.proofs.Common.{◌∙◌, arith, length-append}
use Rattle.event.specs.Row.{Event}
use Rattle.grammar.specs.Document.{Pool, Reading, reads, ended, stopped, read, events, sizes, total}
use Rattle.grammar.proofs.Steps.{read_s, chain, events-chain, sizes-chain}
use Rattle.slice_spec.specs.Slice.{Place, created, create, sizes_bad, next}
use Rattle.slice_spec.specs.Slice as Slice
use Rattle.slice_spec.specs.Queries.{Query, Left, query}
use Rattle.slice_spec.proofs.Held.{held_none}
use Rattle.slice_spec.proofs.Agreement.{Gives, held_gives, Fresh, created-fresh, header-there, read_past}
use Rattle.slice_spec.proofs.Answers.{Answers, begun, held-answers}
use Rattle.slice_spec.proofs.Consumed.{counts, Comes, comes-none, next-comes, query-consumed, comes-on}

pub data Call : Type 0 where
  call_next : List ℕ → Call
  call-query : Query → List ℕ → Call

-- the place and the table that calls leave, and the events that they gave or consumed
pub record State : Type 0 where
  pub place : Place
  pub table : List ℕ
  pub events : ℕ

unfoldable pub step : List ℕ → State → Call → State
step document t (call_next rows) =
    let x : Slice.Left = next t.place document t.table rows in
    record { place = x.place; table = x.table; events = t.events + counts x.answer }
step document t (call-query q rows) =
    let x : Left = query q t.place document t.table rows in
    record { place = x.progress.place; table = x.progress.table; events = t.events + x.progress.events }

unfoldable pub run : List ℕ → State → List Call → State
run document t [] = t
run document t (c ∷ cs) = run document (step document t c) cs

-- a created reader has come so far
abbrev Reached : List ℕ → Place → List ℕ → State → Type 0
Reached document p table t = Comes document [] p table t.events t.place t.table

sizes-good : (document a b : List ℕ) → length a ≡ length b → sizes_bad document b ≡ false → sizes_bad document a ≡ false
unfolding sizes_bad
sizes-good document a b e h = rw e h

step-reached : (document : List ℕ) (p : Place) (table : List ℕ) (t : State) (c : Call) → sizes_bad document table ≡ false → Reached document p table t → Reached document p table (step document t c)
unfolding step
step-reached document p table t (call_next rows) good r = next-comes document [] p table t.events t.place t.table r rows
step-reached document p table t (call-query q rows) good r =
    comes-on document [] p table t.events t.place t.table r _ _ _
    (query-consumed document r.later t.place t.table r.held r.placed (sizes-good document t.table table r.same-table good) q rows).comes

run-reached : (cs : List Call) (document : List ℕ) (p : Place) (table : List ℕ) (t : State) → sizes_bad document table ≡ false → Reached document p table t → Reached document p table (run document t cs)
unfolding run
run-reached [] document p table t good r = r
run-reached (c ∷ cs) document p table t good r = run-reached cs document p table (step document t c) good (step-reached document p table t c good r)

-- ---- what is claimed of them

-- what is left of a reading after so many events
abbrev pub rest : ℕ → Reading → Reading
rest zero r = r
rest (suc k) (reads e n r) = rest k r
rest (suc k) (ended p) = ended p
rest (suc k) (stopped n d) = stopped n d

-- the place is past the header and so many events; from there every next and every query goes by what is left to read
pub record Agrees (document : List ℕ) (t : State) : Type 0 where
  pub within : t.events ≤ length (events (read document))
  pub distance : t.place.at ≡ 4 + total (take t.events (sizes (read document)))
  pub pool : Pool
  pub gives-on : Gives document pool (rest t.events (read document)) t.place t.table
  pub answers-on : (q : Query) (rows : List ℕ)
      → Answers q document pool (rest t.events (read document)) (begun t.place t.table rows) (query q t.place document t.table rows)

rest-chain : (es : List Event) (ns : List ℕ) (r : Reading) → length ns ≡ length es → rest (length es) (chain es ns r) ≡ r
rest-chain [] ns r h = refl
rest-chain (e ∷ es) [] r h = absurd (omega arith)
rest-chain (e ∷ es) (n ∷ ns) r h = rest-chain es ns r (omega arith)

reached-agrees : (document table : List ℕ) (t : State) → sizes_bad document table ≡ false → Reached document (record { at = 4; names = 0 }) table t
    → read document ≡ read_s [] (drop 4 document) → Agrees document t
reached-agrees document table t good c past =
    let left : Reading = read_s c.later (drop t.place.at document) in
    let e : read document ≡ chain c.es c.ns left = past ∙ c.reading in
    let r : rest t.events (read document) ≡ left = rw (e, ← c.counted) (rest-chain c.es c.ns left c.as_many) in
    let same : sizes_bad document t.table ≡ false = sizes-good document t.table table c.same-table good in
    record {
      within = rw (e, events-chain c.es c.ns left c.as_many, ← c.counted, length-append c.es (events left)) (omega arith);
      distance = c.distance ∙ rw (e, ← c.counted, sizes-chain c.es c.ns left c.as_many);
      pool = c.later;
      gives-on = rw r (held_gives document c.later t.place t.table same c.held c.placed);
      answers-on = λ q rows. rw r (held-answers q document c.later t.place t.table rows same c.held c.placed);
    }

-- the reader that was created
abbrev pub start : Place → List ℕ → State
start p table = record { place = p; table = table; events = 0 }

pub calls-agree : (document table : List ℕ) (p : Place) → create document table ≡ created p → (cs : List Call) → Agrees document (run document (start p table) cs)
calls-agree document table p c cs =
    let f : Fresh document table p = created-fresh document table p c in
    let fresh : Place = record { at = 4; names = 0 } in
    let past : 4 ≤ length document = header-there document f.is-past in
    rw f.is-fresh
    (reached-agrees document table (run document (start fresh table) cs) f.sizes-good
    (run-reached cs document fresh table (start fresh table) f.sizes-good (comes-none document [] fresh table (held_none document table) past))
    (read_past document f.is-past))
