-- A query by single events: one event is consumed, or the query ends where it stands.
use Rattle.std.specs.Prelude.{true, cond, List, ℕ, zero, suc, ◌+◌, ◌*◌, ◌/◌, length, ltb, eqb}
use Rattle.wire.specs.Token.{end_document}
use Rattle.wire.specs.Refusal.{rows_full, pool_full, bad_size, bad_state}
use Rattle.grammar.specs.Grammar.{Span, Items}
use Rattle.grammar.specs.Scan.{adds, Outcome, complete, incomplete, bad, outcome}
use Rattle.slice_spec.specs.Slice.{sizes_bad, place_bad, items_at}
use Rattle.slice_spec.specs.Queries.{Query, find-attribute, attributes-of, find-all-attributes, all-attributes-of, Words, Ending, found, done, refused, Step, on, stop, Progress, Left, ends, past, by_step, kind_of, writes}

-- an event of this kind was consumed and so many rows of it were written; or the query ends
pub data Turn : Type 0 where
  passed : ℕ → ℕ → Progress → Turn
  halted : Ending → Progress → Turn

-- 10: too few whole rows for what it writes; then 11: pool table too short
unfoldable pub passing : Progress → ℕ → ℕ → List Span → List Words → Turn
passing g kind n ts ws =
    cond (ltb (length g.rows / 8) (g.written + length ws)) (halted (refused rows_full 0) g)
    (cond (ltb (length g.table) (2 * (g.place.names + length ts))) (halted (refused pool_full 0) g)
    (passed kind (length ws) (past g n ts ws)))

unfoldable pub turn_by : Query → List ℕ → Progress → Items → Outcome → Turn
turn_by q document g is (complete n) = passing g (kind_of is) n (adds g.place.names is) (writes q document g is)
turn_by q document g is incomplete = halted done g
turn_by q document g is (bad n d) = halted (refused n d) g

-- the event at the place that a query has come to
unfoldable pub turn : Query → List ℕ → Progress → Turn
turn q document g =
    let is : Items = items_at g.place document g.table in
    cond (eqb g.place.at (length document)) (halted done g) (turn_by q document g is (outcome true is))

-- 17, then 19, then the event: for every state and buffer
unfoldable pub turn_or_refuse : Query → List ℕ → Progress → Turn
turn_or_refuse q document g =
    cond (sizes_bad document g.table) (halted (refused bad_size 0) g)
    (cond (place_bad g.place document g.table) (halted (refused bad_state 0) g) (turn q document g))

-- ---- a query is turn after turn

-- whether it goes on, by how many rows it wrote
unfoldable pub single_by : ℕ → ℕ → Step
single_by kind zero = cond (eqb kind end_document) (stop done) on
single_by kind (suc n) = stop found

unfoldable pub after_by : Query → ℕ → ℕ → Step
after_by (find-attribute element name) kind n = single_by kind n
after_by (attributes-of element) kind n = single_by kind n
after_by (find-all-attributes element name) kind n = on
after_by (all-attributes-of element) kind n = on

unfoldable pub by_turn : Query → (Progress → Left) → Turn → Left
by_turn q more (passed kind n g) = by_step (after_by q kind n) g more
by_turn q more (halted e g) = ends g e
