-- The four queries, as functions of the place and of what is lent: document 01, "Slice reader and queries".
use Rattle.std.specs.Prelude.{Bool, true, ◌&&◌, cond, List, [], ◌∷◌, ◌++◌, ℕ, zero, suc, ◌+◌, ◌*◌, ◌/◌, length, get_or, take, drop, ltb, eqb}
use Rattle.std.proofs.lemmas.List.Edits.{sets}
use Rattle.wire.specs.Token.{start_tag, end_document}
use Rattle.wire.specs.Refusal.{rows_full, pool_full, bad_size, bad_state}
use Rattle.event.specs.Span.{same}
use Rattle.event.specs.Row.{row_at}
use Rattle.grammar.specs.Grammar.{Span, Items, item, whole, lacks, stops}
use Rattle.grammar.specs.Scan.{adds, pairs, count, words, Outcome, complete, incomplete, bad, outcome}
use Rattle.slice_spec.specs.Slice.{Place, sizes_bad, place_bad, items_at, table_after, place_after}

-- what is asked for: the names of an element and of an attribute, as bytes
pub data Query : Type 0 where
  find-attribute : List ℕ → List ℕ → Query
  attributes-of : List ℕ → Query
  find-all-attributes : List ℕ → List ℕ → Query
  all-attributes-of : List ℕ → Query

-- ---- the rows of one event that a query writes; a row is a list of eight words, its name a part of the document

abbrev pub Words : Type 0
Words = List ℕ

-- an event's words, row by row
unfoldable pub split : ℕ → List ℕ → List Words
split zero w = []
split (suc n) w = take 8 w ∷ split n (drop 8 w)

unfoldable pub named : List ℕ → List ℕ → Words → Bool
named document name w = same (row_at document [] w).name name

unfoldable pub is_element : List ℕ → List ℕ → Words → Bool
is_element document element w = eqb (get_or w 0 0) start_tag && named document element w

-- the rows of this name, and the first of them
unfoldable pub all_named : List ℕ → List ℕ → List Words → List Words
all_named document name [] = []
all_named document name (w ∷ ws) = cond (named document name w) (w ∷ all_named document name ws) (all_named document name ws)

unfoldable pub first_named : List ℕ → List ℕ → List Words → List Words
first_named document name [] = []
first_named document name (w ∷ ws) = cond (named document name w) (w ∷ []) (first_named document name ws)

-- of an event, its own row w and its attributes ws
unfoldable pub picks : Query → List ℕ → Words → List Words → List Words
picks (find-attribute element name) document w ws = cond (is_element document element w) (first_named document name ws) []
picks (attributes-of element) document w ws = cond (is_element document element w) (w ∷ ws) []
picks (find-all-attributes element name) document w ws = cond (is_element document element w) (all_named document name ws) []
picks (all-attributes-of element) document w ws = cond (is_element document element w) (w ∷ ws) []

unfoldable pub picked : Query → List ℕ → List Words → List Words
picked q document [] = []
picked q document (w ∷ ws) = picks q document w ws

-- ---- when a query stops

-- what ends it: a match; the end of the input, or EndDocument; or a refusal, with its number and detail
pub data Ending : Type 0 where
  found : Ending
  done : Ending
  refused : ℕ → ℕ → Ending

-- whether it goes on after an event of this kind of which it wrote these rows
pub data Step : Type 0 where
  on : Step
  stop : Ending → Step

-- the first match stops it, and so does EndDocument
unfoldable pub single : {A : Type 0} → ℕ → List A → Step
single kind [] = cond (eqb kind end_document) (stop done) on
single kind (w ∷ ws) = stop found

unfoldable pub after : {A : Type 0} → Query → ℕ → List A → Step
after (find-attribute element name) kind ws = single kind ws
after (attributes-of element) kind ws = single kind ws
after (find-all-attributes element name) kind ws = on
after (all-attributes-of element) kind ws = on

-- ---- a query

-- how far a query has come: the place, the lent words, the events consumed and the rows written
pub record Progress : Type 0 where
  pub place : Place
  pub table : List ℕ
  pub rows : List ℕ
  pub events : ℕ
  pub written : ℕ

-- what it leaves
pub record Left : Type 0 where
  pub ending : Ending
  pub progress : Progress

abbrev pub ends : Progress → Ending → Left
ends g e = record { ending = e; progress = g }

unfoldable pub concat : List Words → List ℕ
concat [] = []
concat (w ∷ ws) = w ++ concat ws

-- past an event of n bytes that adds the names ts, with these rows written
unfoldable pub past : Progress → ℕ → List Span → List Words → Progress
past g n ts ws =
    record {
      place = place_after g.place n ts;
      table = table_after g.place g.table ts;
      rows = sets g.rows (8 * g.written) (concat ws);
      events = g.events + 1;
      written = g.written + length ws;
    }

unfoldable pub by_step : Step → Progress → (Progress → Left) → Left
by_step on g more = more g
by_step (stop e) g more = ends g e

-- 10: too few whole rows for what it writes; then 11: pool table too short; else it goes on by `more`, unless it stops
unfoldable pub consume : Query → Progress → ℕ → ℕ → List Span → List Words → (Progress → Left) → Left
consume q g kind n ts ws more =
    cond (ltb (length g.rows / 8) (g.written + length ws)) (ends g (refused rows_full 0))
    (cond (ltb (length g.table) (2 * (g.place.names + length ts))) (ends g (refused pool_full 0))
    (by_step (after q kind ws) (past g n ts ws) more))

-- the kind of an event: its own row's
unfoldable pub kind_of : Items → ℕ
kind_of (item i is) = i.kind
kind_of (whole n e) = 0
kind_of (lacks k) = 0
kind_of (stops n d) = 0

-- the pool's pairs with an event's new names: what a query writes of the event is asked before the table's room for them
unfoldable pub table_with : Place → List ℕ → List Span → List ℕ
table_with p table ts = take (2 * p.names) table ++ pairs p.at ts

-- what a query writes of the event at its place
unfoldable pub writes : Query → List ℕ → Progress → Items → List Words
writes q document g is =
    picked q document (split (count is) (words 0 g.place.at (table_with g.place g.table (adds g.place.names is)) is))

unfoldable pub by_outcome : Query → List ℕ → Progress → Items → Outcome → (Progress → Left) → Left
by_outcome q document g is (complete n) more =
    consume q g (kind_of is) n (adds g.place.names is) (writes q document g is) more
by_outcome q document g is incomplete more = ends g done
by_outcome q document g is (bad n d) more = ends g (refused n d)

-- event after event. An event has a byte at least, so as many turns as the document has bytes are enough
unfoldable pub query_f : ℕ → Query → List ℕ → Progress → Left
query_f zero q document g = ends g done
query_f (suc f) q document g =
    let is : Items = items_at g.place document g.table in
    cond (eqb g.place.at (length document)) (ends g done)
    (by_outcome q document g is (outcome true is) (λ g'. query_f f q document g'))

unfoldable pub query : Query → Place → List ℕ → List ℕ → List ℕ → Left
query q p document table rows =
    let g : Progress = record { place = p; table = table; rows = rows; events = 0; written = 0 } in
    cond (sizes_bad document table) (ends g (refused bad_size 0))
    (cond (place_bad p document table) (ends g (refused bad_state 0)) (query_f (length document) q document g))
