-- One event of a query: which of its rows are taken, and what the code's answer says in the terms of the definition.
use Rattle.std.specs.Prelude.{Bool, true, false, ◌||◌, cond, Option, Some, None, Result, Ok, Err, List, [], ◌∷◌, ◌++◌, ℕ, ◌+◌, ◌*◌, ◌/◌, ◌≤◌, ◌<◌, length, ltb, eqb}
use Rattle.std.proofs.Math.Path.{◌≡◌}
use Rattle.std.proofs.Common.{◌∙◌, arith}
use Rattle.std.proofs.lemmas.List.Edits.{sets}
use Rattle.wire.specs.Refusal.{bad_size, bad_state}
use Rattle.wire.specs.declared.Refusal.{Refusal}
use Rattle.wire.specs.Answers.{number_of, detail_of}
use Rattle.wire.specs.Limits.{max_store, max_table}
use Rattle.grammar.specs.Grammar.{Items, item, whole, lacks, stops}
use Rattle.grammar.specs.Scan.{item_words, adds, pairs, Outcome, complete, incomplete, bad, outcome}
use Rattle.grammar.specs.Scan as Scan
use Rattle.grammar.proofs.Choice.{by_test}
use Rattle.grammar.specs.Endings.{Ended}
use Rattle.slice_spec.specs.Queries as Defined
use Rattle.slice_spec.specs.Queries.{Words, named, is_element, concat, Progress, done, refused, table_with}
use Rattle.slice_spec.specs.Slice.{Place, sizes_bad, place_bad, items_at}
use Rattle.slice_spec.specs.Turns.{Turn, passed, halted, passing, turn_by, turn, turn_or_refuse}
use Rattle.scanner.specs.declared.select.Query.{Query}
use Rattle.scanner.specs.declared.select.Picked.{Picked}
use Rattle.scanner.specs.declared.select.Extent.{Extent}

-- ---- the query

abbrev pub query_of : Query → List ℕ → List ℕ → Defined.Query
query_of Query.FindAttribute element name = Defined.find-attribute element name
query_of Query.AttributesOf element name = Defined.attributes-of element
query_of Query.FindAllAttributes element name = Defined.find-all-attributes element name
query_of Query.AllAttributesOf element name = Defined.all-attributes-of element

-- it takes the tag's row and all its attributes
abbrev pub takes_all : Query → Bool
takes_all Query.FindAttribute = false
takes_all Query.AttributesOf = true
takes_all Query.FindAllAttributes = false
takes_all Query.AllAttributesOf = true

-- it takes one row at most
abbrev pub takes_one : Query → Bool
takes_one Query.FindAttribute = true
takes_one Query.AttributesOf = false
takes_one Query.FindAllAttributes = false
takes_one Query.AllAttributesOf = false

-- no more rows than these are taken of an event of so many
abbrev pub most_of : Query → ℕ → ℕ
most_of q count = cond (takes_one q) 1 count

-- ---- rows that are taken

-- an event's rows
unfoldable pub rows_of : ℕ → List ℕ → Items → List Words
rows_of base table (item i is) = item_words 0 base table i ∷ rows_of base table is
rows_of base table (whole n e) = []
rows_of base table (lacks k) = []
rows_of base table (stops n d) = []

-- of attributes: all, or those of this name, or the first of them
unfoldable pub taken : Bool → Bool → List ℕ → List ℕ → List Words → List Words
taken all one document name [] = []
taken all one document name (w ∷ ws) =
    cond (all || named document name w) (w ∷ cond one [] (taken all one document name ws)) (taken all one document name ws)

-- of an event
unfoldable pub chosen : Query → List ℕ → List ℕ → List ℕ → List Words → List Words
chosen q document element name [] = []
chosen q document element name (w ∷ ws) =
    cond (is_element document element w) (cond (takes_all q) (w ∷ []) [] ++ taken (takes_all q) (takes_one q) document name ws) []

-- the table with the new names of these rows, which lie in an input that stands in its store from `base` on
abbrev pub grown : ℕ → ℕ → List ℕ → Items → List ℕ
grown base names table is = sets table (2 * names) (pairs base (adds names is))

-- there is room for so many rows from a word on, where any are lent to write to; else they are counted from 0 on
pub record Room (to n : ℕ) (rows : List ℕ) : Type 0 where
  pub fits : 0 < length rows → to + 8 * n ≤ length rows
  pub sized : length rows < 18_446_744_073_709_551_616
  pub counts : length rows ≡ 0 → to ≤ max_store * 8

-- so many rows are taken, and stored where they have room
pub record Chose (to : ℕ) (ws : List Words) (rows rows' : List ℕ) (n : ℕ) : Type 0 where
  pub counted : n ≡ length ws
  pub rows_are : rows' ≡ sets rows to (concat ws)

-- ---- one event

abbrev pub place_of : ℕ → ℕ → Place
place_of at names = record { at = at; names = names }

-- how far a query has come: the place, the lent words, the events consumed and the rows written
abbrev pub progress : ℕ → ℕ → List ℕ → List ℕ → ℕ → ℕ → Progress
progress at names table rows events written = record { place = place_of at names; table = table; rows = rows; events = events; written = written }

abbrev stays : Progress → List ℕ → List ℕ → Progress
stays g table rows = record { place = g.place; table = table; rows = rows; events = g.events; written = g.written }

-- what the code's answer says: an end and a refusal leave the place as it was
abbrev pub turn_of : Progress → List ℕ → List ℕ → Result (Option Picked) Refusal → Turn
turn_of g table rows (Ok (Some e)) =
    passed e.kind e.rows (record { place = record { at = g.place.at + e.len; names = g.place.names + e.added }; table = table; rows = rows; events = g.events + 1; written = g.written + e.rows })
turn_of g table rows (Ok None) = halted done (stays g table rows)
turn_of g table rows (Err r) = halted (refused (number_of r) (detail_of r)) (stays g table rows)

-- the rows that are taken, by the pool's pairs with the event's new names
unfoldable pub asked : Query → List ℕ → List ℕ → List ℕ → Place → List ℕ → Items → List Words
asked q element name document p table is = chosen q document element name (rows_of p.at (table_with p table (adds p.names is)) is)

abbrev pub asked_at : Query → List ℕ → List ℕ → List ℕ → ℕ → ℕ → List ℕ → List Words
asked_at q element name document at names table = asked q element name document (place_of at names) table (items_at (place_of at names) document table)

-- what holds of an event that was read whole: it is handed over with its rows, new names and bytes
pub record Whole (document : List ℕ) (p : Place) (table : List ℕ) (is : Items) (count added : ℕ) : Type 0 where
  pub ended : Ended is
  pub rows_are : count ≡ Scan.count is
  pub as_many : added ≡ length (adds p.names is)
  pub at-fits : p.at ≤ length document
  pub names-fit : 2 * p.names ≤ length table
  pub document-small : length document ≤ max_store
  pub table-small : length table ≤ max_table

abbrev pub WholeAt : List ℕ → ℕ → ℕ → List ℕ → Extent → Type 0
WholeAt document at names table extent = Whole document (place_of at names) table (items_at (place_of at names) document table) extent.rows extent.added

-- the turn over an event of so many bytes that was read whole
abbrev pub passes : Query → List ℕ → List ℕ → List ℕ → Progress → ℕ → Turn
passes q element name document g len =
    let is = items_at g.place document g.table in
    passing g (Defined.kind_of is) len (adds g.place.names is) (asked q element name document g.place g.table is)

-- ---- the event at a place

-- what lies there, with 17 and 19 before it; nothing is complete at the document's end
unfoldable pub seen : List ℕ → Place → List ℕ → Outcome
seen document p table =
    cond (sizes_bad document table) (bad bad_size 0)
    (cond (place_bad p document table) (bad bad_state 0)
    (cond (eqb p.at (length document)) incomplete (outcome true (items_at p document table))))

abbrev pub seen_of : Result (Option Extent) Refusal → Outcome
seen_of (Ok (Some e)) = complete e.len
seen_of (Ok None) = incomplete
seen_of (Err r) = bad (number_of r) (detail_of r)

pub record Sees (document : List ℕ) (p : Place) (table : List ℕ) (r : Result (Option Extent) Refusal) : Type 0 where
  pub outcome-is : seen_of r ≡ seen document p table
  pub read_whole : (e : Extent) → r ≡ Ok (Some e) → Whole document p table (items_at p document table) e.rows e.added

-- ---- without counting

-- a turn; or the rows left are fewer than could be taken, and nothing was done
pub data Tried : Type 0 where
  turned : Turn → Tried
  unsure : Progress → Tried

abbrev pub uncounted_of : Progress → List ℕ → List ℕ → Option (Result (Option Picked) Refusal) → Tried
uncounted_of g table rows (Some p) = turned (turn_of g table rows p)
uncounted_of g table rows None = unsure (stays g table rows)

-- the rows left are fewer than could be taken; where more were written than there are, it is 10 whatever is taken
abbrev pub in_doubt : ℕ → ℕ → ℕ → Bool
in_doubt room written most = cond (ltb room written) false (ltb room (written + most))

-- the turn over an event that was read whole, where it is not in doubt
abbrev pub surely : Query → List ℕ → List ℕ → List ℕ → Progress → Extent → Tried
surely q element name document g extent =
    cond (in_doubt (length g.rows / 8) g.written (most_of q extent.rows)) (unsure g) (turned (passes q element name document g extent.len))

unfoldable pub uncounted_by : Query → List ℕ → List ℕ → List ℕ → Progress → Items → Outcome → Tried
uncounted_by q element name document g is (complete n) =
    cond (in_doubt (length g.rows / 8) g.written (most_of q (Scan.count is))) (unsure g) (turned (turn_by (query_of q element name) document g is (complete n)))
uncounted_by q element name document g is incomplete = turned (turn_by (query_of q element name) document g is incomplete)
uncounted_by q element name document g is (bad n d) = turned (turn_by (query_of q element name) document g is (bad n d))

unfoldable pub uncounted : Query → List ℕ → List ℕ → List ℕ → Progress → Tried
uncounted q element name document g = uncounted_by q element name document g (items_at g.place document g.table) (seen document g.place g.table)

-- ---- its laws

module _ (document : List ℕ) (g : Progress) where
  pub turn-seen : (q : Defined.Query) → turn_by q document g (items_at g.place document g.table) (seen document g.place g.table) ≡ turn_or_refuse q document g
  unfolding seen turn_or_refuse turn turn_by
  turn-seen q =
      by_test (sizes_bad document g.table) (λ a. rw a) (λ a. rw a
      (by_test (place_bad g.place document g.table) (λ b. rw b) (λ b. rw b
      (by_test (eqb g.place.at (length document)) (λ e. rw e) (λ e. rw e)))))

  module _ (q : Query) (element name : List ℕ) where
    turned_by : (is : Items) (o : Outcome) (t : Turn) → turned t ≡ uncounted_by q element name document g is o → t ≡ turn_by (query_of q element name) document g is o
    unfolding uncounted_by
    turned_by is (complete n) t h =
        by_test (in_doubt (length g.rows / 8) g.written (most_of q (Scan.count is)))
        (λ a. let y = rw a at h in let z : ◌≡◌ {A = ℕ} 0 1 = cc y in absurd (omega arith))
        (λ a. let y = rw a at h in cc y)
    turned_by is incomplete t h = cc h
    turned_by is (bad n d) t h = cc h

    unsure-by : (is : Items) (o : Outcome) (g' : Progress) → unsure g' ≡ uncounted_by q element name document g is o → g' ≡ g
    unfolding uncounted_by
    unsure-by is (complete n) g' h =
        by_test (in_doubt (length g.rows / 8) g.written (most_of q (Scan.count is)))
        (λ a. let y = rw a at h in cc y)
        (λ a. let y = rw a at h in let z : ◌≡◌ {A = ℕ} 0 1 = cc y in absurd (omega arith))
    unsure-by is incomplete g' h = let z : ◌≡◌ {A = ℕ} 0 1 = cc h in absurd (omega arith)
    unsure-by is (bad n d) g' h = let z : ◌≡◌ {A = ℕ} 0 1 = cc h in absurd (omega arith)

    -- a turn is the one of the definition; else all is as it was
    pub turned-is : (t : Turn) → turned t ≡ uncounted q element name document g → t ≡ turn_or_refuse (query_of q element name) document g
    unfolding uncounted
    turned-is t h = turned_by _ _ t h ∙ turn-seen (query_of q element name)

    pub unsure-is : (g' : Progress) → unsure g' ≡ uncounted q element name document g → g' ≡ g
    unfolding uncounted
    unsure-is g' h = unsure-by _ _ g' h
