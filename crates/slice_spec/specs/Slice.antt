-- The slice reader's calls, as functions of the place and of what is lent: document 01, "Slice reader and queries".
use Rattle.std.specs.Prelude.{Bool, true, ◌||◌, cond, List, ℕ, ◌+◌, ◌*◌, ◌/◌, ◌%◌, length, drop, ltb, eqb}
use Rattle.std.proofs.lemmas.List.Edits.{sets}
use Rattle.wire.specs.Header.{Check, header}
use Rattle.wire.specs.Header as Header
use Rattle.wire.specs.Refusal.{rows_full, pool_full, bad_size, bad_state}
use Rattle.wire.specs.Limits.{max_store, max_table}
use Rattle.grammar.specs.Grammar.{Span, Items, event}
use Rattle.grammar.specs.Scan.{sound, adds, pairs, count, words, Outcome, complete, incomplete, bad, outcome}

-- where the next event starts in the document, and how many pairs of the pool table are names
pub record Place : Type 0 where
  pub at : ℕ
  pub names : ℕ

-- ---- what every call checks first

-- 17: a document or a pool table of a length that no reader takes
unfoldable pub sizes_bad : List ℕ → List ℕ → Bool
sizes_bad document table = ltb max_store (length document) || (eqb (length table % 2) 1 || ltb max_table (length table))

-- 19: a place or a count outside its buffer
unfoldable pub place_bad : Place → List ℕ → List ℕ → Bool
place_bad p document table = ltb (length document) p.at || ltb (length table) (2 * p.names)

-- ---- creation

-- a place, or a refusal with its number and detail
pub data Created : Type 0 where
  created : Place → Created
  refused : ℕ → ℕ → Created

abbrev pub by_header : Check → Created
by_header Header.passed = created (record { at = 4; names = 0 })
by_header (Header.refused n d) = refused n d

unfoldable pub create : List ℕ → List ℕ → Created
create document table = cond (sizes_bad document table) (refused bad_size 0) (by_header (header document))

-- ---- the next event

-- the rows of the event at a place of the document
unfoldable pub items_at : Place → List ℕ → List ℕ → Items
items_at p document table = event (sound p.names table (length document)) p.names (drop p.at document)

-- the table with an event's new names, which lie in the document itself, and the place after an event of n bytes
unfoldable pub table_after : Place → List ℕ → List Span → List ℕ
table_after p table ts = sets table (2 * p.names) (pairs p.at ts)

unfoldable pub place_after : Place → ℕ → List Span → Place
place_after p n ts = record { at = p.at + n; names = p.names + length ts }

-- what a next answers: an event of so many rows; the end; or a refusal
pub data Answer : Type 0 where
  gives : ℕ → Answer
  end : Answer
  refused : ℕ → ℕ → Answer

-- what a next leaves: its answer, the place, and every lent word
pub record Left : Type 0 where
  pub answer : Answer
  pub place : Place
  pub table : List ℕ
  pub rows : List ℕ

abbrev pub unchanged : Place → List ℕ → List ℕ → Answer → Left
unchanged p table rows a = record { answer = a; place = p; table = table; rows = rows }

-- `is` are the rows of the event at the place, which has n bytes, and `ts` the names that it adds. Every span lies in the
-- document, so each has source 0
unfoldable pub given : Place → List ℕ → List ℕ → Items → ℕ → List Span → Left
given p table rows is n ts =
    record {
      answer = gives (count is);
      place = place_after p n ts;
      table = table_after p table ts;
      rows = sets rows 0 (words 0 p.at (table_after p table ts) is);
    }

-- 10: too few whole rows; then 11: pool table too short
unfoldable pub hand_out : Place → List ℕ → List ℕ → Items → ℕ → List Span → Left
hand_out p table rows is n ts =
    cond (ltb (length rows / 8) (count is)) (unchanged p table rows (refused rows_full 0))
    (cond (ltb (length table) (2 * (p.names + length ts))) (unchanged p table rows (refused pool_full 0)) (given p table rows is n ts))

-- a slice is finished from the start: no event is incomplete
unfoldable pub by_outcome : Place → List ℕ → List ℕ → Items → Outcome → Left
by_outcome p table rows is (complete n) = hand_out p table rows is n (adds p.names is)
by_outcome p table rows is incomplete = unchanged p table rows end
by_outcome p table rows is (bad n d) = unchanged p table rows (refused n d)

unfoldable pub next_from : Place → List ℕ → List ℕ → List ℕ → Left
next_from p document table rows =
    let is : Items = items_at p document table in
    cond (eqb p.at (length document)) (unchanged p table rows end) (by_outcome p table rows is (outcome true is))

unfoldable pub next : Place → List ℕ → List ℕ → List ℕ → Left
next p document table rows =
    cond (sizes_bad document table) (unchanged p table rows (refused bad_size 0))
    (cond (place_bad p document table) (unchanged p table rows (refused bad_state 0)) (next_from p document table rows))
