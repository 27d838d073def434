-- What stands at a place of the document, where the pool table holds the pool: the next event of the reading, its refusal, or its end.
use Rattle.std.proofs.Math.Bool.{true}
use Rattle.std.proofs.Common.{true≢false, sym, ◌∙◌, arith, eqb-true, drop-drop}
use mathlib.Core.List.{List, [], ◌++◌}
use Rattle.std.specs.Prelude.{◌≡◌, refl, ℕ, zero, suc, ◌+◌, ◌*◌, ◌-◌, ◌≤◌, take, drop, eqb}
use Rattle.std.proofs.Math.Path.{ap}
use Rattle.std.proofs.lemmas.Bool.{eqb-false}
use Rattle.std.proofs.Math.ListN.{length, length-drop}
use Rattle.std.proofs.lemmas.List.Edits.{sets}
use Rattle.std.proofs.Math.Seq.{drop-length, take-length}
use Rattle.event.specs.Row.{Event, rows_at}
use Rattle.grammar.specs.Grammar.{Span, Items, event}
use Rattle.grammar.specs.Document.{Pool, all, rows_of, pool_of, one, read_one, reads, ended, stopped, read_f}
use Rattle.grammar.specs.Scan.{adds, pairs, count, words, Outcome, complete, incomplete, bad, outcome}
use Rattle.grammar.proofs.Choice.{by_test}
use Rattle.grammar.proofs.Laws.{Agree, agree-event}
use Rattle.grammar.proofs.Steps.{read_s, ReadsOn, reads_here}
use Rattle.grammar.proofs.Outcomes.{complete-reads-on, one-outcome, bad-stops, incomplete-last}
use Rattle.grammar.proofs.Added.{these, AllIn, adds-in, grown, pool-adds}
use Rattle.grammar.proofs.Said.{rows-say}
use Rattle.grammar.proofs.Remaining.{count-rows}
use Rattle.slice_spec.specs.Slice.{Place, items_at, table_after}
use Rattle.slice_spec.specs.Queries.{table_with}
use Rattle.slice_spec.proofs.Held.{Held, held-adds, held_with, held-finds, sound-all}

-- ---- at a place

-- the event that stands at a place, of n bytes: the reading's next one, and what a reader makes of it
pub record Stands (document : List ℕ) (pool : Pool) (p : Place) (table : List ℕ) (n : ℕ) : Type 0 where
  pub rows : Event
  pub later : Pool
  pub rows-of : rows ≡ rows_of (drop p.at document) pool (items_at p document table)
  pub alone : read_one pool (drop p.at document) ≡ one rows n later
  pub reading : read_s pool (drop p.at document) ≡ reads rows n (read_s later (drop (p.at + n) document))
  pub some_bytes : 1 ≤ n
  pub within : p.at + n ≤ length document
  pub as_many : count (items_at p document table) ≡ length rows
  pub joined : p.names + length (adds p.names (items_at p document table)) ≡ length later
  pub held : 2 * length later ≤ length table
      → Held document later (p.names + length (adds p.names (items_at p document table))) (table_after p table (adds p.names (items_at p document table)))
  pub said : 2 * length later ≤ length table → (rest : List ℕ)
      → rows_at document [] (length rows) (words 0 p.at (table_after p table (adds p.names (items_at p document table))) (items_at p document table) ++ rest) ≡ rows
  pub told : (rest : List ℕ)
      → rows_at document [] (length rows) (words 0 p.at (table_with p table (adds p.names (items_at p document table))) (items_at p document table) ++ rest) ≡ rows

-- what stands at a place
pub data There (document : List ℕ) (pool : Pool) (p : Place) (table : List ℕ) : Type 0 where
  nothing : p.at ≡ length document → read_s pool (drop p.at document) ≡ ended pool → There document pool p table
  refusal : (n d : ℕ) → (p.at ≡ length document → ⊥) → outcome true (items_at p document table) ≡ bad n d → read_s pool (drop p.at document) ≡ stopped n d
      → There document pool p table
  event-of : (n : ℕ) → outcome true (items_at p document table) ≡ complete n → Stands document pool p table n → There document pool p table

module _ (document : List ℕ) (pool : Pool) (p : Place) (table : List ℕ) (h : Held document pool p.names table) (placed : p.at ≤ length document) where
  abbrev s : List ℕ
  s = drop p.at document

  items : items_at p document table ≡ event all (length pool) s
  unfolding items_at
  items = rw (sound-all document pool p.names table h, h.counts)

  pub ends_there : p.at ≡ length document → read_s pool s ≡ ended pool
  unfolding read_s read_f
  ends_there e = rw (e, drop-length document)

  never-incomplete : outcome true (items_at p document table) ≡ incomplete → ⊥
  never-incomplete o = true≢false (incomplete-last pool s true (rw items at o)).0

  stops-there : (n d : ℕ) → (p.at ≡ length document → ⊥) → outcome true (items_at p document table) ≡ bad n d → read_s pool s ≡ stopped n d
  stops-there n d ne o =
      let l = length-drop p.at document in
      bad-stops pool s n d (nonempty (length s) (λ z. ne (omega arith))) (one-outcome pool s (bad n d) (rw items at o))
    where
      nonempty : (k : ℕ) → (k ≡ 0 → ⊥) → 1 ≤ k
      nonempty zero f = absurd (f refl)
      nonempty (suc k) f = omega arith

  -- with any table that holds the pool after the event, the words of its rows say them
  rows_told : (is : Items) → Agree s [] (length pool) 1 is (event all (length pool) (s ++ [])) → (names : ℕ) (t : List ℕ) → Held document (pool_of s pool is) names t
      → (rest : List ℕ) → rows_at document [] (length (rows_of s pool is)) (words 0 p.at t is ++ rest) ≡ rows_of s pool is
  rows_told is ag names t held rest =
      ap (λ (k : ℕ). rows_at document [] k (words 0 p.at t is ++ rest)) (sym (count-rows s pool is))
      ∙ rw (take-length document) at
      (rows-say 0 document [] t p.at (length document) placed (omega arith) (pool_of s pool is) (held-finds document _ names t held) [] 1 (length pool) pool is
      (event all (length pool) (s ++ [])) rest refl (rw (take-length document)) (rw (take-length document) ag))

  pub stands-there : (n : ℕ) → outcome true (items_at p document table) ≡ complete n → Stands document pool p table n
  unfolding table_after table_with
  stands-there n o =
      let is : Items = items_at p document table in
      let ts : List Span = adds p.names is in
      let later : Pool = pool_of s pool is in
      let ag : Agree s [] (length pool) 1 is (event all (length pool) (s ++ [])) = rw items (agree-event s [] all (length pool)) in
      let on : ReadsOn pool s true n is = rw items (complete-reads-on pool s true n (rw items at o)) in
      let l : length s ≡ length document - p.at = length-drop p.at document in
      let grew : later ≡ pool ++ these s ts = pool-adds s pool is ∙ ap (λ (k : ℕ). pool ++ these s (adds k is)) (sym h.counts) in
      let joined : p.names + length ts ≡ length later = omega (arith, ap length grew, grown s pool ts, h.counts) in
      let inside : AllIn (length s) ts = adds-in s [] 1 p.names (length pool) is _ ag in
      let held : 2 * length later ≤ length table → Held document later (p.names + length ts) (sets table (2 * p.names) (pairs p.at ts)) = λ room.
      rw grew (held-adds document p.at ts pool p.names table placed inside h (omega arith)) in
      record {
        rows = rows_of s pool is;
        later = later;
        rows-of = refl;
        alone = rw items (one-outcome pool s (complete n) (rw items at o));
        reading = rw (drop-drop n p.at document) at (reads_here pool s true n is on refl);
        some_bytes = on.some_bytes;
        within = omega (arith, on.within);
        as_many = count-rows s pool is;
        joined = joined;
        held = held;
        said = λ room rest. rows_told is ag (p.names + length ts) (sets table (2 * p.names) (pairs p.at ts)) (held room) rest;
        told = λ rest. rows_told is ag (p.names + length ts) (take (2 * p.names) table ++ pairs p.at ts) (rw grew (held_with document p.at ts pool p.names table placed inside h)) rest;
      }

  -- one of the three is there
  pub there : There document pool p table
  there = by_test (eqb p.at (length document))
      (λ b. let e = eqb-true p.at (length document) b in nothing e (ends_there e))
      (λ b. go (eqb-false p.at (length document) b) (outcome true (items_at p document table)) refl)
    where
      go : (p.at ≡ length document → ⊥) → (o : Outcome) → outcome true (items_at p document table) ≡ o → There document pool p table
      go ne (complete n) o = event-of n o (stands-there n o)
      go ne incomplete o = absurd (never-incomplete o)
      go ne (bad n d) o = refusal n d ne o (stops-there n d ne o)
