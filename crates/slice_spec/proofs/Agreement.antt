-- The slice reader agrees with the grammar: one next after another gives what the grammar reads of the document.
use Rattle.std.specs.Prelude.{true, false, ◌≡◌, refl, drop, ltb}
use mathlib.Core.List.{List, []}
use Rattle.std.proofs.Math.Path.{ap}
use Rattle.std.proofs.Common.{◌∙◌, arith, length-drop}
use Prim.Native.Nat.{ℕ, zero, suc, ◌+◌, ◌*◌, ◌/◌, ◌≤◌, ◌<◌}
use borrow.Author.Tests.{ltb-false, lt-ltb, le-ltb, eq-eqb, ne_eqb}
use Rattle.std.proofs.Math.ListN.{length}
use Rattle.std.proofs.lemmas.List.Edits.{sets, sets-eq}
use Rattle.std.proofs.Math.Seq.{length-sets}
use Rattle.wire.specs.Header.{Check, header}
use Rattle.wire.specs.Header as Header
use Rattle.wire.specs.Refusal.{header_short, rows_full, pool_full, bad_size}
use Rattle.event.specs.Row.{Event, rows_at}
use Rattle.grammar.specs.Grammar.{Span, Items}
use Rattle.grammar.specs.Document.{Pool, one, read_one, Reading, reads, ended, stopped, read}
use Rattle.grammar.specs.Scan.{adds, count, words, complete, bad, outcome}
use Rattle.grammar.proofs.Choice.{by_test}
use Rattle.grammar.proofs.Steps.{read_s, read_f-fuel}
use Rattle.grammar.proofs.Said.{words-length}
use Rattle.slice_spec.specs.Slice.{Place, Created, created, by_header, create, sizes_bad, place_bad, items_at, table_after, place_after, Answer, gives, end, Left, unchanged, given, hand_out, by_outcome, next_from, next}
use Rattle.slice_spec.proofs.Held.{Held, held_none}
use Rattle.slice_spec.proofs.Standing.{Stands, There, nothing, refusal, event-of, there}

-- ---- what is claimed

-- the event e of n bytes is handed out, and the pool has these names after it
pub record Hands (document : List ℕ) (p : Place) (e : Event) (n : ℕ) (later : Pool) (x : Left) : Type 0 where
  pub answered : x.answer ≡ gives (length e)
  pub says : rows_at document [] (length e) x.rows ≡ e
  pub moves : x.place.at ≡ p.at + n
  pub names : x.place.names ≡ length later

-- every next from a place on, whatever rows it lends, where the pool has these names and this is left to read: with enough
-- rows and pairs the event, and then what is left after it; else 10, else 11, with nothing changed, so that it can be asked
-- for again; at the end, End; where the grammar refuses, its refusal
abbrev pub Gives : List ℕ → Pool → Reading → Place → List ℕ → Type 0
Gives document pool (reads e n r) p table =
    (later : Pool) × (read_one pool (drop p.at document) ≡ one e n later)
    × ((rows : List ℕ)
    → (length rows / 8 < length e → next p document table rows ≡ unchanged p table rows (Answer.refused rows_full 0))
    × (length e ≤ length rows / 8 → length table < 2 * length later → next p document table rows ≡ unchanged p table rows (Answer.refused pool_full 0))
    × (length e ≤ length rows / 8 → 2 * length later ≤ length table
    → Hands document p e n later (next p document table rows) × Gives document later r (next p document table rows).place (next p document table rows).table))
Gives document pool (ended last) p table =
    (last ≡ pool) × (p.at ≡ length document) × ((rows : List ℕ) → next p document table rows ≡ unchanged p table rows end)
Gives document pool (stopped n d) p table = (rows : List ℕ) → next p document table rows ≡ unchanged p table rows (Answer.refused n d)

-- ---- a next, by what stands at its place

module _ (document : List ℕ) (pool : Pool) (p : Place) (table : List ℕ) (good : sizes_bad document table ≡ false) (h : Held document pool p.names table) (placed : p.at ≤ length document) (rows : List ℕ) where
  abbrev is : Items
  is = items_at p document table

  abbrev ts : List Span
  ts = adds p.names is

  next-good : next p document table rows ≡ next_from p document table rows
  unfolding next place_bad
  next-good = rw (good, le-ltb (length document) p.at placed, le-ltb (length table) (2 * p.names) h.table_fits)

  next-end : p.at ≡ length document → next p document table rows ≡ unchanged p table rows end
  unfolding next_from
  next-end e = next-good ∙ rw (eq-eqb p.at (length document) e)

  next-refusal : (n d : ℕ) → (p.at ≡ length document → ⊥) → outcome true is ≡ bad n d → next p document table rows ≡ unchanged p table rows (Answer.refused n d)
  unfolding next_from by_outcome
  next-refusal n d ne o = next-good ∙ rw (ne_eqb p.at (length document) ne, o)

  module _ (n : ℕ) (o : outcome true is ≡ complete n) (w : Stands document pool p table n) where
    next-event : next p document table rows ≡ hand_out p table rows is n ts
    unfolding next_from by_outcome
    next-event = next-good ∙ rw (ne_eqb p.at (length document) (λ z. omega (arith, w.some_bytes, w.within)), o)

    next-few-rows : length rows / 8 < length w.rows → next p document table rows ≡ unchanged p table rows (Answer.refused rows_full 0)
    unfolding hand_out
    next-few-rows a = next-event ∙ rw (lt-ltb (length rows / 8) (count is) (omega (arith, w.as_many)))

    next-short-table : length w.rows ≤ length rows / 8 → length table < 2 * length w.later → next p document table rows ≡ unchanged p table rows (Answer.refused pool_full 0)
    unfolding hand_out
    next-short-table a b =
        next-event
        ∙ rw (le-ltb (length rows / 8) (count is) (omega (arith, w.as_many)), lt-ltb (length table) (2 * (p.names + length ts)) (omega (arith, w.joined)))

    next-given : length w.rows ≤ length rows / 8 → 2 * length w.later ≤ length table → next p document table rows ≡ given p table rows is n ts
    unfolding hand_out
    next-given a b =
        next-event
        ∙ rw (le-ltb (length rows / 8) (count is) (omega (arith, w.as_many)), le-ltb (length table) (2 * (p.names + length ts)) (omega (arith, w.joined)))

    given-hands : length w.rows ≤ length rows / 8 → 2 * length w.later ≤ length table → Hands document p w.rows n w.later (given p table rows is n ts)
    unfolding given place_after
    given-hands a b =
        let ws : List ℕ = words 0 p.at (table_after p table ts) is in
        let lw : length ws ≡ 8 * count is = words-length 0 p.at (table_after p table ts) is in
        let said : rows_at document [] (length w.rows) (sets rows 0 ws) ≡ w.rows = rw (sets-eq ws rows 0 (omega (arith, w.as_many))) (w.said b (drop (0 + length ws) rows)) in
        record {
          answered = ap gives w.as_many;
          says = said;
          moves = refl;
          names = w.joined;
        }

-- ---- every next

sizes-stay : (p : Place) (document table : List ℕ) (ts : List Span) → sizes_bad document table ≡ false → sizes_bad document (table_after p table ts) ≡ false
unfolding sizes_bad table_after
sizes-stay p document table ts b = simp length-sets b

module _ (document : List ℕ) (pool : Pool) (p : Place) (table : List ℕ) (good : sizes_bad document table ≡ false) (h : Held document pool p.names table) (placed : p.at ≤ length document) where
  -- what is to come after the event that stands at the place
  abbrev Onward : Type 0
  Onward = (n : ℕ) (w : Stands document pool p table n) → 2 * length w.later ≤ length table
      → Gives document w.later (read_s w.later (drop (p.at + n) document)) (place_after p n (adds p.names (items_at p document table)))
      (table_after p table (adds p.names (items_at p document table)))

  gives-step : Onward → There document pool p table → Gives document pool (read_s pool (drop p.at document)) p table
  unfolding given
  gives-step onward (nothing e r) = rw r (refl, e, λ rows. next-end document pool p table good h placed rows e)
  gives-step onward (refusal n d ne o r) = rw r (λ rows. next-refusal document pool p table good h placed rows n d ne o)
  gives-step onward (event-of n o w) = rw w.reading (
    w.later,
    w.alone,
    λ rows. (
      next-few-rows document pool p table good h placed rows n o w,
      next-short-table document pool p table good h placed rows n o w,
      λ a b. rw (next-given document pool p table good h placed rows n o w a b) (given-hands document pool p table good h placed rows n o w a b, onward n w b),
    ),
  )

-- as many turns as there are bytes left are enough
gives-from : (f : ℕ) (document : List ℕ) (pool : Pool) (p : Place) (table : List ℕ) → sizes_bad document table ≡ false → Held document pool p.names table
    → p.at ≤ length document → length document ≤ p.at + f → Gives document pool (read_s pool (drop p.at document)) p table
unfolding place_after
gives-from zero document pool p table good h placed enough =
    gives-step document pool p table good h placed (λ n w b. absurd (omega (arith, w.some_bytes, w.within))) (there document pool p table h placed)
gives-from (suc f) document pool p table good h placed enough =
    gives-step document pool p table good h placed
    (λ n w b. gives-from f document w.later (place_after p n (adds p.names (items_at p document table))) _ (sizes-stay p document table _ good) (w.held b) w.within (omega (arith, w.some_bytes)))
    (there document pool p table h placed)

-- from every place whose table holds a pool
pub held_gives : (document : List ℕ) (pool : Pool) (p : Place) (table : List ℕ) → sizes_bad document table ≡ false → Held document pool p.names table
    → p.at ≤ length document → Gives document pool (read_s pool (drop p.at document)) p table
held_gives document pool p table good h placed = gives-from (length document) document pool p table good h placed (omega arith)

-- ---- creation

-- a created reader is past the header
pub record Fresh (document table : List ℕ) (p : Place) : Type 0 where
  pub sizes-good : sizes_bad document table ≡ false
  pub is-past : header document ≡ Header.passed
  pub is-fresh : p ≡ record { at = 4; names = 0 }

pub created-fresh : (document table : List ℕ) (p : Place) → create document table ≡ created p → Fresh document table p
unfolding create
created-fresh document table p c =
    by_test (sizes_bad document table) (λ b. absurd (let e : Created.refused bad_size 0 ≡ created p = rw b at c in let z : ◌≡◌ {A = ℕ} 0 1 = cc e in omega arith))
    (λ b. go b (header document) refl (rw b at c))
  where
    go : sizes_bad document table ≡ false → (k : Check) → header document ≡ k → by_header k ≡ created p → Fresh document table p
    go b Header.passed e c = record { sizes-good = b; is-past = e; is-fresh = cc c }
    go b (Header.refused n d) e c = absurd (let z : ◌≡◌ {A = ℕ} 0 1 = cc c in omega arith)

pub header-there : (document : List ℕ) → header document ≡ Header.passed → 4 ≤ length document
unfolding header
header-there document e =
    by_test (ltb (length document) 4)
    (λ b. absurd (let k : Header.refused header_short 0 ≡ Header.passed = rw b at e in let z : ◌≡◌ {A = ℕ} 0 1 = cc k in omega arith))
    (λ b. ltb-false (length document) 4 b)

pub read_past : (document : List ℕ) → header document ≡ Header.passed → read document ≡ read_s [] (drop 4 document)
unfolding read read_s
read_past document e = rw e (read_f-fuel (length document) (length (drop 4 document)) [] (drop 4 document) (omega (arith, length-drop 4 document)) (omega arith))

-- the slice reader agrees with the grammar, whatever the document and the table
pub agreement : (document table : List ℕ) (p : Place) → create document table ≡ created p → Gives document [] (read document) p table
agreement document table p c =
    let f : Fresh document table p = created-fresh document table p c in
    rw (f.is-fresh, read_past document f.is-past)
    (held_gives document [] (record { at = 4; names = 0 }) table f.sizes-good (held_none document table) (header-there document f.is-past))

-- a creation that is refused: by the sizes, or by the header, at which the grammar stops too
pub data Refuses (document table : List ℕ) (n d : ℕ) : Type 0 where
  by-sizes : sizes_bad document table ≡ true → n ≡ bad_size → d ≡ 0 → Refuses document table n d
  by-header : sizes_bad document table ≡ false → header document ≡ Header.refused n d → read document ≡ stopped n d → Refuses document table n d

pub created-refused : (document table : List ℕ) (n d : ℕ) → create document table ≡ Created.refused n d → Refuses document table n d
unfolding create read
created-refused document table n d c =
    by_test (sizes_bad document table)
    (λ b. let e : Created.refused bad_size 0 ≡ Created.refused n d = rw b at c in by-sizes b (cc e) (cc e))
    (λ b. go b (header document) refl (rw b at c))
  where
    go : sizes_bad document table ≡ false → (k : Check) → header document ≡ k → by_header k ≡ Created.refused n d → Refuses document table n d
    go b Header.passed e c = absurd (let z : ◌≡◌ {A = ℕ} 0 1 = cc c in omega arith)
    go b (Header.refused m c) e q = let w : header document ≡ Header.refused n d = cc in by-header b w (rw w)

pub refuses-created : (document table : List ℕ) (n d : ℕ) → Refuses document table n d → create document table ≡ Created.refused n d
unfolding create
refuses-created document table n d (by-sizes b e₁ e₂) = rw (b, e₁, e₂)
refuses-created document table n d (by-header b e r) = rw (b, e)
