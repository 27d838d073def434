-- The first pass: what holds before each row.
use mathlib.Core.Bool.{Bool, true, false}
use mathlib.Core.Option.{Option, none, some}
use Rattle.std.specs.Prelude.{Result, Ok, Err}
use mathlib.Core.List.{List, [], ◌∷◌, ◌++◌, append-nil, append_assoc}
use mathlib.Core.Path.{◌≡◌, refl, sym, ap, ◌∙◌}
use Prim.Native.Nat.{ℕ, ◌+◌, ◌*◌, ◌-◌, ◌%◌, ◌≤◌, ◌<◌}
use borrow.Author.Tests.{le-ltb}
use native.Mathlib.Nat.{sub-zero}
use native.Mathlib.Omega.{arith}
use lib.ListN.{length, take, drop, length-drop}
use Rattle.wire.specs.Limits.{max_store}
use Rattle.wire.specs.Token.{interned_new}
use Rattle.event.specs.Row.{Row, has_name, row_at}
use Rattle.event.specs.Laws.{row-of-eight}
use Rattle.grammar.specs.Grammar.{most}
use Rattle.grammar.specs.Document.{Pool}
use Rattle.writer_spec.specs.Encode.{row_bytes, keep_row, keep_rows}
use Rattle.writer_spec.proofs.Laws.{pool-count}
use Rattle.writer_spec.specs.Writer.{Lent, row_refusal, room_refusal, ends, rows_refusal, rows_in}
use Rattle.writer_spec.proofs.Wrote.{keep_rows-append}
use Rattle.writer_spec.proofs.Held.{rows-bounded}
use Rattle.writer.specs.Answers.{lent_of, fault_of}
use Rattle.slots.specs.Slots.{Fresh}
use Rattle.writer.specs.Notes.{Unnoted}
use Rattle.writer.specs.Passes.{room_of, ends_at, most-notes, Settled, AllSettled, bad, found, Known, Kept, RowTakes, RowSays, RowMeasured, MeasureSays}
use Rattle.wire.specs.declared.Refusal as Wire
use Rattle.wire.specs.Answers.{number_of, detail_of}
use Rattle.writer.specs.declared.Stop.{Stop}
use Rattle.writer.specs.declared.Stop.TheVariants.{Refused, Crowded}
use Rattle.writer.specs.declared.measure.Tally.{Tally}
use Rattle.writer.proofs.Pools.{row-full}
use Rattle.writer.proofs.Noting.{noted-none}
use Rattle.writer.proofs.Turns.{ends_last, rest, rest_more, rest-ends, rest_end, capped_small, refusal-capped, room-is, stops-row, stops-room, goes_in, goes-past}

some≢none : {f : ℕ × ℕ} → ◌≡◌ {A = Option (ℕ × ℕ)} (some f) none → ⊥
some≢none h = let z : ◌≡◌ {A = ℕ} 0 1 = cc h in omega arith

-- ---- names that are settled stay so

module _ (first second : List ℕ) (pool : Pool) (r : Row) (notes notes' : List ℕ)
    (still : (n : List ℕ) → Unnoted first second notes' n → Unnoted first second notes n) where
  settled-more : (n : List ℕ) → Settled first second pool notes n → Settled first second (keep_row pool r) notes' n
  settled-more n s u = (let both = s (still n u) in rw (row-full pool r both.1) both)

  all_more : (rs : List Row) → AllSettled first second pool notes rs → AllSettled first second (keep_row pool r) notes' rs
  all_more [] a = tt
  all_more (q ∷ rs) a = (λ h. settled-more q.name (a.0 h), all_more rs a.1)

all_append : (first second : List ℕ) (pool : Pool) (notes : List ℕ) (rs : List Row) (r : Row) → AllSettled first second pool notes rs
    → (has_name r.kind ≡ true → Settled first second pool notes r.name) → AllSettled first second pool notes (rs ++ (r ∷ []))
all_append first second pool notes [] r a s = (s, tt)
all_append first second pool notes (q ∷ rs) r a s = (a.0, all_append first second pool notes rs r a.1 s)

-- ---- the invariant

module _ (first second output table rows : List ℕ) (kept written : ℕ) where
  abbrev l : Lent
  l = lent_of output table

  abbrev all : List Row
  all = rows_in first second rows

  abbrev names-bad : List ℕ → Bool
  names-bad = bad first second output table kept

  abbrev pool₀ : Pool
  pool₀ = found first second output table kept

  abbrev Whole : Option (ℕ × ℕ)
  Whole = rows_refusal l names-bad written pool₀ all

  pub record Measuring (row : ℕ) (t : Tally) (notes heads : List ℕ) : Type 0 where
    pub done : List Row
    pub reaches : row ≤ length rows
    pub aligned : row % 8 ≡ 0
    pub split : done ++ rest first second rows row ≡ all
    pub remains : rows_refusal l names-bad t.at (keep_rows pool₀ done) (rest first second rows row) ≡ Whole
    pub names-are : length (keep_rows pool₀ done) ≡ t.names
    pub knows : Known first second output table kept (keep_rows pool₀ done) (take t.used notes) heads
    pub settled : AllSettled first second (keep_rows pool₀ done) (take t.used notes) done
    pub used-fits : t.used ≤ length notes
    pub at_small : t.at ≤ max_store + 1

  pub begins : (notes heads : List ℕ) → Fresh heads → written ≤ max_store → Measuring 0 (record { at = written; names = kept; used = 0 }) notes heads
  unfolding keep_rows
  begins notes heads f h =
      let start : rest first second rows 0 ≡ all = rw sub-zero in
      record {
        done = [];
        reaches = omega arith;
        aligned = omega arith;
        split = start;
        remains = ap (rows_refusal l names-bad written pool₀) start;
        names-are = pool-count output kept table;
        knows = noted-none first second names-bad pool₀ heads f;
        settled = tt;
        used-fits = omega arith;
        at_small = omega arith;
      }

  -- Before each row, and after the last, stands whether an event ends there and has room for it; then holds what measuring the next
  -- row asks for.
  abbrev pub Owing : ℕ → Tally → List ℕ → List ℕ → Type 0
  Owing row t notes heads =
      (over : Bool) → over ≡ ends_at rows row
      → (over ≡ false → Measuring row t notes heads)
      × ((f : Result Unit Wire.Refusal) → over ≡ true → fault_of f ≡ room_of (length output) (length table) t.at t.names
      → ((x : Wire.Refusal) → f ≡ Err x → Whole ≡ some (number_of x, detail_of x)) × (f ≡ Ok tt → Measuring row t notes heads))

  -- before the first row there is room for what is written
  pub owes_nothing : (notes heads : List ℕ) → written ≤ length output → 2 * kept ≤ length table
      → Measuring 0 (record { at = written; names = kept; used = 0 }) notes heads → Owing 0 (record { at = written; names = kept; used = 0 }) notes heads
  unfolding room_of
  owes_nothing notes heads h g m over is =
      let fits : room_of (length output) (length table) written kept ≡ none = rw (le-ltb (length table) (2 * kept) g, le-ltb (length output) written h) refl in
      (λ b. m, λ f b room. (λ x d. absurd (some≢none (sym (ap fault_of d) ∙ room ∙ fits)), λ d. m))

  module _ (row : ℕ) (t : Tally) (notes heads : List ℕ) (m : Measuring row t notes heads) where
    abbrev pool : Pool
    pool = keep_rows pool₀ m.done

    -- what a row's measuring asks for
    pub kept_here : kept ≤ interned_new → Kept first second output table kept t.names (take t.used notes) heads
    unfolding most
    kept_here h = (pool, m.names-are, rows-bounded m.done pool₀ (omega (arith, pool-count output kept table)), m.knows)

    module _ (h : row < length rows) (w : length rows % 8 ≡ 0) where
      abbrev pub this : Row
      this = row_at first second (drop row rows)

      abbrev after : List Row
      after = rest first second rows (row + 8)

      this-first : rest first second rows row ≡ this ∷ after
      this-first = rest_more first second rows w row m.aligned h

      remains-here : rows_refusal l names-bad t.at pool (this ∷ after) ≡ Whole
      remains-here = ap (rows_refusal l names-bad t.at pool) (sym this-first) ∙ m.remains

      row-stops : (a b : ℕ) → row_refusal names-bad this ≡ some (a, b) → Whole ≡ some (a, b)
      row-stops a b e = sym remains-here ∙ stops-row l names-bad t.at pool this after (a, b) e

      -- the row takes so much
      module _ (u : Tally) (notes' heads' : List ℕ) (g : u.used ≤ length notes')
          (k : RowTakes first second output table kept pool this t.at u.at u.names (take t.used notes) (take u.used notes') heads') where
        abbrev pool' : Pool
        pool' = keep_row pool this

        abbrev place : ℕ
        place = t.at + length (row_bytes pool this)

        pool-next : keep_rows pool₀ (m.done ++ (this ∷ [])) ≡ pool'
        unfolding keep_rows
        pool-next = keep_rows-append m.done (this ∷ []) pool₀

        ends-here : ends after ≡ ends_at rows (row + 8)
        ends-here = rest-ends first second rows w (row + 8) (omega (arith, m.aligned))

        room-here : room_of (length output) (length table) u.at u.names ≡ room_refusal l place pool'
        room-here = ap (λ (x : ℕ). room_of (length output) (length table) x u.names) k.at-is ∙ room-is l names-bad place u.names pool' k.names-are

        room-stops : (a b : ℕ) → ends_at rows (row + 8) ≡ true → room_of (length output) (length table) u.at u.names ≡ some (a, b) → Whole ≡ some (a, b)
        room-stops a b e f = sym remains-here ∙ stops-room l names-bad t.at pool this after k.passes (a, b) (ends-here ∙ e) (sym room-here ∙ f)

        next : length output ≤ max_store → rows_refusal l names-bad t.at pool (this ∷ after) ≡ rows_refusal l names-bad place pool' after → Measuring (row + 8) u notes' heads'
        next small step =
            record {
              done = m.done ++ (this ∷ []);
              reaches = omega (arith, m.aligned);
              aligned = omega (arith, m.aligned);
              split = append_assoc m.done (this ∷ []) after ∙ ap (λ (x : List Row). m.done ++ x) (sym this-first) ∙ m.split;
              remains =
                  rw pool-next
                  (ap (λ (x : ℕ). rows_refusal l names-bad x pool' after) k.at-is ∙ refusal-capped l names-bad after place pool' ∙ sym step ∙ remains-here);
              names-are = ap length pool-next ∙ sym k.names-are;
              knows = rw pool-next k.more.knows;
              settled =
                  rw pool-next
                  (all_append first second pool' (take u.used notes') m.done this
                  (all_more first second pool this (take t.used notes) (take u.used notes') k.more.still m.done m.settled) k.settled);
              used-fits = g;
              at_small = rw k.at-is (omega (arith, capped_small (length output) place));
            }

        goes_on : length output ≤ max_store → ends_at rows (row + 8) ≡ false → Measuring (row + 8) u notes' heads'
        goes_on small e = next small (goes_in l names-bad t.at pool this after k.passes (ends-here ∙ e))

        goes-on-past : length output ≤ max_store → ends_at rows (row + 8) ≡ true → room_of (length output) (length table) u.at u.names ≡ none
            → Measuring (row + 8) u notes' heads'
        goes-on-past small e f = next small (goes-past l names-bad t.at pool this after k.passes (ends-here ∙ e) (sym room-here ∙ f))

      -- what the row's measuring says, by the eight words that it was given
      module _ (words : List ℕ) (front : words ≡ take 8 (drop row rows)) (r : Result Tally Stop) (notes' heads' : List ℕ)
          (says : RowMeasured first second output table kept (row_at first second words) t notes heads notes' heads' r) where
        said : RowSays first second output table kept pool this t notes notes' heads' r
        said =
            let at_row : RowMeasured first second output table kept this t notes heads notes' heads' r = rw (front, row-of-eight first second (drop row rows)) at says in
            at_row pool m.names-are m.knows

        row-refused : (x : Wire.Refusal) → r ≡ Err (Refused x) → Whole ≡ some (number_of x, detail_of x)
        row-refused x e = row-stops (number_of x) (detail_of x) (rw e at said)

        pub row-stopped : (x : Stop) → r ≡ Err x → MeasureSays first second output table kept written all notes' heads' (Err x)
        row-stopped (Refused x) e = row-refused x e
        row-stopped Crowded e = rw e at said

        -- the row takes so much, and an event ends after it or not
        module _ (u : Tally) (e : r ≡ Ok u) (over : Bool) (is : over ≡ ends_at rows (row + 8)) where
          taken : RowSays first second output table kept pool this t notes notes' heads' (Ok u)
          taken = rw e at said

          pub row_inside : length output ≤ max_store → over ≡ false → Measuring (row + 8) u notes' heads'
          row_inside small b = goes_on u notes' heads' taken.0 taken.1 small (sym is ∙ b)

          module _ (b : over ≡ true) (f : Result Unit Wire.Refusal) (room : fault_of f ≡ room_of (length output) (length table) u.at u.names) where
            pub room-refused : (x : Wire.Refusal) → f ≡ Err x → Whole ≡ some (number_of x, detail_of x)
            room-refused x d = room-stops u notes' heads' taken.0 taken.1 (number_of x) (detail_of x) (sym is ∙ b) (sym room ∙ ap fault_of d)

            pub row_last : length output ≤ max_store → f ≡ Ok tt → Measuring (row + 8) u notes' heads'
            row_last small d = goes-on-past u notes' heads' taken.0 taken.1 small (sym is ∙ b) (sym room ∙ ap fault_of d)

        -- the row takes so much, and then stands whether an event ends after it
        pub owes : length output ≤ max_store → (u : Tally) → r ≡ Ok u → Owing (row + 8) u notes' heads'
        owes small u e over is = (row_inside u e over is small, λ f b room. (room-refused u e over is b f room, row_last u e over is b f room small))

    -- all rows are measured
    pub ended : length rows ≤ row → MeasureSays first second output table kept written all notes heads (Ok t.used)
    unfolding rows_refusal
    ended h =
        let none_left : rest first second rows row ≡ [] = rest_end first second rows row h in
        let all_done : m.done ≡ all = sym (append-nil m.done) ∙ ap (λ (x : List Row). m.done ++ x) (sym none_left) ∙ m.split in
        let passed : none ≡ Whole = ap (rows_refusal l names-bad t.at pool) (sym none_left) ∙ m.remains in
        let knows : Known first second output table kept (keep_rows pool₀ all) (take t.used notes) heads = rw all_done at m.knows in
        let settled : AllSettled first second (keep_rows pool₀ all) (take t.used notes) all = rw all_done at m.settled in
        (m.used-fits, sym passed, knows, settled)

  -- all rows are measured, and the last event has room or not
  pub ended_with : (row : ℕ) (t : Tally) (notes heads : List ℕ) → Owing row t notes heads → length rows ≤ row
      → (f : Result Unit Wire.Refusal) → fault_of f ≡ room_of (length output) (length table) t.at t.names
      → ((x : Wire.Refusal) → f ≡ Err x → Whole ≡ some (number_of x, detail_of x))
      × (f ≡ Ok tt → MeasureSays first second output table kept written all notes heads (Ok t.used))
  ended_with row t notes heads o h f room =
      let last = (o true (ends_last rows row h)).1 f refl room in
      (last.0, λ d. ended row t notes heads (last.1 d) h)
