-- A call's own checks, and what it leaves when they are passed or not.
use mathlib.Core.Bool.{Bool, true, false, not}
use mathlib.Core.Option.{none, some}
use Rattle.std.specs.Prelude.{Result, Ok, Err, Some, None}
use Rattle.std.specs.Prelude as Code
use Rattle.wire.specs.Answers.{number_of, detail_of}
use mathlib.Core.List.{List}
use mathlib.Core.Path.{◌≡◌, refl, sym, ap, ◌∙◌}
use Prim.Native.Nat.{ℕ, zero, suc, ◌*◌, ◌%◌, ◌≤◌, ◌<◌}
use native.Mathlib.Omega.{arith}
use borrow.Author.Tests.{ltb-false, eqb-true}
use lib.Dec.{ltb, eqb}
use lib.ListN.{length, take, replicate, length-replicate}
use Rattle.wire.specs.Refusal.{bad_size, bad_state, not_rows}
use Rattle.wire.specs.Limits.{max_store, max_table}
use Rattle.event.specs.Row.{Row}
use Rattle.event.specs.Words.{list_forms, event_forms}
use Rattle.writer_spec.specs.Writer.{Writer, Lent, refused, Left, Refusal, ◌before◌, refuse_if, sizes_bad, state_bad, pool_at, meets_bad, rows_refusal, unless, refusal, append, write, rows_in}
use Rattle.grammar.proofs.Choice.{neither}
use Rattle.writer_spec.proofs.Laws.{both-forms, pool-count}
use Rattle.writer_spec.proofs.Unrefused.{fits}
use Rattle.writer.specs.Answers.{lent_of, forms_by}
use Rattle.slots.specs.Slots.{Fresh}
use Rattle.writer.specs.Passes.{most-notes, call_fault, Slots, MeasureSays, TriedBy, Ready}
use Rattle.wire.specs.declared.Refusal as Wire
use Rattle.writer.specs.declared.Writer as Declared
use Rattle.writer.specs.declared.Stop.{Stop}
use Rattle.writer.specs.declared.Stop.TheVariants.{Refused, Crowded}

-- ---- what passed checks say

module _ (output table : List ℕ) where
  pub sizes-passed : sizes_bad (lent_of output table) ≡ false → (length output ≤ max_store) × (length table ≤ max_table)
  unfolding sizes_bad
  sizes-passed h =
      let one = neither (ltb max_store (length output)) _ h in
      let two = neither (eqb (length table % 2) 1) _ one.1 in
      (ltb-false _ _ one.0, ltb-false _ _ two.1)

  pub state-passed : (w : Writer) → state_bad w (lent_of output table) ≡ false → (w.written ≤ length output) × (2 * w.names ≤ length table)
  unfolding state_bad
  state-passed w h = (let b = neither (ltb (length output) w.written) _ h in (ltb-false _ _ b.0, ltb-false _ _ b.1))

module _ (first second rows : List ℕ) where
  pub whole-rows : list_forms first second rows ≡ true → length rows % 8 ≡ 0
  unfolding list_forms
  whole-rows h = eqb-true (length rows % 8) 0 (both-forms (eqb (length rows % 8) 0) _ h).0

  formed-list : event_forms first second rows ≡ true → list_forms first second rows ≡ true
  unfolding event_forms
  formed-list h = (both-forms (list_forms first second rows) _ h).0

  pub formed-by : (one : Bool) → forms_by one first second rows ≡ true → list_forms first second rows ≡ true
  formed-by true h = formed-list h
  formed-by false h = h

-- ---- what a call leaves

abbrev pub stopped : ℕ → ℕ → Lent → Left
stopped number detail l = record { reply = refused number detail; lent = l }

-- a test before others that none of them passed
if-false : (b : Bool) (number : ℕ) (r : Refusal) → refuse_if b number before r ≡ none → (b ≡ false) × (r ≡ none)
if-false true number r h = absurd (let z : ◌≡◌ {A = ℕ} 0 1 = cc h in omega arith)
if-false false number r h = (refl, h)

before-assoc : (a b d : Refusal) → (a before b) before d ≡ a before (b before d)
before-assoc (some x) b d = refl
before-assoc none b d = refl

not-false : (b : Bool) → refuse_if (not b) not_rows ≡ none → b ≡ true
not-false true h = refl
not-false false h = absurd (let z : ◌≡◌ {A = ℕ} 0 1 = cc h in omega arith)

module _ (formed : Bool) (w : Writer) (l : Lent) where
  pub fault-sizes : sizes_bad l ≡ true → some (bad_size, 0) ≡ call_fault formed w l
  unfolding call_fault
  fault-sizes h = rw h

  pub fault-state : sizes_bad l ≡ false → state_bad w l ≡ true → some (bad_state, 0) ≡ call_fault formed w l
  unfolding call_fault
  fault-state s h = rw (s, h)

  pub fault-forms : sizes_bad l ≡ false → state_bad w l ≡ false → formed ≡ false → some (not_rows, 0) ≡ call_fault formed w l
  unfolding call_fault
  fault-forms s g h = rw (s, g, h)

  pub no-fault : sizes_bad l ≡ false → state_bad w l ≡ false → formed ≡ true → none ≡ call_fault formed w l
  unfolding call_fault
  no-fault s g h = rw (s, g, h)

  pub fault-passed : call_fault formed w l ≡ none → (formed ≡ true) × (sizes_bad l ≡ false) × (state_bad w l ≡ false)
  unfolding call_fault
  fault-passed h =
      let one = if-false (sizes_bad l) bad_size _ h in
      let two = if-false (state_bad w l) bad_state _ one.1 in
      (not-false formed two.1, one.0, two.0)

  module _ (rs : List Row) where
    abbrev rest : Refusal
    rest = rows_refusal l (meets_bad l.output w.names l.table) w.written (pool_at l.output w.names l.table) rs

    in_order : call_fault formed w l before rest ≡ refusal formed w l rs
    unfolding call_fault refusal
    in_order =
        before-assoc (refuse_if (sizes_bad l) bad_size) _ rest
        ∙ ap (λ (r : Refusal). refuse_if (sizes_bad l) bad_size before r) (before-assoc (refuse_if (state_bad w l) bad_state) (refuse_if (not formed) not_rows) rest)

    pub stops_call : (number detail : ℕ) → call_fault formed w l ≡ some (number, detail) → stopped number detail l ≡ write formed w l rs
    unfolding write unless
    stops_call number detail h = ap (λ (r : Refusal). unless r l (append w l rs)) (sym (ap (λ (r : Refusal). r before rest) h) ∙ in_order)

module _ (w : Writer) (l : Lent) (rs : List Row) (s : sizes_bad l ≡ false) (g : state_bad w l ≡ false) where
  pub stops-rows : (number detail : ℕ)
      → rows_refusal l (meets_bad l.output w.names l.table) w.written (pool_at l.output w.names l.table) rs ≡ some (number, detail)
      → stopped number detail l ≡ write true w l rs
  unfolding write refusal unless
  stops-rows number detail h = rw (s, g, h)

  pub goes_through : rows_refusal l (meets_bad l.output w.names l.table) w.written (pool_at l.output w.names l.table) rs ≡ none
      → append w l rs ≡ write true w l rs
  unfolding write refusal unless
  goes_through h = rw (s, g, h)

-- ---- what measuring says, by its answer

module _ (first second output table rows notes heads : List ℕ) (w : Declared.Writer) (r : Result ℕ Stop)
    (says : MeasureSays first second output table w.names w.written (rows_in first second rows) notes heads r) where
  abbrev fault : Refusal
  fault = rows_refusal (lent_of output table) (meets_bad output w.names table) w.written (pool_at output w.names table) (rows_in first second rows)

  pub refused-by : (x : Wire.Refusal) → r ≡ Err (Refused x) → fault ≡ some (number_of x, detail_of x)
  refused-by x e = rw e at says

  pub crowded-by : r ≡ Err Crowded → length notes < most-notes
  crowded-by e = rw e at says

  module _ (used : ℕ) (e : r ≡ Ok used) where
    used-says : MeasureSays first second output table w.names w.written (rows_in first second rows) notes heads (Ok used)
    used-says = rw e at says

    pub used-fit : used ≤ length notes
    used-fit = used-says.0

    pub unrefused : fault ≡ none
    unrefused = used-says.1

    -- rows that were measured and not refused are ready to be written
    pub ready_for : w.written ≤ length output → 2 * w.names ≤ length table
        → Ready first second output table w.names w.written (rows_in first second rows) (take used notes) heads
    ready_for o t =
        let room = fits (lent_of output table) _ (rows_in first second rows) w.written (pool_at output w.names table) o (rw (pool-count output w.names table) t) unrefused in
        record { bytes_fit = room.0; pairs-fit = room.1; knows = used-says.2; settled = used-says.3 }

-- ---- arrays of zeros: their length is told, and computed once

pub zeros : (n : ℕ) → n ≡ length {A = ℕ} (replicate n 0)
zeros n = sym (length-replicate n 0)

pub fresh : (n : ℕ) → Fresh (replicate n 0)
fresh zero slot = refl
fresh (suc n) zero = refl
fresh (suc n) (suc slot) = fresh n slot

pub slots-of : (n : ℕ) → 0 < n → n < 65536 → Slots (length {A = ℕ} (replicate n 0))
slots-of n a b = rw length-replicate (record { some-slots = a; few-slots = b })

-- slots whose number stays
pub slots_kept : (n n' : ℕ) → n' ≡ n → Slots n → Slots n'
slots_kept n n' e s = rw e s

-- ---- tries

module _ (single : Bool) (w : Declared.Writer) (first second rows output table output' table' : List ℕ) where
  abbrev By : ℕ → Code.Option (Result Declared.Writer Wire.Refusal) → Type 0
  By = TriedBy single w first second rows output table output' table'

  -- room for how many notes counts only in that it is not for all
  pub tried-with : (size size' : ℕ) (r : Code.Option (Result Declared.Writer Wire.Refusal)) → size' < most-notes → By size r → By size' r
  tried-with size size' (Some x) h t = t
  tried-with size size' None h t = (t.0, h)

  -- Room for as many as lie in an array. That they are so many is told by the array's own facts: `length (replicate n 0)` is not to be computed.
  pub tried-at : (n size : ℕ) (r : Code.Option (Result Declared.Writer Wire.Refusal)) → size ≡ n → By size r → By n r
  tried-at n size r e t = rw e at t

  -- with room for all notes
  pub never-crowded : (r : Code.Option (Result Declared.Writer Wire.Refusal)) → r ≡ None → By most-notes r → ⊥
  never-crowded r e t =
      let u : By most-notes None = rw e at t in
      omega (arith, u.1)
