-- What it says that rows are not refused, and which rows are not.
use Rattle.std.specs.Prelude.{Bool, true, false, cond, ◌≡◌, ℕ, ◌+◌, ◌*◌, ◌≤◌, ltb}
use Rattle.std.proofs.lemmas.Bool.{false≢true}
use Rattle.std.proofs.Math.Option.{none}
use mathlib.Core.List.{List, [], ◌∷◌, append-nil}
use Rattle.std.proofs.Math.Path.{refl}
use Rattle.std.proofs.Common.{sym, ◌∙◌, length-append}
use Rattle.std.proofs.Math.Nat.{add_assoc}
use native.Mathlib.Omega.{arith}
use borrow.Author.Tests.{ltb-false, le-ltb}
use Rattle.std.proofs.Math.ListN.{length}
use Rattle.event.specs.Row.{Row, shape, has_name}
use Rattle.grammar.specs.Document.{Pool}
use Rattle.grammar.proofs.Choice.{by_test, cond-by}
use Rattle.writer_spec.specs.Encode.{row_bytes, keep_row, rows_bytes, keep_rows}
use Rattle.writer_spec.specs.Faults.{string_fault, value_fault, row_fault, rows_fault}
use Rattle.writer_spec.proofs.Taken.{no-faults}
use Rattle.writer_spec.specs.Writer.{Lent, Refusal, ◌before◌, refuse_if, row_refusal, room_refusal, ends, rows_refusal}
use Rattle.writer_spec.proofs.Events.{first-only}
use Rattle.writer_spec.proofs.Held.{pairs-count}

-- ---- what no refusal says

pub no-refuse : (test : Bool) (number : ℕ) → refuse_if test number ≡ none → test ≡ false
no-refuse true number h = absurd (let z : ◌≡◌ {A = ℕ} 0 1 = cc h in omega arith)
no-refuse false number h = refl

-- of a row: neither its strings nor its name's search
row-passes : (bad : List ℕ → Bool) (r : Row) → row_refusal bad r ≡ none → (row_fault r ≡ none) × (has_name r.kind ≡ true → bad r.name ≡ false)
unfolding row_refusal row_fault
row-passes bad r h =
    by_test (has_name r.kind)
    (λ a.
    let both = no-faults (string_fault r.name before refuse_if (bad r.name) 19) (value_fault (shape r.type) r.value) (rw a at h) in
    let name = no-faults (string_fault r.name) (refuse_if (bad r.name) 19) both.0 in
    (rw (a, name.0) both.1, λ b. no-refuse _ 19 name.1))
    (λ a. (rw a (rw a at h), λ b. absurd (false≢true (sym a ∙ b))))

-- of each name's search
abbrev pub Searched : (List ℕ → Bool) → List Row → Type 0
Searched bad [] = Unit {0}
Searched bad (r ∷ rs) = (has_name r.kind ≡ true → bad r.name ≡ false) × Searched bad rs

module _ (l : Lent) (bad : List ℕ → Bool) where
  -- of a row and those after it
  pub split : (at : ℕ) (pool : Pool) (r : Row) (rs : List Row) → rows_refusal l bad at pool (r ∷ rs) ≡ none
      → (row_refusal bad r ≡ none) × (cond (ends rs) (room_refusal l (at + length (row_bytes pool r)) (keep_row pool r)) none ≡ none)
      × (rows_refusal l bad (at + length (row_bytes pool r)) (keep_row pool r) rs ≡ none)
  unfolding rows_refusal
  split at pool r rs h =
      let one = no-faults (row_refusal bad r) _ h in
      let two = no-faults (cond (ends rs) (room_refusal l (at + length (row_bytes pool r)) (keep_row pool r)) none) _ one.1 in
      (one.0, two.0, two.1)

  pub no-fault : (rs : List Row) (at : ℕ) (pool : Pool) → rows_refusal l bad at pool rs ≡ none → rows_fault rs ≡ none
  unfolding rows_fault
  no-fault [] at pool h = refl
  no-fault (r ∷ rs) at pool h =
      let parts = split at pool r rs h in
      rw ((row-passes bad r parts.0).0, no-fault rs (at + length (row_bytes pool r)) (keep_row pool r) parts.2)

  pub searched : (rs : List Row) (at : ℕ) (pool : Pool) → rows_refusal l bad at pool rs ≡ none → Searched bad rs
  searched [] at pool h = tt
  searched (r ∷ rs) at pool h =
      let parts = split at pool r rs h in
      ((row-passes bad r parts.0).1, searched rs (at + length (row_bytes pool r)) (keep_row pool r) parts.2)

  -- the last row is an event's last
  room : (rs : List Row) (r : Row) (at : ℕ) (pool : Pool) → rows_refusal l bad at pool (r ∷ rs) ≡ none
      → room_refusal l (at + length (rows_bytes pool (r ∷ rs))) (keep_rows pool (r ∷ rs)) ≡ none
  unfolding rows_bytes keep_rows ends
  room [] r at pool h = rw (append-nil (row_bytes pool r)) (split at pool r [] h).1
  room (q ∷ rs) r at pool h =
      rw (length-append (row_bytes pool r) (rows_bytes (keep_row pool r) (q ∷ rs)), ← add_assoc at (length (row_bytes pool r)))
      (room rs q (at + length (row_bytes pool r)) (keep_row pool r) (split at pool r (q ∷ rs) h).2)

  enough : (at : ℕ) (pool : Pool) → room_refusal l at pool ≡ none → (at ≤ length l.output) × (2 * length pool ≤ length l.table)
  unfolding room_refusal
  enough at pool h =
      let both = no-faults (refuse_if (ltb (length l.table) (2 * length pool)) 11) (refuse_if (ltb (length l.output) at) 15) h in
      (ltb-false _ _ (no-refuse _ 15 both.1), ltb-false _ _ (no-refuse _ 11 both.0))

  pub fits : (rs : List Row) (at : ℕ) (pool : Pool) → at ≤ length l.output → 2 * length pool ≤ length l.table → rows_refusal l bad at pool rs ≡ none
      → (at + length (rows_bytes pool rs) ≤ length l.output) × (2 * length (keep_rows pool rs) ≤ length l.table)
  unfolding rows_bytes keep_rows
  fits [] at pool o t h = (omega arith, t)
  fits (r ∷ rs) at pool o t h = enough _ _ (room rs r at pool h)

-- ---- what is not refused

-- where no search is, a row is refused for its strings alone
row-strings : (r : Row) → row_refusal (λ name. false) r ≡ row_fault r
unfolding row_refusal row_fault
row-strings r = rw (first-only (string_fault r.name))

-- strings that can be written, and room for all of it
pub room-enough : (l : Lent) (rs : List Row) (at : ℕ) (pool : Pool) → rows_fault rs ≡ none
    → at + length (rows_bytes pool rs) ≤ length l.output → 2 * length (keep_rows pool rs) ≤ length l.table
    → rows_refusal l (λ name. false) at pool rs ≡ none
unfolding rows_refusal room_refusal rows_fault rows_bytes keep_rows
room-enough l [] at pool f o t = refl
room-enough l (r ∷ rs) at pool f o t =
    let after : ℕ = at + length (row_bytes pool r) in
    let faults = no-faults (row_fault r) (rows_fault rs) f in
    let size = length-append (row_bytes pool r) (rows_bytes (keep_row pool r) rs) in
    rw (
      row-strings r,
      faults.0,
      le-ltb (length l.table) (2 * length (keep_row pool r)) (omega (arith, pairs-count rs after (keep_row pool r))),
      le-ltb (length l.output) after (omega arith),
      room-enough l rs after (keep_row pool r) faults.1 (omega arith) t,
    )
    (cond-by (λ (x : Refusal). (x before none) ≡ none) (ends rs) none none (λ _. refl) (λ _. refl))
