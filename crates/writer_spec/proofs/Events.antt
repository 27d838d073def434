-- The refusals of rows, said event by event as document 01 says them: an event's strings, then 11, then 15.
use Rattle.std.specs.Prelude.{Bool, not, cond, ◌≡◌, ℕ, ◌+◌, eqb}
use Rattle.std.proofs.Math.Option.{none, some}
use mathlib.Core.List.{List, [], ◌∷◌, ◌++◌, append-nil}
use Rattle.std.proofs.Math.Path.{refl}
use Rattle.std.proofs.Common.{sym}
use Rattle.std.proofs.Math.Nat.{add_assoc}
use Rattle.std.proofs.Math.ListN.{length, length-append}
use Rattle.event.specs.Row.{Row, Event}
use Rattle.grammar.specs.Document.{Pool}
use Rattle.grammar.proofs.Choice.{by_test}
use Rattle.writer_spec.specs.Encode.{row_bytes, keep_row, rows_bytes, keep_rows}
use Rattle.writer_spec.specs.Faults.{glue, group}
use Rattle.writer_spec.specs.Writer.{Lent, Refusal, ◌before◌, row_refusal, room_refusal, ends, rows_refusal}

-- an event's strings, row by row
unfoldable pub strings_refusal : (List ℕ → Bool) → Event → Refusal
strings_refusal bad [] = none
strings_refusal bad (r ∷ rs) = row_refusal bad r before strings_refusal bad rs

-- events from a place of the output on, with a pool
unfoldable pub events_refusal : Lent → (List ℕ → Bool) → ℕ → Pool → List Event → Refusal
events_refusal l bad at pool [] = none
events_refusal l bad at pool (e ∷ es) =
    let after : ℕ = at + length (rows_bytes pool e) in
    let pool' : Pool = keep_rows pool e in
    strings_refusal bad e before room_refusal l after pool' before events_refusal l bad after pool' es

pub first-only : (f : Refusal) → (f before none) ≡ f
first-only none = refl
first-only (some f) = refl

before-assoc : (f g h : Refusal) → ((f before g) before h) ≡ (f before g before h)
before-assoc none g h = refl
before-assoc (some f) g h = refl

-- the first event begins with the first row
pub glue-first : (q : Row) (es : List Event) → (qs : List Row) × (rest : List Event) × (glue q es ≡ (q ∷ qs) ∷ rest)
unfolding glue
glue-first q [] = ([], [], refl)
glue-first q ([] ∷ es) = ([], es, refl)
glue-first q ((p ∷ ps) ∷ es) = by_test (eqb p.kind 15) (λ a. (p ∷ ps, es, rw a)) (λ a. ([], (p ∷ ps) ∷ es, rw a))

module _ (l : Lent) (bad : List ℕ → Bool) where
  -- a row before the event that begins with row q
  step : (at : ℕ) (pool : Pool) (r q : Row) (qs : List Row) (es : List Event)
      → (row_refusal bad r before cond (not (eqb q.kind 15)) (room_refusal l (at + length (row_bytes pool r)) (keep_row pool r)) none
      before events_refusal l bad (at + length (row_bytes pool r)) (keep_row pool r) ((q ∷ qs) ∷ es))
      ≡ events_refusal l bad at pool (glue r ((q ∷ qs) ∷ es))
  unfolding glue events_refusal strings_refusal rows_bytes keep_rows
  step at pool r q qs es =
      by_test (eqb q.kind 15)
      (λ a.
      rw (a, length-append (row_bytes pool r) (row_bytes (keep_row pool r) q ++ rows_bytes (keep_row (keep_row pool r) q) qs), ← add_assoc at (length (row_bytes pool r)))
      (sym (before-assoc (row_refusal bad r) (row_refusal bad q before strings_refusal bad qs) _)))
      (λ a. rw (a, append-nil (row_bytes pool r), first-only (row_refusal bad r)))

  by_two : (r q : Row) (rs : List Row) (at : ℕ) (pool : Pool)
      → rows_refusal l bad (at + length (row_bytes pool r)) (keep_row pool r) (q ∷ rs) ≡ events_refusal l bad (at + length (row_bytes pool r)) (keep_row pool r) (group (q ∷ rs))
      → rows_refusal l bad at pool (r ∷ q ∷ rs) ≡ events_refusal l bad at pool (group (r ∷ q ∷ rs))
  unfolding rows_refusal ends group
  by_two r q rs at pool same = let front = glue-first q (group rs) in rw (same, front.2) (step at pool r q front.0 front.1)

  pub by-events : (rs : List Row) (at : ℕ) (pool : Pool) → rows_refusal l bad at pool rs ≡ events_refusal l bad at pool (group rs)
  unfolding rows_refusal events_refusal strings_refusal rows_bytes keep_rows ends group glue
  by-events [] at pool = refl
  by-events (r ∷ []) at pool = rw (append-nil (row_bytes pool r), first-only (row_refusal bad r))
  by-events (r ∷ q ∷ rs) at pool = by_two r q rs at pool (by-events (q ∷ rs) (at + length (row_bytes pool r)) (keep_row pool r))
