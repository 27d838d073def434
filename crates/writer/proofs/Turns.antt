-- A turn of each pass: what is left to do from a row on, by what that row is.
use mathlib.Core.Bool.{Bool, true, false}
use mathlib.Core.Option.{none, some}
use mathlib.Core.List.{List, [], ◌∷◌}
use mathlib.Core.Path.{◌≡◌, refl, sym, ap, ◌∙◌}
use Prim.Native.Nat.{ℕ, suc, ◌+◌, ◌*◌, ◌-◌, ◌/◌, ◌%◌, ◌≤◌, ◌<◌}
use native.Mathlib.Nat.{add-zero}
use native.Mathlib.Omega.{arith}
use borrow.Author.Tests.{lt-ltb, le-ltb, ltb-true, ltb-false}
use lib.Dec.{ltb}
use lib.ListN.{length, get_or, take, drop, length-drop, length-take}
use Rattle.std.proofs.lemmas.List.{get_or-take}
use lib.Seq.{take_all, drop-drop, get_or-drop}
use Rattle.event.specs.Row.{Row, row_at, rows_at}
use Rattle.event.specs.Words.{row_forms_in, opens, rows_form}
use Rattle.event.specs.Laws.{both}
use Rattle.event.proofs.Rows.{row-of-words}
use Rattle.std.specs.Simd.{first_chunks}
use Rattle.grammar.specs.Document.{Pool}
use Rattle.grammar.proofs.Choice.{by_test}
use Rattle.writer_spec.specs.Encode.{row_bytes, keep_row}
use Rattle.writer_spec.specs.Writer.{Lent, row_refusal, room_refusal, ends, rows_refusal}
use Rattle.writer.specs.Passes.{room_of, capped, ends_at}

-- ---- the rows from a place on

-- the row of a turn is the eight words from its place on
pub row_here : (rows : List ℕ) (whole : List (List ℕ)) (k : ℕ) (d : List ℕ) → whole ≡ first_chunks 8 (length rows / 8) rows → k < length rows / 8
    → (k * 8 < length rows) × (get_or whole k d ≡ take 8 (drop (k * 8) rows))
row_here rows whole k d e h = (omega arith, rw e (row-of-words (length rows / 8) k rows d h))

-- and the next row's place is eight words on
pub next_row : (k : ℕ) → (k + 1) * 8 ≡ k * 8 + 8
next_row k = omega arith

-- an event ends before the row of a turn, or before none
pub ends_here : (rows words : List ℕ) (at : ℕ) → at < length rows → words ≡ take 8 (drop at rows) → ends_at words 0 ≡ ends_at rows at
unfolding ends_at
ends_here rows words at h e =
    rw (
      e,
      get_or-take 8 (drop at rows) 0 0 (omega arith),
      get_or-drop at rows 0 0,
      add-zero at,
      lt-ltb at (length rows) h,
      lt-ltb 0 (length (take 8 (drop at rows))) (omega (arith, length-take 8 (drop at rows), length-drop at rows)),
    ) refl

pub ends_last : (rows : List ℕ) (at : ℕ) → length rows ≤ at → true ≡ ends_at rows at
unfolding ends_at
ends_last rows at h = rw (le-ltb at (length rows) h) refl

module _ (first second rows : List ℕ) (at : ℕ) where
  abbrev pub rest : List Row
  rest = rows_at first second ((length rows - at) / 8) (drop at rows)

module _ (first second rows : List ℕ) (whole : length rows % 8 ≡ 0) (at : ℕ) (aligned : at % 8 ≡ 0) where
  pub rest_more : at < length rows → rest first second rows at ≡ row_at first second (drop at rows) ∷ rest first second rows (at + 8)
  unfolding rows_at
  rest_more h = (let e : (length rows - at) / 8 ≡ suc ((length rows - (at + 8)) / 8) = omega arith in rw (e, drop-drop 8 at rows))

  pub rest-ends : ends (rest first second rows at) ≡ ends_at rows at
  unfolding rows_at ends ends_at row_at
  rest-ends =
      by_test (ltb at (length rows))
      (λ t. let e : (length rows - at) / 8 ≡ suc ((length rows - (at + 8)) / 8) = omega (arith, ltb-true at (length rows) t) in
      rw (e, t, get_or-drop at rows 0 0, add-zero at))
      (λ t. let e : (length rows - at) / 8 ≡ 0 = omega (arith, ltb-false at (length rows) t) in rw (e, t))

  pub form-more : (inside : Bool) → at < length rows → rows_form first second inside ((length rows - at) / 8) (drop at rows) ≡ true
      → (row_forms_in first second inside (drop at rows) ≡ true) × (rows_form first second (opens (get_or (drop at rows) 0 0)) ((length rows - (at + 8)) / 8) (drop (at + 8) rows) ≡ true)
  unfolding rows_form
  form-more inside h f =
      let e : (length rows - at) / 8 ≡ suc ((length rows - (at + 8)) / 8) = omega arith in
      both _ _ (rw (e, drop-drop 8 at rows) at f)

pub rest_end : (first second rows : List ℕ) (at : ℕ) → length rows ≤ at → rest first second rows at ≡ []
unfolding rows_at
rest_end first second rows at h = (let e : (length rows - at) / 8 ≡ 0 = omega arith in rw e)

-- ---- a place past the end stays past it

over-capped : (m a n : ℕ) → ltb m (capped m a + n) ≡ ltb m (a + n)
unfolding capped
over-capped m a n =
    by_test (ltb m a) (λ t. rw (t, lt-ltb m (m + 1 + n) (omega arith), lt-ltb m (a + n) (omega (arith, ltb-true m a t)))) (λ t. rw t)

capped-capped : (m a n : ℕ) → capped m (capped m a + n) ≡ capped m (a + n)
unfolding capped
capped-capped m a n =
    by_test (ltb m a) (λ t. rw (t, lt-ltb m (m + 1 + n) (omega arith), lt-ltb m (a + n) (omega (arith, ltb-true m a t)))) (λ t. rw t)

over : (m a : ℕ) → ltb m (capped m a) ≡ ltb m a
over m a = rw (add-zero, add-zero) at (over-capped m a 0)

pub capped_small : (m a : ℕ) → capped m a ≤ m + 1
unfolding capped
capped_small m a = by_test (ltb m a) (λ t. rw t (omega arith)) (λ t. rw t (omega (arith, ltb-false m a t)))

-- ---- measuring

module _ (l : Lent) (bad : List ℕ → Bool) where
  abbrev limit : ℕ
  limit = length l.output

  room-capped : (a n : ℕ) (pool : Pool) → room_refusal l (capped limit a + n) pool ≡ room_refusal l (a + n) pool
  unfolding room_refusal
  room-capped a n pool = rw (over-capped limit a n)

  pub refusal-capped : (rs : List Row) (a : ℕ) (pool : Pool) → rows_refusal l bad (capped limit a) pool rs ≡ rows_refusal l bad a pool rs
  unfolding rows_refusal
  refusal-capped [] a pool = refl
  refusal-capped (r ∷ rs) a pool =
      let n : ℕ = length (row_bytes pool r) in
      let p : Pool = keep_row pool r in
      let later : rows_refusal l bad (capped limit a + n) p rs ≡ rows_refusal l bad (a + n) p rs =
      sym (refusal-capped rs (capped limit a + n) p) ∙ ap (λ (x : ℕ). rows_refusal l bad x p rs) (capped-capped limit a n) ∙ refusal-capped rs (a + n) p in
      rw (room-capped a n p, later)

  pub room-is : (a names : ℕ) (pool : Pool) → names ≡ length pool → room_of limit (length l.table) (capped limit a) names ≡ room_refusal l a pool
  unfolding room_of room_refusal
  room-is a names pool e = rw (e, over limit a)

  module _ (at : ℕ) (pool : Pool) (r : Row) (rs : List Row) where
    abbrev after : ℕ
    after = at + length (row_bytes pool r)

    pub stops-row : (x : ℕ × ℕ) → row_refusal bad r ≡ some x → rows_refusal l bad at pool (r ∷ rs) ≡ some x
    unfolding rows_refusal
    stops-row x e = rw e

    module _ (p : row_refusal bad r ≡ none) where
      pub stops-room : (x : ℕ × ℕ) → ends rs ≡ true → room_refusal l after (keep_row pool r) ≡ some x → rows_refusal l bad at pool (r ∷ rs) ≡ some x
      unfolding rows_refusal
      stops-room x e f = rw (p, e, f)

      pub goes_in : ends rs ≡ false → rows_refusal l bad at pool (r ∷ rs) ≡ rows_refusal l bad after (keep_row pool r) rs
      unfolding rows_refusal
      goes_in e = rw (p, e)

      pub goes-past : ends rs ≡ true → room_refusal l after (keep_row pool r) ≡ none → rows_refusal l bad at pool (r ∷ rs) ≡ rows_refusal l bad after (keep_row pool r) rs
      unfolding rows_refusal
      goes-past e f = rw (p, e, f)
