-- An event that the quick way took, and the step's answer then.
use Rattle.std.proofs.Common.{Bool, false, cond, List, [], ◌≡◌, sym, ap, ◌∙◌, ℕ, ◌+◌, ◌*◌, ◌/◌, ◌≤◌, arith, length}
use Rattle.std.proofs.lemmas.List.Edits.{sets}
use borrow.Author.Tests.{le-ltb}
use Rattle.grammar.proofs.Choice.{by_test}
use Rattle.grammar.specs.Grammar.{Span, Items, event}
use Rattle.grammar.specs.Scan.{sound, adds, lengths, pairs, copied_pairs, joined, count, words, Outcome}
use Rattle.quick.specs.declared.Taken.{Taken}
use Rattle.std.specs.Prelude.{Option, Some, None}
use Rattle.quick.specs.Quick.{Reads, Quickly}
use Rattle.quick_step.specs.Step.{gives, Left, written, hand_out, by_outcome, step, too_long, outside, SteppedQuickly}
use Rattle.quick_step.specs.Laws.{not-outside}

module _ (s : List ℕ) (base : ℕ) (finished copied : Bool) (names used : ℕ) (table store rows rows₁ : List ℕ) (stored : ℕ) (t : Taken) where
  abbrev is : Items
  is = event (sound names table stored) names s

  module _ (e : too_long base (length s) copied (length store) ≡ false) (f : outside (length table) names copied used (length store) ≡ false)
      (g : stored ≡ cond copied (length store) (base + length s)) where
    abbrev by : Outcome → Left
    by = by_outcome s base finished copied names used table store rows is

    complete-is : (ts : List Span) → ts ≡ [] → count is ≡ t.rows → t.rows ≤ length rows / 8 → rows₁ ≡ sets rows 0 (words (cond copied 1 0) base table is)
        → record { reply = gives t.rows t.len 0 0; table = table; store = store; rows = rows₁ } ≡ hand_out s base finished copied names used table store rows is t.len ts
    unfolding hand_out written lengths pairs copied_pairs joined
    complete-is ts q b c d =
        let o = not-outside (length table) names copied used (length store) f in
        let room : 2 * (names + 0) ≤ length table = omega (arith, o.0) in
        rw (q, b, le-ltb (length rows / 8) t.rows c, le-ltb (length table) (2 * (names + 0)) room)
        (by_test copied
        (λ k. let bytes : used + 0 ≤ length store = omega (arith, o.1 k) in rw (k, le-ltb (length store) (used + 0) bytes, d, k))
        (λ k. rw (k, d, k)))

    taken_is : Reads is names (cond copied 1 0) base table rows rows₁ t
        → record { reply = gives t.rows t.len 0 0; table = table; store = store; rows = rows₁ } ≡ step s base finished copied names used table store rows
    unfolding step by_outcome
    taken_is r = complete-is (adds names is) r.none-new r.counted r.fits r.written ∙ ap by (sym (r.ends finished)) ∙ rw (e, f, ← g)

-- ---- the quick way of a step

module _ (s : List ℕ) (base : ℕ) (copied : Bool) (names used : ℕ) (table store rows rows₁ : List ℕ) where
  pub steps-quickly : too_long base (length s) copied (length store) ≡ false → outside (length table) names copied used (length store) ≡ false
      → (stored : ℕ) → stored ≡ cond copied (length store) (base + length s) → (t : Option Taken)
      → Quickly (event (sound names table stored) names s) names (cond copied 1 0) base table rows rows₁ t → SteppedQuickly s base copied names used table store rows rows₁ t
  steps-quickly e f stored g None r = r
  steps-quickly e f stored g (Some t) r =
      record { long = r.long; steps = λ finished. taken_is s base finished copied names used table store rows rows₁ stored t e f g r }
