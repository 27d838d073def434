use Rattle.std.proofs.Common.{Bool, true, false, cond, ◌≡◌, refl, sym, ◌%◌, length, ltb, eqb, ltb-false, Result, Ok, Err}
use Rattle.wire.specs.Limits.{min_window, max_table}
use Rattle.wire.specs.declared.Refusal.{Refusal}
use Rattle.wire.specs.declared.Refusal.TheVariants.{BadSize, BadState}
use Rattle.grammar.proofs.Choice.{neither}
use Rattle.stream_spec.specs.Stream.{Stream, Lent, sizes_bad, state_bad}
use Rattle.stream.specs.Answers.{stream_of, lend, fault, Fits}
use Rattle.stream_next.proofs.next.Goals as goal

abbrev by_tests : Bool → Bool → Result Unit Refusal
by_tests a b = cond a (Err BadSize) (cond b (Err BadState) (Ok tt))

no-fault : (a b : Bool) → by_tests a b ≡ Ok tt → (a ≡ false) × (b ≡ false)
no-fault true b h = cc
no-fault false true h = cc
no-fault false false h = (refl, refl)

-- with no fault the state fits what is lent
fits : (r : Stream) (l : Lent) → fault r l ≡ Ok tt → Fits r l
unfolding fault sizes_bad state_bad
fits r l h =
    let f = no-fault (sizes_bad l) (state_bad r l) h in
    let s₁ = neither (ltb (length l.window) min_window) _ f.0 in
    let s₂ = neither _ _ s₁.1 in
    let s₃ = neither (eqb (length l.table % 2) 1) _ s₂.1 in
    let s₄ = neither (ltb max_table (length l.table)) _ s₃.1 in
    let t₁ = neither _ _ f.1 in
    let t₂ = neither _ _ t₁.1 in
    let t₃ = neither _ _ t₂.1 in
    record {
      start_fits = ltb-false _ _ t₁.0;
      end_fits = ltb-false _ _ t₂.0;
      names-fit = ltb-false _ _ t₃.0;
      bytes_fit = ltb-false _ _ t₃.1;
      window-small = ltb-false _ _ s₂.0;
      table-small = ltb-false _ _ s₄.0;
      store-small = ltb-false _ _ s₄.1;
    }

pub next_from-requires-clause-fits : goal.next_from-requires-clause-fits
next_from-requires-clause-fits c = let a = c.args in fits (stream_of a.stream) (lend a.window.now a.table.now a.store.now) (sym c.in_ok-check.ensures)

pub next_header-requires : goal.next_header-requires
next_header-requires c = let a = c.args in fits (stream_of a.stream) (lend a.window.now a.table.now a.store.now) (sym c.in_ok-check.ensures)
