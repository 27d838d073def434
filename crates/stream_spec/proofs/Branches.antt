-- A property of what a call leaves, by the ways that the call can go.
use Rattle.std.specs.Prelude.{true, ◌&&◌, ◌≡◌, refl, ℕ, ◌+◌, ◌*◌, ◌-◌, ◌/◌, ◌≤◌, ◌<◌, ltb}
use Rattle.std.proofs.Math.Bool.{false}
use mathlib.Core.List.{List, []}
use Rattle.std.proofs.Common.{ltb-true, ltb-false, eqb-true}
use Rattle.std.proofs.Math.ListN.{length}
use Rattle.std.proofs.Math.Seq.{slice}
use Rattle.std.proofs.Math.Dec.{eqb}
use Rattle.wire.specs.Header.{u32_at, magic}
use Rattle.grammar.specs.Grammar.{Items, event}
use Rattle.grammar.specs.Scan.{lengths, sound, adds, count, Outcome, complete, incomplete, bad, outcome}
use Rattle.event.specs.Laws.{both}
use Rattle.grammar.proofs.Choice.{cond-by}
use Rattle.stream_spec.specs.Stream.{Stream, Lent, Left, Reply, need_more, end, done, unchanged, sizes_bad, state_bad, checked, fitting, fed, feed, closed, finish, given, hand_out, passed, by_outcome, next_from, next_header, next}

-- a refusal leaves all as it was
abbrev pub refusal : Stream → Lent → List ℕ → ℕ → ℕ → Left
refusal r l rows n d = unchanged r l rows (Reply.refused n d)

module _ (P : Left → Type 0) (r : Stream) (l : Lent) where
  checked-by : (rows : List ℕ) (x : Left) → ((n d : ℕ) → P (refusal r l rows n d)) → P x → P (checked r l rows x)
  unfolding checked
  checked-by rows x refuses goes_on = cond-by P (sizes_bad l) _ _ (λ _. refuses _ _) (λ _. cond-by P (state_bad r l) _ _ (λ _. refuses _ _) (λ _. goes_on))

  pub feed-by : (chunk : List ℕ) → ((n d : ℕ) → P (refusal r l [] n d)) → (r.finished ≡ false → P (fed r l chunk (fitting r l chunk))) → P (feed r l chunk)
  unfolding feed
  feed-by chunk refuses goes_on = checked-by [] _ refuses (cond-by P r.finished _ _ (λ _. refuses _ _) goes_on)

  pub finish-by : ((n d : ℕ) → P (refusal r l [] n d)) → (r.finished ≡ false → P (unchanged (closed r) l [] done)) → P (finish r l)
  unfolding finish
  finish-by refuses goes_on = checked-by [] _ refuses (cond-by P r.finished _ _ (λ _. refuses _ _) goes_on)

  module _ (rows : List ℕ) (refuses : (n d : ℕ) → P (refusal r l rows n d)) where
    hand_out-by : (from : ℕ) (is : Items) (n : ℕ)
        → (count is ≤ length rows / 8 → 2 * (r.names + length (adds r.names is)) ≤ length l.table → r.bytes + lengths (adds r.names is) ≤ length l.store
        → P (given r l rows from is n (adds r.names is)))
        → P (hand_out r l rows from is n (adds r.names is))
    unfolding hand_out
    hand_out-by from is n goes_on =
        cond-by P (ltb (length rows / 8) (count is)) _ _ (λ _. refuses _ _) (λ a.
        cond-by P (ltb (length l.table) (2 * (r.names + length (adds r.names is)))) _ _ (λ _. refuses _ _) (λ b.
        cond-by P (ltb (length l.store) (r.bytes + lengths (adds r.names is))) _ _ (λ _. refuses _ _) (λ c.
        goes_on (ltb-false _ _ a) (ltb-false _ _ b) (ltb-false _ _ c))))

    -- the rows of the event that stands in the window from `from` on
    abbrev pub rows_from : ℕ → Items
    rows_from from = event (sound r.names l.table (length l.store)) r.names (slice from r.end l.window)

    pub next_from-by : (from : ℕ)
        → (r.finished ≡ true → from ≡ r.end → P (unchanged (passed r from) l rows end))
        → (outcome r.finished (rows_from from) ≡ incomplete → eqb (r.end - from) (length l.window) ≡ false → P (unchanged (passed r from) l rows need_more))
        → ((n : ℕ) → outcome r.finished (rows_from from) ≡ complete n → (r.finished && eqb from r.end) ≡ false
        → count (rows_from from) ≤ length rows / 8 → 2 * (r.names + length (adds r.names (rows_from from))) ≤ length l.table
        → r.bytes + lengths (adds r.names (rows_from from)) ≤ length l.store
        → P (given r l rows from (rows_from from) n (adds r.names (rows_from from))))
        → P (next_from r l rows from)
    unfolding next_from by_outcome
    next_from-by from at-end more event-there =
        cond-by P (r.finished && eqb from r.end) _ _
        (λ f. let b = both r.finished (eqb from r.end) f in at-end b.0 (eqb-true from r.end b.1))
        (λ going. go going (outcome r.finished (rows_from from)) refl)
      where
        go : (r.finished && eqb from r.end) ≡ false → (o : Outcome) → outcome r.finished (rows_from from) ≡ o → P (by_outcome r l rows from (rows_from from) o)
        go going (complete n) e = hand_out-by from (rows_from from) n (event-there n e going)
        go going incomplete e = cond-by P (eqb (r.end - from) (length l.window)) _ _ (λ _. refuses _ _) (more e)
        go going (bad n d) e = refuses _ _

    pub next-by : (r.header ≡ true → P (next_from r l rows r.start))
        → (r.header ≡ false → r.finished ≡ false → r.end - r.start < 4 → P (unchanged r l rows need_more))
        → (r.header ≡ false → 4 ≤ r.end - r.start → u32_at l.window r.start ≡ magic → P (next_from r l rows (r.start + 4)))
        → P (next r l rows)
    unfolding next next_header
    next-by there few first =
        checked-by rows _ refuses (cond-by P r.header _ _ there (λ hd.
        cond-by P (ltb (r.end - r.start) 4) _ _
        (λ a. cond-by P r.finished _ _ (λ _. refuses _ _) (λ f. few hd f (ltb-true _ _ a)))
        (λ a. cond-by P (eqb (u32_at l.window r.start) magic) _ _ (λ m. first hd (ltb-false _ _ a) (eqb-true _ _ m)) (λ _. refuses _ _))))
