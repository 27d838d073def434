-- A next past the header: what it leaves, from what the scanner's step left.
use Rattle.std.proofs.Common.{true, false, ◌&&◌, cond, List, [], ◌≡◌, refl, sym, ap, ◌∙◌, ℕ, ◌+◌, ◌*◌, ◌-◌, ◌/◌, ◌≤◌, arith, le-ltb, ltb-false, eq-eqb, ne_eqb, ltb, eqb, length, take, drop}
use Rattle.std.proofs.Math.Seq.{slice, length-slice}
use Rattle.wire.specs.Refusal.{window_full}
use Rattle.wire.specs.Limits.{max_store}
use Rattle.grammar.specs.Grammar.{Items, event}
use Rattle.grammar.proofs.Laws.{agree-event}
use Rattle.grammar.proofs.Outcomes.{ends-within}
use Rattle.grammar.specs.Scan.{sound, adds, lengths, count, Outcome, complete, incomplete, bad, outcome}
use Rattle.grammar.proofs.Choice.{by_test}
use Rattle.quick_step.specs.Step as Scanned
use Rattle.quick_step.specs.Step.{step}
use Rattle.stream_spec.specs.Stream.{Stream, Lent, Left, Reply, unchanged, passed, given, hand_out, by_outcome, next_from}
use Rattle.stream_spec.specs.Stream as Defined
use Rattle.stream.specs.Answers.{Fits, Sums, later}
use Rattle.stream.proofs.Window.{part_slice}

module _ (r : Stream) (l : Lent) (from : ℕ) where
  -- the bytes from the place on, as the code lends them
  abbrev lent : List ℕ
  lent = take (r.end - from) (drop from l.window)

  abbrev onward_by : Lent → List ℕ → Scanned.Reply → Left
  onward_by m rows (Scanned.gives n len added bytes) = unchanged (later r from len added bytes) m rows (Defined.gives n)
  onward_by m rows Scanned.need_more =
      cond (eqb (length lent) (length m.window)) (unchanged r m rows (Reply.refused window_full 0)) (unchanged (passed r from) m rows Defined.need_more)
  onward_by m rows (Scanned.Reply.refused n d) = unchanged r m rows (Reply.refused n d)

  abbrev pub onward : Scanned.Left → Left
  onward x = onward_by (record { window = l.window; table = x.table; store = x.store }) x.rows x.reply

  -- an incomplete event
  pub full : (t b w : List ℕ) → length lent ≡ length l.window
      → unchanged r (record { window = l.window; table = t; store = b }) w (Reply.refused window_full 0)
      ≡ onward (record { reply = Scanned.need_more; table = t; store = b; rows = w })
  full t b w h = rw (eq-eqb _ _ h)

  pub room : (t b w : List ℕ) → (length lent ≡ length l.window → ⊥)
      → unchanged (passed r from) (record { window = l.window; table = t; store = b }) w Defined.need_more
      ≡ onward (record { reply = Scanned.need_more; table = t; store = b; rows = w })
  room t b w h = rw (ne_eqb _ _ h)

  module _ (rows : List ℕ) where
    -- the event's bytes, and those from it on
    abbrev s : List ℕ
    s = slice from r.end l.window

    abbrev items : Items
    items = event (sound r.names l.table (length l.store)) r.names s

    abbrev pub stepped : Scanned.Left
    stepped = step lent from r.finished true r.names r.bytes l.table l.store rows

    abbrev by_items : Outcome → Scanned.Left
    by_items = Scanned.by_outcome s from r.finished true r.names r.bytes l.table l.store rows items

    -- at the end
    pub ends : (r.finished && eqb from r.end) ≡ true → unchanged (passed r from) l rows Defined.end ≡ next_from r l rows from
    unfolding next_from
    ends e = rw e

    module _ (f : Fits r l) (h : from ≤ r.end) where
      lent_len : length lent ≡ r.end - from
      lent_len = ap length (part_slice l.window from r.end h f.end_fits) ∙ length-slice from r.end l.window f.end_fits

      onward-is : (o : Outcome) → onward (by_items o) ≡ by_outcome r l rows from items o
      unfolding by_outcome Scanned.by_outcome hand_out Scanned.hand_out given Scanned.written
      onward-is (complete n) =
          by_test (ltb (length rows / 8) (count items)) (λ a. rw a) (λ a. rw a
          (by_test (ltb (length l.table) (2 * (r.names + length (adds r.names items)))) (λ b. rw b) (λ b. rw b
          (by_test (ltb (length l.store) (r.bytes + lengths (adds r.names items))) (λ c. rw c) (λ c. rw c)))))
      onward-is incomplete = rw lent_len
      onward-is (bad n d) = refl

      -- the step finds buffers and state as they must be
      stepped-is : stepped ≡ by_items (outcome r.finished items)
      unfolding step Scanned.too_long Scanned.outside
      stepped-is =
          let n = length-slice from r.end l.window f.end_fits in
          let a : from + length s ≤ max_store = omega (arith, f.end_fits, f.window-small) in
          rw (
            part_slice l.window from r.end h f.end_fits,
            le-ltb _ _ a,
            le-ltb _ _ f.store-small,
            le-ltb _ _ f.names-fit,
            le-ltb _ _ f.bytes_fit,
          )

      -- before the end the call goes as the step went
      pub goes : (x : Scanned.Left) → x ≡ stepped → (r.finished && eqb from r.end) ≡ false → onward x ≡ next_from r l rows from
      unfolding next_from
      goes x e k = rw k (ap onward (e ∙ stepped-is) ∙ onward-is (outcome r.finished items))

      -- what an event adds to the state stays in the buffers
      sums_by : (n len added bytes : ℕ) (o : Outcome) → outcome r.finished items ≡ o → (by_items o).reply ≡ Scanned.gives n len added bytes → Sums r from len added bytes
      unfolding Scanned.by_outcome Scanned.hand_out Scanned.written
      sums_by n len added bytes (complete m) q p =
          by_test (ltb (length rows / 8) (count items))
          (λ a. let y = rw a at p in cc y)
          (λ a. let y = rw a at p in
          by_test (ltb (length l.table) (2 * (r.names + length (adds r.names items))))
          (λ b. let y = rw b at y in cc y)
          (λ b. let y = rw b at y in
          by_test (ltb (length l.store) (r.bytes + lengths (adds r.names items)))
          (λ c. let y = rw c at y in cc y)
          (λ c. let y = rw c at y in
          let pairs-fit : 2 * (r.names + length (adds r.names items)) ≤ length l.table = ltb-false _ _ b in
          let bytes_fit : r.bytes + lengths (adds r.names items) ≤ length l.store = ltb-false _ _ c in
          let same : m ≡ len = cc y in
          let more : length (adds r.names items) ≡ added = cc y in
          let most : lengths (adds r.names items) ≡ bytes = cc y in
          let k = (ends-within s m r.finished r.names items _ (agree-event s [] (sound r.names l.table (length l.store)) r.names) q).1 in
          let n = length-slice from r.end l.window f.end_fits in
          record {
            end-within = omega arith;
            names-small = omega (arith, f.table-small);
            bytes_small = omega (arith, f.store-small);
          })))
      sums_by n len added bytes incomplete q p = cc p
      sums_by n len added bytes (bad k d) q p = cc p

      pub sums : (x : Scanned.Left) (n len added bytes : ℕ) → x ≡ stepped → x.reply ≡ Scanned.gives n len added bytes → Sums r from len added bytes
      sums x n len added bytes e d =
          sums_by n len added bytes (outcome r.finished items) refl (ap (λ (q : Scanned.Left). q.reply) (sym (e ∙ stepped-is)) ∙ d)
