-- A next at a place in the document: what it leaves, from what the scanner's step left.
use Rattle.std.proofs.Common.{true, false, List, [], ◌≡◌, refl, sym, ap, ◌∙◌, ℕ, ◌+◌, ◌*◌, ◌-◌, ◌/◌, ◌≤◌, arith, le-ltb, ltb-false, eq-eqb, ne_eqb, ltb, length, take, drop, length-drop, take_all}
use Rattle.grammar.specs.Grammar.{Items}
use Rattle.grammar.proofs.Laws.{agree-event}
use Rattle.grammar.proofs.Outcomes.{ends-within}
use Rattle.grammar.specs.Scan.{sound, adds, count, Outcome, complete, incomplete, bad, outcome}
use Rattle.grammar.proofs.Choice.{by_test}
use Rattle.quick_step.specs.Step as Scanned
use Rattle.quick_step.specs.Step.{step, too_long, outside, StepsQuickly}
use Rattle.quick.specs.declared.Taken.{Taken}
use Rattle.slice_spec.specs.Slice.{Place, Left, Answer, gives, end, unchanged, items_at, given, hand_out, by_outcome, next_from, place_after, table_after}
use Rattle.slice_spec.specs.Bounds.{Fits}

module _ (p : Place) (document table rows : List ℕ) where
  pub at-end : p.at ≡ length document → unchanged p table rows end ≡ next_from p document table rows
  unfolding next_from
  at-end e = rw (eq-eqb _ _ e)

  abbrev onward_by : List ℕ → List ℕ → Scanned.Reply → Left
  onward_by t w (Scanned.gives n len added bytes) = record { answer = gives n; place = record { at = p.at + len; names = p.names + added }; table = t; rows = w }
  onward_by t w Scanned.need_more = unchanged p t w end
  onward_by t w (Scanned.Reply.refused n d) = unchanged p t w (Answer.refused n d)

  abbrev onward : Scanned.Left → Left
  onward x = onward_by x.table x.rows x.reply

  module _ (store : List ℕ) where
    -- the event's bytes and what follows them, and the same as the code lends it
    abbrev s : List ℕ
    s = drop p.at document

    abbrev lent : List ℕ
    lent = take (length document - p.at) s

    abbrev items : Items
    items = items_at p document table

    abbrev pub stepped : Scanned.Left
    stepped = step lent p.at true false p.names 0 table store rows

    abbrev by_items : Outcome → Scanned.Left
    by_items = Scanned.by_outcome s p.at true false p.names 0 table store rows items

    onward-is : (o : Outcome) → onward (by_items o) ≡ by_outcome p table rows items o
    unfolding by_outcome Scanned.by_outcome hand_out Scanned.hand_out given Scanned.written place_after table_after
    onward-is (complete n) =
        by_test (ltb (length rows / 8) (count items)) (λ a. rw a) (λ a. rw a
        (by_test (ltb (length table) (2 * (p.names + length (adds p.names items)))) (λ b. rw b) (λ b. rw b)))
    onward-is incomplete = refl
    onward-is (bad n d) = refl

    module _ (f : Fits p document table) where
      stepped-is : stepped ≡ by_items (outcome true items)
      unfolding step too_long outside items_at
      stepped-is =
          let l = length-drop p.at document in
          let whole : lent ≡ s = take_all (length document - p.at) s (omega arith) in
          let e : p.at + length s ≡ length document = omega (arith, f.at-fits) in
          rw (whole, e, le-ltb _ _ f.document-small, le-ltb _ _ f.names-fit)

      -- before the end the call goes as the step went
      pub goes : (x : Scanned.Left) → stepped ≡ x → (p.at ≡ length document → ⊥) → onward x ≡ next_from p document table rows
      unfolding next_from
      goes x e b = rw (ne_eqb _ _ b) (ap onward (sym e ∙ stepped-is) ∙ onward-is (outcome true items))

      -- what an event adds to the place stays in the buffers
      sums_by : (n len added bytes : ℕ) (o : Outcome) → outcome true items ≡ o → (by_items o).reply ≡ Scanned.gives n len added bytes
          → (p.at + len ≤ length document) × (2 * (p.names + added) ≤ length table)
      unfolding Scanned.by_outcome Scanned.hand_out Scanned.written items_at
      sums_by n len added bytes (complete m) q r =
          by_test (ltb (length rows / 8) (count items))
          (λ a. let y = rw a at r in let z : ◌≡◌ {A = ℕ} 0 1 = cc y in absurd (omega arith))
          (λ a. let y = rw a at r in
          by_test (ltb (length table) (2 * (p.names + length (adds p.names items))))
          (λ b. let y = rw b at y in let z : ◌≡◌ {A = ℕ} 0 1 = cc y in absurd (omega arith))
          (λ b. let y = rw b at y in
          let room : 2 * (p.names + length (adds p.names items)) ≤ length table = ltb-false _ _ b in
          let same : m ≡ len = cc y in
          let more : length (adds p.names items) ≡ added = cc y in
          let k = (ends-within s m true p.names items _ (agree-event s [] (sound p.names table (length document)) p.names) q).1 in
          (omega (arith, length-drop p.at document, f.at-fits), omega arith)))
      sums_by n len added bytes incomplete q r = let z : ◌≡◌ {A = ℕ} 0 1 = cc r in absurd (omega arith)
      sums_by n len added bytes (bad k d) q r = let z : ◌≡◌ {A = ℕ} 0 1 = cc r in absurd (omega arith)

      pub sums : (n len added bytes : ℕ) (t b w : List ℕ) → stepped ≡ record { reply = Scanned.gives n len added bytes; table = t; store = b; rows = w }
          → (p.at + len ≤ length document) × (2 * (p.names + added) ≤ length table)
      sums n len added bytes t b w e = sums_by n len added bytes (outcome true items) refl (ap (λ (x : Scanned.Left). x.reply) (sym stepped-is ∙ e))

-- ---- the quick way

module _ (p : Place) (document table rows rows₁ : List ℕ) (t : Taken) (f : Fits p document table)
    (q : StepsQuickly (take (length document - p.at) (drop p.at document)) p.at false p.names 0 table document rows rows₁ t) where
  abbrev took : Scanned.Left
  took = record { reply = Scanned.gives t.rows t.len 0 0; table = table; store = document; rows = rows₁ }

  abbrev past : ℕ → Left
  past names = record { answer = gives t.rows; place = record { at = p.at + t.len; names = names }; table = table; rows = rows₁ }

  pub quick-sums : p.at + t.len ≤ length document
  quick-sums = (sums p document table rows document f t.rows t.len 0 0 table document rows₁ (sym (q.steps true))).0

  pub quick-goes : past p.names ≡ next_from p document table rows
  quick-goes =
      let z : p.names ≡ p.names + 0 = omega arith in
      ap past z ∙ goes p document table rows document f took (sym (q.steps true)) (λ e. omega (arith, quick-sums, q.long, e))
