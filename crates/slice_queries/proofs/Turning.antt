-- A query, turn by turn: what is still to come from where it stands is the whole answer.
use Rattle.std.proofs.Common.{true, false, Option, Result, List, [], ◌≡◌, refl, sym, ap, ◌∙◌, ℕ, zero, suc, ◌+◌, ◌*◌, ◌-◌, ◌/◌, ◌≤◌, ◌<◌, arith, true≢false, le-ltb, ltb-false, eq-eqb, ltb, eqb, length, drop, length-drop}
use Rattle.std.proofs.Math.Seq.{length-sets}
use Rattle.wire.specs.declared.Refusal.{Refusal}
use Rattle.grammar.specs.Grammar.{Span, Items}
use Rattle.grammar.proofs.Laws.{agree-event}
use Rattle.grammar.proofs.Outcomes.{ends-within}
use Rattle.grammar.specs.Scan.{sound, pairs, Outcome, complete, incomplete, bad, outcome}
use Rattle.grammar.proofs.Choice.{by_test, neither}
use Rattle.slice_spec.specs.Slice.{Place, sizes_bad, place_bad, items_at, table_after, place_after}
use Rattle.slice_spec.specs.Queries.{Query, Words, Ending, done, Step, on, stop, Progress, Left, ends, concat, past, by_step, query_f, query}
use Rattle.slice_spec.proofs.Answers.{begun}
use Rattle.slice_spec.specs.Turns.{Turn, passed, halted, passing, turn_by, turn, turn_or_refuse, after_by, by_turn}
use Rattle.slice_spec.proofs.Turns.{query-turn}
use Rattle.scanner.specs.Select.{turn_of}
use Rattle.scanner.specs.declared.select.Picked.{Picked}
use Rattle.slice.specs.Answers.{step_of, reached_of, left_of}
use Rattle.slice.specs.Going.{Addable, Stepped, passed_of, step_by, stops, end_of, Going}
use Rattle.slice.specs.declared.queries.Reached.{Reached}
use Rattle.slice.specs.declared.queries.Queried.{Queried}
use Rattle.slice.specs.declared.queries.Stopped.{Stopped}
use Rattle.slice.specs.declared.queries.Passed.{Passed}

-- what ended a query let no event pass
not-passed : {A : Type 0} {e : Ending} {g g' : Progress} {kind n : ℕ} → halted e g ≡ passed kind n g' → A
not-passed h = absurd (let z : ◌≡◌ {A = ℕ} 0 1 = cc h in omega arith)

-- an event was consumed: what held before, and where that leads
pub record Moved (document : List ℕ) (g g' : Progress) : Type 0 where
  pub sizes-good : sizes_bad document g.table ≡ false
  pub some_bytes : g.place.at + 1 ≤ g'.place.at
  pub within : g'.place.at ≤ length document
  pub names-fit : 2 * g'.place.names ≤ length g.table
  pub rows_fit : g'.written ≤ length g.rows / 8
  pub one_more : g'.events ≡ g.events + 1
  pub same-table : length g'.table ≡ length g.table
  pub same_rows : length g'.rows ≡ length g.rows

module _ (q : Query) (document : List ℕ) where
  past-moved : (g : Progress) (n : ℕ) (ts : List Span) (ws : List Words) → sizes_bad document g.table ≡ false → 1 ≤ n → g.place.at + n ≤ length document
      → 2 * (g.place.names + length ts) ≤ length g.table → g.written + length ws ≤ length g.rows / 8 → Moved document g (past g n ts ws)
  unfolding past place_after table_after
  past-moved g n ts ws good some in-document names rows =
      record {
        sizes-good = good;
        some_bytes = omega arith;
        within = in-document;
        names-fit = names;
        rows_fit = rows;
        one_more = refl;
        same-table = length-sets g.table (2 * g.place.names) (pairs g.place.at ts);
        same_rows = length-sets g.rows (8 * g.written) (concat ws);
      }

  passing-moved : (g g' : Progress) (m kind n k : ℕ) (ts : List Span) (ws : List Words) → sizes_bad document g.table ≡ false → 1 ≤ m → g.place.at + m ≤ length document
      → passing g k m ts ws ≡ passed kind n g' → Moved document g g'
  unfolding passing
  passing-moved g g' m kind n k ts ws good some in-document h =
      by_test (ltb (length g.rows / 8) (g.written + length ws))
      (λ a. let y = rw a at h in not-passed y)
      (λ a. let y = rw a at h in
      by_test (ltb (length g.table) (2 * (g.place.names + length ts)))
      (λ b. let y = rw b at y in not-passed y)
      (λ b. let y = rw b at y in
      let same : past g m ts ws ≡ g' = cc y in
      rw same at (past-moved g m ts ws good some in-document (ltb-false _ _ b) (ltb-false _ _ a))))

  by-moved : (g g' : Progress) (kind n : ℕ) (o : Outcome) → outcome true (items_at g.place document g.table) ≡ o → sizes_bad document g.table ≡ false
      → g.place.at ≤ length document → turn_by q document g (items_at g.place document g.table) o ≡ passed kind n g' → Moved document g g'
  unfolding turn_by items_at
  by-moved g g' kind n (complete m) o good placed h =
      let s : List ℕ = drop g.place.at document in
      let is : Items = items_at g.place document g.table in
      let a = agree-event s [] (sound g.place.names g.table (length document)) g.place.names in
      let k = ends-within s m true g.place.names is _ a o in
      passing-moved g g' m kind n _ _ _ good k.0 (omega (arith, k.1, length-drop g.place.at document)) h
  by-moved g g' kind n incomplete o good placed h = not-passed h
  by-moved g g' kind n (bad m d) o good placed h = not-passed h

  pub moved : (g g' : Progress) (kind n : ℕ) → turn_or_refuse q document g ≡ passed kind n g' → Moved document g g'
  unfolding turn_or_refuse turn place_bad
  moved g g' kind n h =
      by_test (sizes_bad document g.table)
      (λ a. let y = rw a at h in not-passed y)
      (λ a. let y = rw a at h in
      by_test (ltb (length document) g.place.at)
      (λ b. let y = rw b at y in not-passed y)
      (λ b. let y = rw b at y in
      by_test (ltb (length g.table) (2 * g.place.names))
      (λ d. let y = rw d at y in not-passed y)
      (λ d. let y = rw d at y in
      by_test (eqb g.place.at (length document))
      (λ e. let y = rw e at y in not-passed y)
      (λ e. let y = rw e at y in by-moved g g' kind n (outcome true (items_at g.place document g.table)) refl a (ltb-false _ _ b) y))))

-- ---- what is still to come

module _ (q : Query) (document : List ℕ) where
  -- 17 and 19 never come where the place lies in the document
  turn-goes : (g : Progress) → sizes_bad document g.table ≡ false → place_bad g.place document g.table ≡ false → turn_or_refuse q document g ≡ turn q document g
  unfolding turn_or_refuse
  turn-goes g a b = rw (a, b)

  ended : (g : Progress) → g.place.at ≡ length document → turn q document g ≡ halted done g
  unfolding turn
  ended g e = rw (eq-eqb _ _ e)

  going : (f : ℕ) (g : Progress) → sizes_bad document g.table ≡ false → place_bad g.place document g.table ≡ false → g.place.at ≤ length document
      → length document ≤ g.place.at + f → g.events ≤ g.place.at → Going q document (query_f f q document g) g
  unfolding query_f by_turn
  going zero g a b placed enough counted =
      record { fuel = 0; ahead = rw (turn-goes g a b, ended g (omega arith)); enough = omega arith; counted = counted }
  going (suc f) g a b placed enough counted =
      record { fuel = f; ahead = rw (turn-goes g a b) (sym (query-turn f q document g)); enough = omega arith; counted = counted }

  placed : (p : Place) (table : List ℕ) → place_bad p document table ≡ false → p.at ≤ length document
  unfolding place_bad
  placed p table b = ltb-false _ _ (neither (ltb (length document) p.at) _ b).0

  pub begins : (p : Place) (table rows : List ℕ) → Going q document (query q p document table rows) (begun p table rows)
  unfolding query turn_or_refuse by_turn
  begins p table rows =
      by_test (sizes_bad document table)
      (λ a. rw a (record { fuel = length document; ahead = rw a; enough = omega arith; counted = omega arith }))
      (λ a. rw a
      (by_test (place_bad p document table)
      (λ b. rw b (record { fuel = length document; ahead = rw (a, b); enough = omega arith; counted = omega arith }))
      (λ b. rw b (going (length document) (begun p table rows) a b (placed p table b) (omega arith) (omega arith)))))

  module _ (answer : Left) (g g' : Progress) (w : Going q document answer g) where
    goes_on : (kind n : ℕ) → turn_or_refuse q document g ≡ passed kind n g' → after_by q kind n ≡ on → Going q document answer g'
    unfolding by_turn by_step sizes_bad place_bad
    goes_on kind n h s =
        let m : Moved document g g' = moved q document g g' kind n h in
        let e : query_f w.fuel q document g' ≡ answer = rw (h, s) at w.ahead in
        let good : sizes_bad document g'.table ≡ false = rw m.same-table m.sizes-good in
        let there : place_bad g'.place document g'.table ≡ false =
        rw (le-ltb _ _ m.within, le-ltb (length g'.table) (2 * g'.place.names) (omega (arith, m.names-fit, m.same-table))) in
        rw e at (going w.fuel g' good there m.within (omega (arith, w.enough, m.some_bytes)) (omega (arith, w.counted, m.some_bytes, m.one_more)))

    stops-there : (kind n : ℕ) (e : Ending) → turn_or_refuse q document g ≡ passed kind n g' → after_by q kind n ≡ stop e → ends g' e ≡ answer
    unfolding by_turn by_step
    stops-there kind n e h s = rw (h, s) at w.ahead

    halts-there : (e : Ending) → turn_or_refuse q document g ≡ halted e g' → ends g' e ≡ answer
    unfolding by_turn
    halts-there e h = rw h at w.ahead

-- ---- after an event, for both loops

absurd-stop : {A : Type 0} → true ≡ false → A
absurd-stop h = absurd (true≢false h)

module _ (q : Query) (document : List ℕ) (g : Progress) where
  moved_by : (t : Turn) → turn_or_refuse q document g ≡ t → stops (step_by q t).step ≡ false → Moved document g (step_by q t).progress
  unfolding step_by
  moved_by (passed kind n g') h b = moved q document g g' kind n h
  moved_by (halted e g') h b = absurd-stop b

  module _ (answer : Left) (w : Going q document answer g) where
    on-by : (kind n : ℕ) (g' : Progress) (s : Step) → turn_or_refuse q document g ≡ passed kind n g' → after_by q kind n ≡ s → stops s ≡ false → Going q document answer g'
    on-by kind n g' on h a b = goes_on q document answer g g' w kind n h a
    on-by kind n g' (stop e) h a b = absurd-stop b

    stop-by : (kind n : ℕ) (g' : Progress) (s : Step) → turn_or_refuse q document g ≡ passed kind n g' → after_by q kind n ≡ s → stops s ≡ true → ends g' (end_of s) ≡ answer
    stop-by kind n g' on h a b = absurd-stop (sym b)
    stop-by kind n g' (stop e) h a b = stops-there q document answer g g' w kind n e h a

    going-by : (t : Turn) → turn_or_refuse q document g ≡ t → stops (step_by q t).step ≡ false → Going q document answer (step_by q t).progress
    unfolding step_by
    going-by (passed kind n g') h b = on-by kind n g' (after_by q kind n) h refl b
    going-by (halted e g') h b = absurd-stop b

    ends_by : (t : Turn) → turn_or_refuse q document g ≡ t → stops (step_by q t).step ≡ true → ends (step_by q t).progress (end_of (step_by q t).step) ≡ answer
    unfolding step_by
    ends_by (passed kind n g') h b = stop-by kind n g' (after_by q kind n) h refl b
    ends_by (halted e g') h b = halts-there q document answer g g' w e h

-- from one place a query came to another: what was to come is still to come
pub record Walked (q : Query) (document : List ℕ) (g₀ g : Progress) : Type 0 where
  pub still : (answer : Left) → Going q document answer g₀ → Going q document answer g
  pub counted : g.events ≤ g.place.at
  pub same-table : length g.table ≡ length g₀.table
  pub same_rows : length g.rows ≡ length g₀.rows

pub not_yet : (q : Query) (document : List ℕ) (g : Progress) → g.events ≤ g.place.at → Walked q document g g
not_yet q document g h = record { still = λ answer w. w; counted = h; same-table = refl; same_rows = refl }

module _ (q : Query) (document : List ℕ) (g₀ : Progress) (table rows table' rows' : List ℕ) (reached : Reached) (picked : Result (Option Picked) Refusal)
    (w : Walked q document g₀ (reached_of table rows reached))
    (h : turn_of (reached_of table rows reached) table' rows' picked ≡ turn_or_refuse q document (reached_of table rows reached)) where
  abbrev g : Progress
  g = reached_of table rows reached

  abbrev t : Turn
  t = turn_of g table' rows' picked

  pub addable : length document < 18_446_744_073_709_551_616 → length g₀.table < 18_446_744_073_709_551_616 → length g₀.rows < 18_446_744_073_709_551_616
      → Addable reached picked
  addable a b d = record {
    fits = λ e is.
        let m = moved q document g _ e.kind e.rows (sym h ∙ ap (turn_of g table' rows') is) in
        record {
          at = omega (arith, m.within);
          names = omega (arith, m.names-fit, w.same-table);
          events = omega (arith, w.counted, m.some_bytes, m.within);
          rows = omega (arith, m.rows_fit, w.same_rows);
        };
  }

  module _ (x : Passed) (e : passed_of table' rows' x ≡ step_by q t) where
    abbrev g' : Progress
    g' = reached_of table' rows' x.reached

    same_stop : stops (step_of x.end) ≡ stops (step_by q t).step
    same_stop = ap (λ (y : Stepped). stops y.step) e

    same-progress : g' ≡ (step_by q t).progress
    same-progress = ap (λ (y : Stepped). y.progress) e

    module _ (b : stops (step_of x.end) ≡ false) where
      moved_on : Moved document g g'
      moved_on = rw same-progress (moved_by q document g t (sym h) (sym same_stop ∙ b))

      pub less : length document - x.reached.place.at < length document - reached.place.at
      less = omega (arith, moved_on.some_bytes, moved_on.within)

      pub walked_on : Walked q document g₀ g'
      walked_on = record {
        still = λ answer v. rw same-progress (going-by q document g answer (w.still answer v) t (sym h) (sym same_stop ∙ b));
        counted = omega (arith, w.counted, moved_on.some_bytes, moved_on.one_more);
        same-table = moved_on.same-table ∙ w.same-table;
        same_rows = moved_on.same_rows ∙ w.same_rows;
      }

    pub ended-there : (answer : Left) → Going q document answer g₀ → stops (step_of x.end) ≡ true → (y : Result Queried Stopped) → left_of table' rows' y ≡ ends g' (end_of (step_of x.end))
        → left_of table' rows' y ≡ answer
    ended-there answer v b y k =
        k ∙ ap (λ (z : Stepped). ends z.progress (end_of z.step)) e ∙ ends_by q document g answer (w.still answer v) t (sym h) (sym same_stop ∙ b)
