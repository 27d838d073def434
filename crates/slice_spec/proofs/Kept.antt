-- What a next leaves as it was, whatever its arguments: all of it unless it gives an event, and then the words that it does not write.
use Rattle.std.proofs.Math.Bool.{true}
use Rattle.std.specs.Prelude.{List, ◌++◌, ◌≡◌, refl, ℕ, ◌+◌, ◌*◌, ◌/◌, ◌≤◌, take, drop, ltb, eqb}
use Rattle.std.proofs.Common.{append_assoc, ◌∙◌, arith, ltb-false, length-append, take_at, drop_at, length-take-le}
use Rattle.std.proofs.Math.ListN.{length}
use Rattle.std.proofs.lemmas.List.Edits.{sets, sets-eq}
use Rattle.std.proofs.Math.Seq.{length-sets}
use Rattle.grammar.specs.Grammar.{Span, Items}
use Rattle.grammar.proofs.Said.{words-length}
use Rattle.grammar.specs.Scan.{adds, pairs, count, words, Outcome, complete, incomplete, bad, outcome}
use Rattle.grammar.proofs.Choice.{cond-by}
use Rattle.grammar.proofs.Stores.{pairs-length}
use Rattle.slice_spec.specs.Slice.{Place, sizes_bad, place_bad, items_at, table_after, place_after, Answer, gives, end, Left, unchanged, given, hand_out, by_outcome, next_from, next}

-- ---- words stored from a place on leave those before and after them

module _ (l vs : List ℕ) (i : ℕ) (h : i + length vs ≤ length l) where
  pub take-sets : take i (sets l i vs) ≡ take i l
  take-sets = rw (sets-eq vs l i h, append_assoc (take i l) vs (drop (i + length vs) l)) (take_at (take i l) _ i (length-take-le i l (omega arith)))

  pub drop-sets : drop (i + length vs) (sets l i vs) ≡ drop (i + length vs) l
  drop-sets =
      rw (sets-eq vs l i h)
      (drop_at (take i l ++ vs) _ (i + length vs) (length-append (take i l) vs ∙ rw (length-take-le i l (omega arith))))

-- ---- a property of what a next leaves, by the ways that it can go

module _ (P : Left → Type 0) (p : Place) (document table rows : List ℕ) where
  abbrev is : Items
  is = items_at p document table

  abbrev ts : List Span
  ts = adds p.names is

  pub next-by : ((n d : ℕ) → P (unchanged p table rows (Answer.refused n d))) → P (unchanged p table rows end)
      → ((n : ℕ) → outcome true is ≡ complete n → count is ≤ length rows / 8 → 2 * (p.names + length ts) ≤ length table → P (given p table rows is n ts))
      → P (next p document table rows)
  unfolding next next_from by_outcome hand_out
  next-by refuses ends gives-it =
      cond-by P (sizes_bad document table) _ _ (λ _. refuses _ _) (λ _.
      cond-by P (place_bad p document table) _ _ (λ _. refuses _ _) (λ _.
      cond-by P (eqb p.at (length document)) _ _ (λ _. ends) (λ _. go (outcome true is) refl)))
    where
      go : (o : Outcome) → outcome true is ≡ o → P (by_outcome p table rows is o)
      go (complete n) e =
          cond-by P (ltb (length rows / 8) (count is)) _ _ (λ _. refuses _ _) (λ a.
          cond-by P (ltb (length table) (2 * (p.names + length ts))) _ _ (λ _. refuses _ _) (λ b. gives-it n e (ltb-false _ _ a) (ltb-false _ _ b)))
      go incomplete e = ends
      go (bad n d) e = refuses n d

-- ---- what stays

-- of the rows, those past the event's; of the table, the pairs before and after its new names
pub record Frame (p : Place) (table rows : List ℕ) (k : ℕ) (x : Left) : Type 0 where
  pub rows-after : drop (8 * k) x.rows ≡ drop (8 * k) rows
  pub pairs-before : take (2 * p.names) x.table ≡ take (2 * p.names) table
  pub pairs-after : drop (2 * x.place.names) x.table ≡ drop (2 * x.place.names) table
  pub same_rows : length x.rows ≡ length rows
  pub same-table : length x.table ≡ length table

abbrev pub Kept : Place → List ℕ → List ℕ → Answer → Left → Type 0
Kept p table rows (gives k) x = Frame p table rows k x
Kept p table rows end x = x ≡ unchanged p table rows end
Kept p table rows (Answer.refused n d) x = x ≡ unchanged p table rows (Answer.refused n d)

given-frame : (p : Place) (table rows : List ℕ) (is : Items) (n : ℕ) (ts : List Span) → count is ≤ length rows / 8 → 2 * (p.names + length ts) ≤ length table
    → Frame p table rows (count is) (given p table rows is n ts)
unfolding given place_after table_after
given-frame p table rows is n ts a b =
    let ps : List ℕ = pairs p.at ts in
    let ws : List ℕ = words 0 p.at (sets table (2 * p.names) ps) is in
    let lp : length ps ≡ 2 * length ts = pairs-length p.at ts in
    let lw : 0 + length ws ≡ 8 * count is = omega (arith, words-length 0 p.at (sets table (2 * p.names) ps) is) in
    let past : 2 * p.names + length ps ≡ 2 * (p.names + length ts) = omega arith in
    record {
      rows-after = rw lw at (drop-sets rows ws 0 (omega arith));
      pairs-before = take-sets table ps (2 * p.names) (omega arith);
      pairs-after = rw past at (drop-sets table ps (2 * p.names) (omega arith));
      same_rows = length-sets rows 0 ws;
      same-table = length-sets table (2 * p.names) ps;
    }

pub next-keeps : (p : Place) (document table rows : List ℕ) → Kept p table rows (next p document table rows).answer (next p document table rows)
unfolding given
next-keeps p document table rows =
    next-by (λ x. Kept p table rows x.answer x) p document table rows (λ n d. refl) refl
    (λ n o a b. given-frame p table rows (items_at p document table) n (adds p.names (items_at p document table)) a b)
