-- An event that was read quickly, its words put to the rows.
use Rattle.std.proofs.Common.{List, ◌++◌, ◌≡◌, sym, ap, ◌∙◌, ℕ, ◌+◌, ◌*◌, ◌/◌, ◌≤◌, arith, length, take, drop}
use Rattle.std.proofs.lemmas.List.Edits.{sets, sets-eq}
use Rattle.std.proofs.Math.Seq.{length-sets, take_at}
use Rattle.grammar.specs.Grammar.{Items}
use Rattle.grammar.proofs.Said.{words-length}
use Rattle.grammar.specs.Scan.{words}
use Rattle.quick.specs.declared.Taken.{Taken}
use Rattle.quick.specs.Quick.{ReadEvent, Reads}

module _ (is : Items) (names source base : ℕ) (table ws ws₁ : List ℕ) (t : Taken) (r : ReadEvent is names source base table ws ws₁ t) (l : length ws ≡ 80) where
  abbrev its : List ℕ
  its = words source base table is

  its-length : length its ≡ 8 * t.rows
  its-length = words-length source base table is ∙ ap (λ (x : ℕ). 8 * x) r.counted

  pub quick-long : 80 ≡ length ws₁
  quick-long = sym (ap length r.stored ∙ length-sets ws 0 its ∙ l)

  pub quick-fits : 8 * t.rows ≤ length ws₁
  quick-fits = omega (arith, quick-long, r.few)

  pub quick-taken : (rows rows₁ : List ℕ) → t.rows ≤ length rows / 8 → rows₁ ≡ sets rows 0 (take (8 * t.rows) ws₁) → Reads is names source base table rows rows₁ t
  quick-taken rows rows₁ k e =
      let z : 0 + length its ≤ length ws = omega (arith, its-length, r.few) in
      let x : ws₁ ≡ its ++ drop (0 + length its) ws = r.stored ∙ sets-eq its ws 0 z in
      let w : take (8 * t.rows) ws₁ ≡ its = ap (λ (v : List ℕ). take (8 * t.rows) v) x ∙ take_at its (drop (0 + length its) ws) (8 * t.rows) its-length in
      record { long = r.long; ends = r.ends; counted = r.counted; fits = k; none-new = r.none-new; written = e ∙ ap (λ (v : List ℕ). sets rows 0 v) w }

-- ---- an end tag, whose row is put where it belongs

pub row-taken : (is : Items) (names source base : ℕ) (table rows rows₁ : List ℕ) (t : Taken) → ReadEvent is names source base table rows rows₁ t → t.rows ≤ length rows / 8
    → Reads is names source base table rows rows₁ t
row-taken is names source base table rows rows₁ t r k =
    record { long = r.long; ends = r.ends; counted = r.counted; fits = k; none-new = r.none-new; written = r.stored }
