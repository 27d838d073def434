-- Once an event's names are stored, the table gives the same words of its rows as the pool's pairs with theirs: what a query
-- asks before it stores them, it writes after.
use Rattle.std.proofs.Math.Option.{Option, none, some}
use mathlib.Core.List.{List, [], ◌++◌}
use Rattle.std.specs.Prelude.{◌≡◌, ℕ, ◌+◌, ◌*◌, ◌≤◌, take, drop}
use Rattle.std.proofs.Math.Path.{refl}
use Rattle.std.proofs.Common.{arith, length-take-le}
use Rattle.std.proofs.Math.ListN.{length, length-append, get_or-append}
use Rattle.std.proofs.lemmas.List.Edits.{sets-eq}
use Rattle.event.specs.declared.Shape.{Shape}
use Rattle.grammar.specs.Grammar.{Span, Ref, new, known, Value, Items, item, whole, lacks, stops, counted_name, after}
use Rattle.grammar.specs.Scan.{sound, pairs, adds_name, adds_value, adds_item, adds, span_words, ref_words, name_words, value_words, item_words, words}
use Rattle.grammar.proofs.Added.{counted_name-adds, counted_value-adds, after-adds}
use Rattle.grammar.specs.Fits.{RefFits, NameFits, ValueFits}
use Rattle.grammar.proofs.Laws.{Agree, agree-event}
use Rattle.slice_spec.specs.Slice.{Place, items_at, table_after}
use Rattle.slice_spec.specs.Queries.{table_with}
use Rattle.grammar.proofs.Stores.{pairs-length}

-- ---- words by the beginning of a table

module _ (pooled base : ℕ) (u rest : List ℕ) where
  ref-front : (l k : ℕ) (r : Ref) → RefFits l k r → 2 * k ≤ length u → ref_words pooled base (u ++ rest) r ≡ ref_words pooled base u r
  unfolding ref_words span_words
  ref-front l k (new t) f h = refl
  ref-front l k (known i) f h = rw (get_or-append u rest 0 (2 * i) (omega arith), get_or-append u rest 0 (2 * i + 1) (omega arith))

  name-front : (l k : ℕ) (r : Option Ref) → NameFits l k r → 2 * k ≤ length u → name_words pooled base (u ++ rest) r ≡ name_words pooled base u r
  unfolding name_words
  name-front l k none f h = refl
  name-front l k (some r) f h = ref-front l k r f h

  value-front : (l k : ℕ) (s : Shape) (v : Value) → ValueFits l k s v → 2 * k ≤ length u → value_words pooled base (u ++ rest) v ≡ value_words pooled base u v
  unfolding value_words span_words
  value-front l k s Value.nothing f h = refl
  value-front l k s Value.empty f h = refl
  value-front l k s (Value.span t) f h = refl
  value-front l k s (Value.interned r) f h = ref-front l k r f.0 h
  value-front l k s (Value.word w) f h = refl
  value-front l k s (Value.pair a b) f h = refl

  pub words-front : (s t : List ℕ) (lo k : ℕ) (is y : Items) → Agree s t k lo is y → 2 * (k + length (adds k is)) ≤ length u
      → words pooled base (u ++ rest) is ≡ words pooled base u is
  unfolding words item_words adds adds_item
  words-front s t lo k (item i is) y a h =
      let b : List Span = adds_name k i.name in
      let c : List Span = adds_value (counted_name k i.name) i.value in
      let l₁ = length-append (b ++ c) (adds (after k i) is) in
      let l₂ = length-append b c in
      let n = counted_name-adds k i.name in
      let v = counted_value-adds (counted_name k i.name) i.value in
      let m = after-adds k i in
      let q : length (adds_item k i) ≡ length (b ++ c) = refl in
      rw (
        name-front (length s) k i.name a.0.name-fits (omega arith),
        value-front (length s) (counted_name k i.name) _ i.value a.0.value-fits (omega arith),
        words-front s t lo (after k i) is a.1.0 a.1.2 (omega arith),
      )
  words-front s t lo k (whole n e) y a h = refl
  words-front s t lo k (lacks n) y a h = refl
  words-front s t lo k (stops n d) y a h = refl

-- with room for the names
pub words-stored : (document : List ℕ) (p : Place) (table : List ℕ) → 2 * (p.names + length (adds p.names (items_at p document table))) ≤ length table
    → words 0 p.at (table_after p table (adds p.names (items_at p document table))) (items_at p document table)
    ≡ words 0 p.at (table_with p table (adds p.names (items_at p document table))) (items_at p document table)
unfolding table_after table_with items_at
words-stored document p table room =
    let s : List ℕ = drop p.at document in
    let is : Items = items_at p document table in
    let ts : List Span = adds p.names is in
    let front : List ℕ = take (2 * p.names) table in
    let ps : List ℕ = pairs p.at ts in
    let later : List ℕ = drop (2 * p.names + length ps) table in
    let lp : length ps ≡ 2 * length ts = pairs-length p.at ts in
    let lf : length front ≡ 2 * p.names = length-take-le (2 * p.names) table (omega arith) in
    let e : table_after p table ts ≡ (front ++ ps) ++ later = sets-eq ps table (2 * p.names) (omega arith) in
    let ag : Agree s [] p.names 1 is _ = agree-event s [] (sound p.names table (length document)) p.names in
    rw e (words-front 0 p.at (front ++ ps) later s [] 1 p.names is _ ag (omega (arith, length-append front ps)))
