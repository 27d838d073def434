-- The second pass: what holds before each row.
use mathlib.Core.Bool.{Bool, true, false, cond, ◌&&◌, false≢true}
use mathlib.Core.Option.{Option, none, some}
use mathlib.Core.List.{List, [], ◌∷◌, ◌++◌, append-nil}
use mathlib.Core.Path.{◌≡◌, refl, sym, ap, ◌∙◌}
use Prim.Native.Nat.{ℕ, ◌+◌, ◌*◌, ◌-◌, ◌/◌, ◌%◌, ◌≤◌, ◌<◌}
use native.Mathlib.Nat.{sub-zero}
use native.Mathlib.Omega.{arith}
use borrow.Author.Tests.{lt-ltb, le-ltb, ltb-true, ltb-false, leb-true, eqb-true}
use lib.Dec.{ltb, leb, eqb}
use lib.ListN.{length, get_or, take, drop, length-append, length-drop, get_or-eq_default}
use Rattle.std.proofs.lemmas.List.{get_or-take}
use lib.Seq.{sets, length-sets}
use Rattle.wire.specs.Limits.{max_store}
use Rattle.event.specs.Span.{span_in}
use Rattle.event.specs.Row.{Row, shape, shapes, has_name, row_at}
use Rattle.event.specs.Words.{value_forms, attribute_forms, row_forms, row_forms_in, zeros, opens, rows_form}
use Rattle.event.specs.Laws.{both, row-of-eight}
use Rattle.event.specs.declared.Shape.{Shape}
use Rattle.grammar.specs.Grammar.{most}
use Rattle.grammar.specs.Document.{Pool}
use Rattle.grammar.proofs.Stores.{sets-append}
use Rattle.grammar.proofs.Choice.{by_test}
use Rattle.writer_spec.specs.Encode.{find, name_bytes, keep, row_bytes, keep_row, rows_bytes, keep_rows}
use Rattle.writer_spec.proofs.Laws.{pool-count}
use Rattle.writer_spec.specs.Writer.{wrote, meets_bad, row_pairs, rows_pairs, append, rows_in}
use Rattle.writer_spec.proofs.Held.{pairs-count}
use Rattle.writer.specs.Answers.{lent_of, left_of, known_of}
use Rattle.writer.specs.Notes.{Linked}
use Rattle.writer.specs.Passes.{Settled, AllSettled, found, Ready, KnownSays, named_by, row_by, token_in, joins_by, pairs_by}
use Rattle.std.specs.Prelude.{Ok}
use Rattle.std.specs.Prelude as Code
use Rattle.writer.proofs.Pools.{keep-there, keep-new, keep-full, rows_grow}
use Rattle.writer.proofs.Turns.{rest, rest_more, rest_end, form-more}

-- ---- tokens are bytes

token-of-eight : (w : List ℕ) → token_in (take 8 w) ≡ token_in w
unfolding token_in
token-of-eight w = rw (get_or-take 8 w 0 0 (omega arith), get_or-take 8 w 4 0 (omega arith))

shape-unknown : (t : ℕ) → 16 ≤ t → shape t ≡ Shape.Unknown
unfolding shape shapes
shape-unknown t h = get_or-eq_default shapes Shape.Unknown h

type-small : (valued : Bool) (w : List ℕ) → value_forms valued w (shape (get_or w 4 0)) ≡ true → get_or w 4 0 < 16
unfolding value_forms
type-small valued w f =
    by_test (ltb (get_or w 4 0) 16) (λ t. ltb-true (get_or w 4 0) 16 t)
    (λ t. absurd (false≢true (rw (shape-unknown (get_or w 4 0) (ltb-false (get_or w 4 0) 16 t)) at f)))

pub token-small : (first second : List ℕ) (inside : Bool) (w : List ℕ) → row_forms_in first second inside w ≡ true → token_in w < 256
unfolding row_forms_in row_forms attribute_forms token_in
token-small first second inside w f =
    let k : ℕ = get_or w 0 0 in
    let named : Bool = span_in first second (get_or w 1 0) (get_or w 2 0) (get_or w 3 0) in
    let valued : Bool = span_in first second (get_or w 5 0) (get_or w 6 0) (get_or w 7 0) in
    by_test (ltb k 2) (λ a. rw a (omega (arith, ltb-true k 2 a)))
    (λ a. by_test (ltb k 4) (λ b. rw (a, b) (omega (arith, ltb-true k 4 b)))
    (λ b. by_test (leb k 10)
    (λ c. let f₁ : (eqb (get_or w 4 0) 2 && (valued && zeros w 1 3)) ≡ true = rw (a, b, c) at f in
    rw (a, b, eqb-true (get_or w 4 0) 2 (both (eqb (get_or w 4 0) 2) _ f₁).0) (omega (arith, leb-true k 10 c)))
    (λ c. by_test (eqb k 15)
    (λ d. let f₁ : (inside && (named && value_forms valued w (shape (get_or w 4 0)))) ≡ true = rw (a, b, c, d) at f in
    let f₂ = both named _ (both inside _ f₁).1 in
    rw (a, b) (omega (arith, eqb-true k 15 d, type-small valued w f₂.1)))
    (λ d. absurd (false≢true (rw (a, b, c, d) at f))))))

-- ---- a row by where its name stands

module _ (pool : Pool) (r : Row) (o : Option ℕ) (e : o ≡ cond (has_name r.kind) (find pool r.name) none) where
  pub row-bytes : row_bytes pool r ≡ row_by o r
  unfolding row_bytes row_by named_by name_bytes
  row-bytes = by_test (has_name r.kind) (λ t. rw (t, rw t at e)) (λ t. rw t)

  abbrev joined : Bool
  joined = ltb (length pool) (length (keep_row pool r))

  same_length : keep_row pool r ≡ pool → (joined ≡ false) × (length (keep_row pool r) ≡ cond false (length pool + 1) (length pool))
  same_length k = rw k (le-ltb (length pool) (length pool) (omega arith), refl)

  one_more : keep_row pool r ≡ pool ++ (r.name ∷ []) → (joined ≡ true) × (length (keep_row pool r) ≡ cond true (length pool + 1) (length pool))
  one_more k =
      let n = length-append pool (r.name ∷ []) in
      rw k (lt-ltb (length pool) (length (pool ++ (r.name ∷ []))) (omega arith), n)

  row_keeps : has_name r.kind ≡ true → keep_row pool r ≡ keep pool r.name
  unfolding keep_row
  row_keeps h = rw h

  row_stays : has_name r.kind ≡ false → keep_row pool r ≡ pool
  unfolding keep_row
  row_stays h = rw h

  kept_by : (q : Option ℕ) → find pool r.name ≡ q → has_name r.kind ≡ true
      → (joined ≡ joins_by o r (length pool)) × (length (keep_row pool r) ≡ cond (joins_by o r (length pool)) (length pool + 1) (length pool))
  unfolding joins_by
  kept_by (some i) f h =
      let o_is : o ≡ some i = (rw h at e) ∙ f in
      rw o_is (same_length (row_keeps h ∙ keep-there pool r.name i f))
  kept_by none f h =
      let o_is : o ≡ none = (rw h at e) ∙ f in
      by_test (ltb (length pool) most)
      (λ t. rw (o_is, h, t) (one_more (row_keeps h ∙ keep-new pool r.name f (ltb-true (length pool) most t))))
      (λ t. rw (o_is, h, t) (same_length (row_keeps h ∙ keep-full pool r.name (ltb-false (length pool) most t))))

  kept : (joined ≡ joins_by o r (length pool)) × (length (keep_row pool r) ≡ cond (joins_by o r (length pool)) (length pool + 1) (length pool))
  unfolding joins_by
  kept =
      by_test (has_name r.kind) (λ h. kept_by (find pool r.name) refl h)
      (λ h. let o_is : o ≡ none = rw h at e in rw (o_is, h) (same_length (row_stays h)))

  pub row-pairs : (at : ℕ) → row_pairs at pool r ≡ pairs_by o r (length pool) at
  unfolding row_pairs pairs_by
  row-pairs at = rw kept.0

  pub row-names : length (keep_row pool r) ≡ cond (joins_by o r (length pool)) (length pool + 1) (length pool)
  row-names = kept.1

  pub pairs-twice : (at : ℕ) → 2 * length pool + length (pairs_by o r (length pool) at) ≡ 2 * length (keep_row pool r)
  unfolding rows_pairs keep_rows
  pairs-twice at = rw (append-nil (row_pairs at pool r), row-pairs at) at (pairs-count (r ∷ []) at pool)

-- ---- the invariant

module _ (first second output₀ table₀ rows : List ℕ) (kept written : ℕ) (notes : List ℕ) where
  abbrev all : List Row
  all = rows_in first second rows

  abbrev pool₀ : Pool
  pool₀ = found first second output₀ table₀ kept

  abbrev last : Pool
  last = keep_rows pool₀ all

  pub record Writing (row at names : ℕ) (output table : List ℕ) : Type 0 where
    pub pool : Pool
    pub more : Pool
    pub inside : Bool
    pub reaches : row ≤ length rows
    pub aligned : row % 8 ≡ 0
    pub formed : rows_form first second inside ((length rows - row) / 8) (drop row rows) ≡ true
    pub bytes : sets output at (rows_bytes pool (rest first second rows row)) ≡ sets output₀ written (rows_bytes pool₀ all)
    pub pairs : sets table (2 * names) (rows_pairs at pool (rest first second rows row)) ≡ sets table₀ (2 * kept) (rows_pairs written pool₀ all)
    pub place : at + length (rows_bytes pool (rest first second rows row)) ≡ written + length (rows_bytes pool₀ all)
    pub pool-last : keep_rows pool (rest first second rows row) ≡ last
    pub pool-grows : last ≡ pool ++ more
    pub names-are : length pool ≡ names
    pub settled : AllSettled first second last notes (rest first second rows row)
    pub output-length : length output ≡ length output₀
    pub table-length : length table ≡ length table₀

  pub begins : rows_form first second false (length rows / 8) rows ≡ true → AllSettled first second last notes all → Writing 0 written kept output₀ table₀
  begins f s =
      let start : rest first second rows 0 ≡ all = rw sub-zero in
      let grows = rows_grow all pool₀ in
      record {
        pool = pool₀;
        more = grows.0;
        inside = false;
        reaches = omega arith;
        aligned = omega arith;
        formed = rw sub-zero f;
        bytes = ap (λ (x : List Row). sets output₀ written (rows_bytes pool₀ x)) start;
        pairs = ap (λ (x : List Row). sets table₀ (2 * kept) (rows_pairs written pool₀ x)) start;
        place = ap (λ (x : List Row). written + length (rows_bytes pool₀ x)) start;
        pool-last = ap (keep_rows pool₀) start;
        pool-grows = grows.1;
        names-are = pool-count output₀ kept table₀;
        settled = rw start s;
        output-length = refl;
        table-length = refl;
      }

  module _ (row at names : ℕ) (output table heads : List ℕ) (m : Writing row at names output table)
      (ready : Ready first second output₀ table₀ kept written all notes heads) where
    module _ (h : row < length rows) (w : length rows % 8 ≡ 0) where
      abbrev pub this : Row
      this = row_at first second (drop row rows)

      abbrev after : List Row
      after = rest first second rows (row + 8)

      this-first : rest first second rows row ≡ this ∷ after
      this-first = rest_more first second rows w row m.aligned h

      token-fits : token_in (drop row rows) < 256
      token-fits = token-small first second m.inside (drop row rows) (form-more first second rows w row m.aligned m.inside h m.formed).0

      settled_here : has_name this.kind ≡ true → Settled first second (m.pool ++ m.more) notes this.name
      settled_here c = (let s : AllSettled first second last notes (this ∷ after) = rw this-first at m.settled in rw (← m.pool-grows) (s.0 c))

      -- where its name stands
      module _ (o : Option ℕ) (e : o ≡ cond (has_name this.kind) (find m.pool this.name) none) where
        abbrev pool' : Pool
        pool' = keep_row m.pool this

        abbrev size : ℕ
        size = length (row_by o this)

        bytes-split : rows_bytes m.pool (rest first second rows row) ≡ row_by o this ++ rows_bytes pool' after
        unfolding rows_bytes
        bytes-split = ap (rows_bytes m.pool) this-first ∙ ap (λ (x : List ℕ). x ++ rows_bytes pool' after) (row-bytes m.pool this o e)

        pairs-split : rows_pairs at m.pool (rest first second rows row) ≡ pairs_by o this names at ++ rows_pairs (at + size) pool' after
        unfolding rows_pairs
        pairs-split =
            ap (rows_pairs at m.pool) this-first
            ∙ rw (row-pairs m.pool this o e at, row-bytes m.pool this o e, m.names-are)

        pool-split : keep_rows pool' after ≡ last
        unfolding keep_rows
        pool-split = ap (keep_rows m.pool) (sym this-first) ∙ m.pool-last

        length-split : size + length (rows_bytes pool' after) ≡ length (rows_bytes m.pool (rest first second rows row))
        length-split = sym (ap length bytes-split ∙ length-append (row_by o this) (rows_bytes pool' after))

        row_fits : at + size ≤ length output
        row_fits = omega (arith, length-split, m.place, m.output-length, ready.bytes_fit)

        at-fits : at ≤ length output₀
        at-fits = omega (arith, m.place, ready.bytes_fit)

        twice : 2 * names + length (pairs_by o this names at) ≡ 2 * length pool'
        twice = rw m.names-are at (pairs-twice m.pool this o e at)

        pair_fits : 2 * names + length (pairs_by o this names at) ≤ length table
        pair_fits = omega (arith, twice, pairs-count after 0 pool', ap length pool-split, m.table-length, ready.pairs-fit)

        goes_on : (output' table' : List ℕ) (at' names' : ℕ) → output' ≡ sets output at (row_by o this) → at' ≡ at + size
            → table' ≡ sets table (2 * names) (pairs_by o this names at) → names' ≡ cond (joins_by o this names) (names + 1) names
            → Writing (row + 8) at' names' output' table'
        goes_on output' table' at' names' b p t n =
            let forms = form-more first second rows w row m.aligned m.inside h m.formed in
            let count : names' ≡ length pool' = n ∙ sym (rw m.names-are at (row-names m.pool this o e)) in
            let grows = rows_grow after pool' in
            record {
              pool = pool';
              more = grows.0;
              inside = opens (get_or (drop row rows) 0 0);
              reaches = omega (arith, m.aligned);
              aligned = omega (arith, m.aligned);
              formed = forms.1;
              bytes = rw (b, p) (sym (sets-append output at (row_by o this) (rows_bytes pool' after)) ∙ ap (sets output at) (sym bytes-split) ∙ m.bytes);
              pairs =
                  rw (t, p, count, ← twice)
                  (sym (sets-append table (2 * names) (pairs_by o this names at) (rows_pairs (at + size) pool' after)) ∙ ap (sets table (2 * names)) (sym pairs-split) ∙ m.pairs);
              place = omega (arith, length-split, m.place);
              pool-last = pool-split;
              pool-grows = sym pool-split ∙ grows.1;
              names-are = sym count;
              settled = (let s : AllSettled first second last notes (this ∷ after) = rw this-first at m.settled in s.1);
              output-length = ap length b ∙ length-sets output at (row_by o this) ∙ m.output-length;
              table-length = ap length t ∙ length-sets table (2 * names) (pairs_by o this names at) ∙ m.table-length;
            }

      -- the eight words that a turn is given, and what it is told of the name
      module _ (words : List ℕ) (front : words ≡ take 8 (drop row rows)) (known : Code.Option ℕ) (says : KnownSays first second notes heads names (row_at first second words) known) where
        abbrev stands : Option ℕ
        stands = known_of known

        where-it-stands : stands ≡ cond (has_name this.kind) (find m.pool this.name) none
        where-it-stands =
            let at_row : KnownSays first second notes heads names this known = rw (front, row-of-eight first second (drop row rows)) at says in
            at_row (meets_bad output₀ kept table₀) pool₀ m.pool m.more m.names-are (rw m.pool-grows at ready.knows) settled_here

        row-is : row_at first second words ≡ this
        row-is = rw front (row-of-eight first second (drop row rows))

        pub row-asks : (token_in words < 256) × (at + length (row_by stands (row_at first second words)) ≤ length output)
        row-asks = (rw (front, token-of-eight (drop row rows)) token-fits, rw row-is (row_fits stands where-it-stands))

        pub keep-asks : length output₀ ≤ max_store
            → (at ≤ max_store) × (2 * names + length (pairs_by stands (row_at first second words) names at) ≤ length table)
        keep-asks s = (omega (arith, at-fits stands where-it-stands), rw row-is (pair_fits stands where-it-stands))

        pub turns : (output' table' : List ℕ) (at' names' : ℕ) → output' ≡ sets output at (row_by stands (row_at first second words))
            → at' ≡ at + length (row_by stands (row_at first second words)) → table' ≡ sets table (2 * names) (pairs_by stands (row_at first second words) names at)
            → names' ≡ cond (joins_by stands (row_at first second words) names) (names + 1) names → Writing (row + 8) at' names' output' table'
        turns output' table' at' names' b p t n =
            goes_on stands where-it-stands output' table' at' names' (rw row-is at b) (rw row-is at p) (rw row-is at t) (rw row-is at n)

    pub ended : length rows ≤ row → left_of (Ok (record { written = at; names = names })) output table
        ≡ append (record { written = written; names = kept }) (lent_of output₀ table₀) all
    unfolding append rows_bytes rows_pairs keep_rows
    ended h =
        let none_left : rest first second rows row ≡ [] = rest_end first second rows row h in
        let out : output ≡ sets output₀ written (rows_bytes pool₀ all) = ap (λ (x : List Row). sets output at (rows_bytes m.pool x)) (sym none_left) ∙ m.bytes in
        let tab : table ≡ sets table₀ (2 * kept) (rows_pairs written pool₀ all) = ap (λ (x : List Row). sets table (2 * names) (rows_pairs at m.pool x)) (sym none_left) ∙ m.pairs in
        let where_to : at ≡ written + length (rows_bytes pool₀ all) = omega (arith, m.place, ap (λ (x : List Row). length (rows_bytes m.pool x)) none_left) in
        let count : names ≡ length last = sym m.names-are ∙ ap length (ap (keep_rows m.pool) (sym none_left) ∙ m.pool-last) in
        λ i. record { reply = wrote (record { written = where_to i; names = count i }); lent = record { output = out i; table = tab i } }
