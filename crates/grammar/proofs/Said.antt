-- The words of an event's rows say the grammar's rows.
use Rattle.std.specs.Prelude.{cond, ◌≡◌, get_or, drop, leb}
use Rattle.std.proofs.Math.Option.{Option, none, some}
use mathlib.Core.List.{List, [], ◌∷◌, ◌++◌, append_assoc}
use Rattle.std.proofs.Math.Path.{refl, ap}
use Rattle.std.proofs.Common.{sym, ◌∙◌, arith, le-leb, length-append, take-append-drop}
use Prim.Native.Nat.{ℕ, ◌+◌, ◌*◌, ◌-◌, ◌≤◌, ◌<◌}
use Rattle.std.proofs.Math.ListN.{length, take, get_or-append}
use Rattle.std.proofs.Math.Seq.{slice, length-slice, drop-drop, length-take-le}
use Rattle.event.specs.Span.{part, span}
use Rattle.event.specs.Row as Row
use Rattle.event.specs.Row.{shape, value_at, row_at, rows_at}
use Rattle.event.specs.declared.Shape.{Shape}
use Rattle.grammar.specs.Grammar.{Span, Ref, new, known, Value, Item, Items, item, whole, lacks, stops, after}
use Rattle.grammar.specs.Document.{Pool, bytes_at, ref_bytes, name_bytes, value_of, type_of, row_of, rows_of, pool_of}
use Rattle.grammar.specs.Document as D
use Rattle.grammar.specs.Scan.{adds_name, adds_value, adds, count, span_words, ref_words, name_words, value_words, item_words, words}
use Rattle.grammar.proofs.Choice.{cond-by}
use Rattle.grammar.specs.Fits.{named, In, RefFits, NameFits, ValueFits, ItemFits, Nothing, Bytes}
use Rattle.grammar.proofs.Laws.{Agree, part-append}
use Rattle.grammar.proofs.Steps.{keep_item-length, keep_name-length}
use Rattle.grammar.proofs.Added.{these, keep_name-adds, keep_value-adds, pool-adds}

-- a name and a value have three words each
abbrev pub three : List ℕ → List ℕ
three ws = get_or ws 0 0 ∷ get_or ws 1 0 ∷ get_or ws 2 0 ∷ []

ref_words-three : (k base : ℕ) (table : List ℕ) (r : Ref) → ref_words k base table r ≡ three (ref_words k base table r)
unfolding ref_words span_words
ref_words-three k base table (new t) = refl
ref_words-three k base table (known i) = refl

name_words-three : (k base : ℕ) (table : List ℕ) (o : Option Ref) → name_words k base table o ≡ three (name_words k base table o)
unfolding name_words
name_words-three k base table none = refl
name_words-three k base table (some r) = ref_words-three k base table r

value_words-three : (k base : ℕ) (table : List ℕ) (v : Value) → value_words k base table v ≡ three (value_words k base table v)
unfolding value_words span_words
value_words-three k base table Value.nothing = refl
value_words-three k base table Value.empty = refl
value_words-three k base table (Value.span t) = refl
value_words-three k base table (Value.interned r) = ref_words-three k base table r
value_words-three k base table (Value.word w) = refl
value_words-three k base table (Value.pair a b) = refl

-- eight words a row
pub item-length : (k base : ℕ) (table : List ℕ) (i : Item) → length (item_words k base table i) ≡ 8
unfolding item_words
item-length k base table i = rw (name_words-three k base table i.name, value_words-three k base table i.value)

pub words-length : (k base : ℕ) (table : List ℕ) (is : Items) → length (words k base table is) ≡ 8 * count is
unfolding words count
words-length k base table (item i is) =
    omega (arith, length-append (item_words k base table i) (words k base table is), item-length k base table i, words-length k base table is)
words-length k base table (whole n d) = refl
words-length k base table (lacks n) = refl
words-length k base table (stops n d) = refl

-- three words name these bytes
abbrev pub Looks : List ℕ → List ℕ → List ℕ → List ℕ → Type 0
Looks w store ws b = span w store (get_or ws 0 0) (get_or ws 1 0) (get_or ws 2 0) ≡ b

bytes-say : (w store : List ℕ) (h : Shape) (x y z : ℕ) → Bytes h → value_at w store x y z h ≡ Row.bytes (span w store x y z)
unfolding value_at
bytes-say w store Shape.Nothing x y z f = absurd f
bytes-say w store Shape.String x y z f = refl
bytes-say w store Shape.Interned x y z f = absurd f
bytes-say w store Shape.Blob x y z f = refl
bytes-say w store Shape.Word x y z f = absurd f
bytes-say w store Shape.Pair x y z f = absurd f
bytes-say w store Shape.Unknown x y z f = absurd f

nothing-says : (w store : List ℕ) (h : Shape) (x y z : ℕ) → Nothing h → value_at w store x y z h ≡ Row.nothing
unfolding value_at
nothing-says w store Shape.Nothing x y z f = refl
nothing-says w store Shape.String x y z f = absurd f
nothing-says w store Shape.Interned x y z f = absurd f
nothing-says w store Shape.Blob x y z f = absurd f
nothing-says w store Shape.Word x y z f = absurd f
nothing-says w store Shape.Pair x y z f = absurd f
nothing-says w store Shape.Unknown x y z f = refl

empty-looks : (w store : List ℕ) → span w store 0 0 0 ≡ []
unfolding span part
empty-looks w store = cond-by (λ x. x ≡ []) (leb 0 (length w)) [] [] (λ _. refl) (λ _. refl)

-- each entry of a pool is the bytes that its pair in the table names
abbrev pub Finds : ℕ → List ℕ → List ℕ → List ℕ → Pool → Type 0
Finds pooled w store table pool = (i : ℕ) → i < length pool → Looks w store (pooled ∷ get_or table (2 * i) 0 ∷ get_or table (2 * i + 1) 0 ∷ []) (get_or pool i [])

-- `w` is the store of new bytes, of which the event's input is the part from `from` to `end`; `last` is the pool after the event
module _ (pooled : ℕ) (w store table : List ℕ) (from end : ℕ) (fe : from ≤ end) (ew : end ≤ length w) (last : Pool) (finds : Finds pooled w store table last) where
  abbrev s : List ℕ
  s = slice from end w

  new-looks : (t : Span) → In (length s) t → Looks w store (0 ∷ (from + t.start) ∷ t.len ∷ []) (bytes_at s t)
  unfolding span part bytes_at
  new-looks t h =
      let l : length s ≡ end - from = length-slice from end w ew in
      let m : length (take end w) ≡ end = length-take-le end w ew in
      rw (le-leb (from + t.start + t.len) (length w) (omega arith), drop-drop t.start from (take end w))
      (ap (λ (x : List ℕ). take t.len (drop (from + t.start) x)) (sym (take-append-drop end w))
      ∙ part-append (take end w) (drop end w) t.len (from + t.start) (omega arith))

  known-looks : (pool more : Pool) (i : ℕ) → last ≡ pool ++ more → i < length pool
      → Looks w store (pooled ∷ get_or table (2 * i) 0 ∷ get_or table (2 * i + 1) 0 ∷ []) (get_or pool i [])
  known-looks pool more i e h = finds i (rw (e, length-append) (omega arith)) ∙ rw e (get_or-append pool more [] i h)

  module _ (pool more : Pool) (e : last ≡ pool ++ more) where
    ref-looks : (r : Ref) → RefFits (length s) (length pool) r → Looks w store (ref_words pooled from table r) (ref_bytes s pool r)
    unfolding ref_words span_words ref_bytes
    ref-looks (new t) f = new-looks t f
    ref-looks (known i) f = known-looks pool more i e f

    value-says : (h : Shape) (v : Value) → ValueFits (length s) (length pool) h v
        → value_at w store (get_or (value_words pooled from table v) 0 0) (get_or (value_words pooled from table v) 1 0) (get_or (value_words pooled from table v) 2 0) h ≡ value_of s pool v
    unfolding value_words span_words value_of value_at
    value-says h Value.nothing f = nothing-says w store h 0 0 0 f
    value-says h Value.empty f = bytes-say w store h _ _ _ f ∙ ap Row.bytes (empty-looks w store)
    value-says h (Value.span t) f = bytes-say w store h _ _ _ f.1 ∙ ap Row.bytes (new-looks t f.0)
    value-says h (Value.interned r) f = bytes-say w store h _ _ _ f.1 ∙ ap Row.bytes (ref-looks r f.0)
    value-says h (Value.word x) f = rw f
    value-says h (Value.pair a b) f = rw f

    name-says : (o : Option Ref) → NameFits (length s) (length pool) o
        → cond (named o) (span w store (get_or (name_words pooled from table o) 0 0) (get_or (name_words pooled from table o) 1 0) (get_or (name_words pooled from table o) 2 0)) [] ≡ name_bytes s pool o
    unfolding name_words name_bytes
    name-says none f = refl
    name-says (some r) f = ref-looks r f

  keep_item-by : (pool : Pool) (i : Item) → D.keep_item s pool i ≡ D.keep_name s pool i.name ++ these s (adds_value (length (D.keep_name s pool i.name)) i.value)
  unfolding D.keep_item
  keep_item-by pool i = keep_value-adds s (D.keep_name s pool i.name) i.value

  -- the words of a row, and any after them, say the row
  row-says : (pool more : Pool) (i : Item) (rest : List ℕ) → last ≡ D.keep_item s pool i ++ more → ItemFits (length s) (length pool) i
      → row_at w store (item_words pooled from table i ++ rest) ≡ row_of s pool i
  unfolding row_at item_words row_of
  row-says pool more i rest e f =
      let mid : Pool = D.keep_name s pool i.name in
      let v : Pool = these s (adds_value (length mid) i.value) in
      let e₁ : last ≡ mid ++ (v ++ more) = e ∙ rw (keep_item-by pool i, append_assoc) in
      let e₂ : last ≡ pool ++ (these s (adds_name (length pool) i.name) ++ (v ++ more)) = e₁ ∙ rw (keep_name-adds s pool i.name, append_assoc) in
      let fits : ValueFits (length s) (length mid) (shape (type_of i.type)) i.value = rw (keep_name-length s pool i.name) f.value-fits in
      rw (
        name_words-three pooled from table i.name,
        value_words-three pooled from table i.value,
        f.name-kind,
        name-says pool _ e₂ i.name f.name-fits,
        value-says mid _ e₁ (shape (type_of i.type)) i.value fits,
      )

  next-words : (i : Item) (rest : List ℕ) → drop 8 (item_words pooled from table i ++ rest) ≡ rest
  unfolding item_words
  next-words i rest = rw (name_words-three pooled from table i.name, value_words-three pooled from table i.value)

  -- the words of an event, and any after them, say its rows
  pub rows-say : (t : List ℕ) (lo k : ℕ) (pool : Pool) (is y : Items) (rest : List ℕ) → k ≡ length pool → last ≡ pool_of s pool is → Agree s t k lo is y
      → rows_at w store (count is) (words pooled from table is ++ rest) ≡ rows_of s pool is
  unfolding rows_at count words rows_of pool_of
  rows-say t lo k pool (item i is) y rest c e a =
      let onward : List ℕ = words pooled from table is ++ rest in
      let f : ItemFits (length s) (length pool) i = rw (← c) a.0 in
      rw (
        append_assoc (item_words pooled from table i) (words pooled from table is) rest,
        row-says pool (these s (adds (length (D.keep_item s pool i)) is)) i onward (e ∙ pool-adds s (D.keep_item s pool i) is) f,
        next-words i onward,
        rows-say t lo (after k i) (D.keep_item s pool i) is a.1.0 rest (rw (keep_item-length s pool i, c)) e a.1.2,
      )
  rows-say t lo k pool (whole n d) y rest c e a = refl
  rows-say t lo k pool (lacks n) y rest c e a = refl
  rows-say t lo k pool (stops n d) y rest c e a = refl
