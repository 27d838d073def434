-- What a reader makes of an event's rows: the names to keep, the words of the rows, and whether the event is complete.
-- The slice reader and the chunk reader share these.
use Rattle.std.specs.Prelude.{Bool, true, not, ◌&&◌, cond, List, [], ◌∷◌, ◌++◌, ℕ, suc, ◌+◌, ◌*◌, length, get_or, ltb, leb}
use Rattle.std.proofs.Math.Option.{Option, none, some}
use Rattle.grammar.specs.Grammar.{Span, Ref, new, known, Value, Item, Items, item, whole, lacks, stops, most, counted_name, after}
use Rattle.grammar.specs.Document.{bytes_at, type_of}

-- ---- the pool table's entries

-- entry i lies in a store of so many bytes; a name that is new in the event itself has no pair in the table yet
unfoldable pub sound : ℕ → List ℕ → ℕ → ℕ → Bool
sound names table stored i = cond (ltb i names) (leb (get_or table (2 * i) 0 + get_or table (2 * i + 1) 0) stored) true

-- ---- the new names that join a pool of `names` entries

unfoldable pub adds_ref : ℕ → Ref → List Span
adds_ref names (new t) = cond (ltb names most) (t ∷ []) []
adds_ref names (known i) = []

unfoldable pub adds_name : ℕ → Option Ref → List Span
adds_name names none = []
adds_name names (some r) = adds_ref names r

unfoldable pub adds_value : ℕ → Value → List Span
adds_value names Value.nothing = []
adds_value names Value.empty = []
adds_value names (Value.span t) = []
adds_value names (Value.interned r) = adds_ref names r
adds_value names (Value.word w) = []
adds_value names (Value.pair h l) = []

unfoldable pub adds_item : ℕ → Item → List Span
adds_item names i = adds_name names i.name ++ adds_value (counted_name names i.name) i.value

-- those of an event
unfoldable pub adds : ℕ → Items → List Span
adds names (item i is) = adds_item names i ++ adds (after names i) is
adds names (whole n e) = []
adds names (lacks k) = []
adds names (stops n d) = []

-- the bytes of spans, counted
unfoldable pub lengths : List Span → ℕ
lengths [] = 0
lengths (t ∷ ts) = t.len + lengths ts

-- the pairs of new names that stay where they are; `base` is where the event starts in their store
unfoldable pub pairs : ℕ → List Span → List ℕ
pairs base [] = []
pairs base (t ∷ ts) = (base + t.start) ∷ t.len ∷ pairs base ts

-- the pairs of new names whose bytes are copied to a store, one after another from a place on
unfoldable pub copied_pairs : ℕ → List Span → List ℕ
copied_pairs at [] = []
copied_pairs at (t ∷ ts) = at ∷ t.len ∷ copied_pairs (at + t.len) ts

-- these bytes
unfoldable pub joined : List ℕ → List Span → List ℕ
joined s [] = []
joined s (t ∷ ts) = bytes_at s t ++ joined s ts

-- ---- rows as words

-- how many rows
unfoldable pub count : Items → ℕ
count (item i is) = suc (count is)
count (whole n e) = 0
count (lacks k) = 0
count (stops n d) = 0

-- new bytes have source 0, and `base` is where the event starts in their store; a name by index has the source `pooled`,
-- and its start and length are its pair in the table, as the event leaves it
module _ (pooled base : ℕ) (table : List ℕ) where
  unfoldable pub span_words : Span → List ℕ
  span_words t = 0 ∷ (base + t.start) ∷ t.len ∷ []

  unfoldable pub ref_words : Ref → List ℕ
  ref_words (new t) = span_words t
  ref_words (known i) = pooled ∷ get_or table (2 * i) 0 ∷ get_or table (2 * i + 1) 0 ∷ []

  unfoldable pub name_words : Option Ref → List ℕ
  name_words none = 0 ∷ 0 ∷ 0 ∷ []
  name_words (some r) = ref_words r

  unfoldable pub value_words : Value → List ℕ
  value_words Value.nothing = 0 ∷ 0 ∷ 0 ∷ []
  value_words Value.empty = 0 ∷ 0 ∷ 0 ∷ []
  value_words (Value.span t) = span_words t
  value_words (Value.interned r) = ref_words r
  value_words (Value.word w) = 0 ∷ 0 ∷ w ∷ []
  value_words (Value.pair h l) = 0 ∷ h ∷ l ∷ []

  -- kind, name source, name start, name length, type, value source, a, b
  unfoldable pub item_words : Item → List ℕ
  item_words i = i.kind ∷ (name_words i.name ++ (type_of i.type ∷ value_words i.value))

  unfoldable pub words : Items → List ℕ
  words (item i is) = item_words i ++ words is
  words (whole n e) = []
  words (lacks k) = []
  words (stops n d) = []

-- ---- complete or not

-- an event of this length, or more bytes are needed, or a refusal
pub data Outcome : Type 0 where
  complete : ℕ → Outcome
  incomplete : Outcome
  bad : ℕ → ℕ → Outcome

-- `finished` says that no more bytes will come: until then a start tag that ends where the input ends is incomplete too
unfoldable pub outcome : Bool → Items → Outcome
outcome finished (item i is) = outcome finished is
outcome finished (whole n edge) = cond (edge && not finished) incomplete (complete n)
outcome finished (lacks k) = cond finished (bad k 0) incomplete
outcome finished (stops n d) = bad n d

-- ---- what the first pass over an event measures

-- the rows that were read, the names that join the pool and their bytes, and whether the event is complete
pub record Measure : Type 0 where
  pub rows : ℕ
  pub added : ℕ
  pub bytes : ℕ
  pub result : Outcome

unfoldable pub measure : Bool → ℕ → Items → Measure
measure finished names is = record { rows = count is; added = length (adds names is); bytes = lengths (adds names is); result = outcome finished is }
