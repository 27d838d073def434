-- What the quick way promises where it does not decline.
use Rattle.std.specs.Prelude.{Bool, Option, MatchOption, List, [], ◌∷◌, ◌≡◌, ℕ, zero, suc, ◌+◌, ◌*◌, ◌/◌, ◌≤◌, ◌<◌, length, get_or}
use Rattle.std.proofs.lemmas.List.Edits.{sets}
use Rattle.wire.specs.Header.{u32_at}
use Rattle.event.specs.Row.{shapes}
use Rattle.event.specs.declared.Shape.{Shape}
use Rattle.grammar.specs.Reader.{Reader, got}
use Rattle.grammar.specs.Grammar.{Span, known, Value, Item, Items, counted_value, after, name, value, attribute, attributes_f, event}
use Rattle.grammar.specs.Scan.{sound, adds_value, adds_item, adds, count, value_words, item_words, words, outcome, complete}
use Rattle.quick.specs.declared.pool.Pool.{Pool}
use Rattle.quick.specs.declared.Flat.{Flat}
use Rattle.quick.specs.declared.Taken.{Taken}

-- the pool's entries that are sound; the attributes from a place on, and the event
abbrev pub sound_of : Pool → ℕ → Bool
sound_of pool = sound pool.names pool.table.now pool.stored

abbrev pub attributes_of : Pool → List ℕ → ℕ → Items
attributes_of pool s at = attributes_f (sound_of pool) (length s) pool.names s at

abbrev pub event_of : Pool → List ℕ → Items
event_of pool s = event (sound_of pool) pool.names s

abbrev pub words_of : Flat → List ℕ
words_of f = f.source ∷ f.a ∷ f.b ∷ []

-- a name by index, and its words
pub record KnownName (sound : ℕ → Bool) (names : ℕ) (s : List ℕ) (at source : ℕ) (table : List ℕ) (f : Flat) : Type 0 where
  pub index : ℕ
  pub is : name sound names s at ≡ got (known index) (at + 2)
  pub said : words_of f ≡ source ∷ get_or table (2 * index) 0 ∷ get_or table (2 * index + 1) 0 ∷ []

-- a span by this reader, its words, and the place after it
pub record ReadSpan (reader : Reader Span) (s : List ℕ) (at base : ℕ) (f : Flat) (next : ℕ) : Type 0 where
  pub span : Span
  pub is : reader s at ≡ got span next
  pub said : words_of f ≡ 0 ∷ (base + span.start) ∷ span.len ∷ []

-- how many words a number of this shape has; 3: it is no number
unfoldable pub count_of : Shape → ℕ
count_of Shape.Nothing = 0
count_of Shape.String = 3
count_of Shape.Interned = 3
count_of Shape.Blob = 3
count_of Shape.Word = 1
count_of Shape.Pair = 2
count_of Shape.Unknown = 3

unfoldable pub counts_of : List Shape → List ℕ
counts_of [] = []
counts_of (h ∷ hs) = count_of h ∷ counts_of hs

-- from type 0 to type 15
unfoldable pub word_counts : List ℕ
word_counts = counts_of shapes

-- a number of so many words
unfoldable pub numbered : ℕ → ℕ → ℕ → Value
numbered zero high low = Value.nothing
numbered (suc zero) high low = Value.word high
numbered (suc (suc n)) high low = Value.pair high low

pub record ReadNumber (count : ℕ) (s : List ℕ) (at : ℕ) (f : Flat) : Type 0 where
  pub said : (source base : ℕ) (table : List ℕ) → words_of f ≡ value_words source base table (numbered count (u32_at s at) (u32_at s (at + 4)))

-- a value that needs no new name, its words, and the place after it
pub record ReadValue (sound : ℕ → Bool) (names type : ℕ) (s : List ℕ) (at source base : ℕ) (table : List ℕ) (f : Flat) (next : ℕ) : Type 0 where
  pub it : Value
  pub is : value sound names type s at ≡ got it next
  pub said : words_of f ≡ value_words source base table it
  pub none-new : adds_value names it ≡ []
  pub same_names : counted_value names it ≡ names

-- an attribute that needs no new name, and its words from a place on
pub record ReadAttribute (sound : ℕ → Bool) (names : ℕ) (s : List ℕ) (at source base : ℕ) (table ws ws' : List ℕ) (to next : ℕ) : Type 0 where
  pub it : Item
  pub is : attribute sound names s at ≡ got it next
  pub stored : ws' ≡ sets ws to (item_words source base table it)
  pub none-new : adds_item names it ≡ []
  pub same_names : after names it ≡ names

-- the rows of a start tag after its own: complete, whether more bytes come or not, with no new name, and their words stored
pub record ReadRest (is : Items) (names source base : ℕ) (table ws ws' : List ℕ) (t : Taken) : Type 0 where
  pub long : 0 < t.len
  pub ends : (finished : Bool) → outcome finished is ≡ complete t.len
  pub counted : 1 + count is ≡ t.rows
  pub few : t.rows ≤ 10
  pub none-new : adds names is ≡ []
  pub stored : ws' ≡ sets ws 8 (words source base table is)

-- the rows of an event
pub record ReadEvent (is : Items) (names source base : ℕ) (table ws ws' : List ℕ) (t : Taken) : Type 0 where
  pub long : 0 < t.len
  pub ends : (finished : Bool) → outcome finished is ≡ complete t.len
  pub counted : count is ≡ t.rows
  pub some-rows : 0 < t.rows
  pub few : t.rows ≤ 10
  pub none-new : adds names is ≡ []
  pub stored : ws' ≡ sets ws 0 (words source base table is)

-- an event that is complete, whether more bytes come or not, with no new name, and its rows written
pub record Reads (is : Items) (names source base : ℕ) (table rows rows' : List ℕ) (t : Taken) : Type 0 where
  pub long : 0 < t.len
  pub ends : (finished : Bool) → outcome finished is ≡ complete t.len
  pub counted : count is ≡ t.rows
  pub fits : t.rows ≤ length rows / 8
  pub none-new : adds names is ≡ []
  pub written : rows' ≡ sets rows 0 (words source base table is)

-- nothing was written, or such an event was read
abbrev pub Quickly : Items → ℕ → ℕ → ℕ → List ℕ → List ℕ → List ℕ → Option Taken → Type 0
Quickly is names source base table rows rows' t = MatchOption t (rows' ≡ rows) (λ u. Reads is names source base table rows rows' u)
