-- What fits an input and a pool: spans, names, values, rows.
use Rattle.std.specs.Prelude.{Bool, true, false, ◌≡◌, ℕ, ◌+◌, ◌≤◌, ◌<◌}
use Rattle.std.proofs.Math.Option.{Option, none, some}
use Rattle.event.specs.Row.{shape, has_name}
use Rattle.event.specs.declared.Shape.{Shape}
use Rattle.grammar.specs.Grammar.{Span, Ref, new, known, Value, Item, counted_name}
use Rattle.grammar.specs.Document.{type_of}

-- a span lies in an input of this length
abbrev pub In : ℕ → Span → Type 0
In l t = t.start + t.len ≤ l

-- a name fits an input of length l and a pool of so many entries
abbrev pub RefFits : ℕ → ℕ → Ref → Type 0
RefFits l names (new t) = In l t
RefFits l names (known i) = i < names

abbrev pub NameFits : ℕ → ℕ → Option Ref → Type 0
NameFits l names none = Unit {0}
NameFits l names (some r) = RefFits l names r

-- which shapes carry nothing, and which the bytes of a span
abbrev pub Nothing : Shape → Type 0
Nothing Shape.Nothing = Unit {0}
Nothing Shape.String = ⊥
Nothing Shape.Interned = ⊥
Nothing Shape.Blob = ⊥
Nothing Shape.Word = ⊥
Nothing Shape.Pair = ⊥
Nothing Shape.Unknown = Unit {0}

abbrev pub Bytes : Shape → Type 0
Bytes Shape.Nothing = ⊥
Bytes Shape.String = Unit {0}
Bytes Shape.Interned = ⊥
Bytes Shape.Blob = Unit {0}
Bytes Shape.Word = ⊥
Bytes Shape.Pair = ⊥
Bytes Shape.Unknown = ⊥

-- a value fits an input, a pool and the shape of its row's type
abbrev pub ValueFits : ℕ → ℕ → Shape → Value → Type 0
ValueFits l names h Value.nothing = Nothing h
ValueFits l names h Value.empty = Bytes h
ValueFits l names h (Value.span t) = In l t × Bytes h
ValueFits l names h (Value.interned r) = RefFits l names r × Bytes h
ValueFits l names h (Value.word w) = h ≡ Shape.Word
ValueFits l names h (Value.pair a b) = h ≡ Shape.Pair

abbrev pub named : Option Ref → Bool
named none = false
named (some r) = true

-- a row on the wire fits an input of length l and a pool of so many entries
pub record ItemFits (l names : ℕ) (i : Item) : Type 0 where
  pub name-fits : NameFits l names i.name
  pub name-kind : has_name i.kind ≡ named i.name
  pub value-fits : ValueFits l (counted_name names i.name) (shape (type_of i.type)) i.value
