-- Which events the writer takes: those that its refusals 16, 14 and 7 leave.
use Rattle.std.specs.Prelude.{true, cond, List, [], ◌∷◌, ◌≡◌, ℕ, ◌≤◌, ◌<◌, length, get_or, ltb, leb, eqb}
use Rattle.utf8.specs.Utf8.{well_formed}
use Rattle.event.specs.Row.{Row, Event, shape}
use Rattle.event.specs.declared.Shape.{Shape}
use Rattle.event.specs.Row as Row
use Rattle.wire.specs.Token as Token
use Rattle.writer_spec.specs.Faults.{longest}

-- a string that can be written
abbrev pub Str : List ℕ → Type 0
Str b = (length b ≤ longest) × (well_formed b ≡ true)

-- what a value of a shape must be to be written
abbrev pub FormedValue : Shape → Row.Value → Type 0
FormedValue Shape.Nothing v = v ≡ Row.nothing
FormedValue Shape.String v = (b : List ℕ) × (v ≡ Row.bytes b) × Str b
FormedValue Shape.Interned v = ⊥
FormedValue Shape.Blob v = (b : List ℕ) × (v ≡ Row.bytes b) × (length b ≤ longest)
FormedValue Shape.Word v = (w : ℕ) × (v ≡ Row.word w) × (w < 4294967296)
FormedValue Shape.Pair v = (h : ℕ) × (l : ℕ) × (v ≡ Row.pair h l) × (h < 4294967296) × (l < 4294967296)
FormedValue Shape.Unknown v = ⊥

-- an attribute that can be written
pub record FormedAttribute (r : Row) : Type 0 where
  pub its-kind : r.kind ≡ Token.attribute
  pub its-name : Str r.name
  pub its-value : FormedValue (shape r.type) r.value

abbrev pub FormedAttributes : List Row → Type 0
FormedAttributes [] = Unit {0}
FormedAttributes (r ∷ rs) = FormedAttribute r × FormedAttributes rs

-- an event's own row that can be written
abbrev pub FormedFirst : Row → Type 0
FormedFirst r =
    cond (ltb r.kind Token.start_tag) ((r.name ≡ []) × (r.type ≡ 0) × (r.value ≡ Row.nothing))
    (cond (ltb r.kind Token.text) (Str r.name × (r.type ≡ 0) × (r.value ≡ Row.nothing))
    (cond (leb r.kind Token.doc_decl) ((r.name ≡ []) × (r.type ≡ Token.string) × ((b : List ℕ) × (r.value ≡ Row.bytes b) × Str b)) ⊥))

-- an event that can be written: its own row and, of a start tag, attributes
abbrev pub FormedEvent : Event → Type 0
FormedEvent [] = ⊥
FormedEvent (r ∷ rs) = FormedFirst r × cond (eqb r.kind Token.start_tag) (FormedAttributes rs) (rs ≡ [])

abbrev pub FormedEvents : List Event → Type 0
FormedEvents [] = Unit {0}
FormedEvents (e ∷ es) = FormedEvent e × FormedEvents es

-- the words are u32
abbrev pub Words32 : List ℕ → Type 0
Words32 w = (i : ℕ) → get_or w i 0 < 4294967296
