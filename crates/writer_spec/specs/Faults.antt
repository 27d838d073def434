-- Which strings the writer refuses (14, then 7), and how rows make events.
use Rattle.std.specs.Prelude.{cond, List, [], ◌∷◌, ℕ, length, ltb, eqb}
use Rattle.std.proofs.Math.Option.{Option, none, some}
use Rattle.wire.specs.Refusal.{value_too_long, invalid_utf8}
use Rattle.wire.specs.Limits.{max_unsigned_short}
use Rattle.wire.specs.Token as Token
use Rattle.utf8.specs.Utf8.{well_formed}
use Rattle.event.specs.Row as Row
use Rattle.event.specs.Row.{Row, Event, shape, has_name}
use Rattle.event.specs.declared.Shape.{Shape}

-- ---- 14 and 7

-- the longest string or blob: its length is a u16
abbrev pub longest : ℕ
longest = max_unsigned_short

-- what is wrong with a blob, and with a string: a number and a detail
unfoldable pub blob_fault : List ℕ → Option (ℕ × ℕ)
blob_fault b = cond (ltb longest (length b)) (some (value_too_long, length b)) none

unfoldable pub string_fault : List ℕ → Option (ℕ × ℕ)
string_fault b = cond (ltb longest (length b)) (some (value_too_long, length b)) (cond (well_formed b) none (some (invalid_utf8, 0)))

abbrev pub first_fault : Option (ℕ × ℕ) → Option (ℕ × ℕ) → Option (ℕ × ℕ)
first_fault (some f) g = some f
first_fault none g = g

unfoldable pub value_fault : Shape → Row.Value → Option (ℕ × ℕ)
value_fault h Row.nothing = none
value_fault Shape.Blob (Row.bytes b) = blob_fault b
value_fault Shape.Nothing (Row.bytes b) = string_fault b
value_fault Shape.String (Row.bytes b) = string_fault b
value_fault Shape.Interned (Row.bytes b) = string_fault b
value_fault Shape.Word (Row.bytes b) = string_fault b
value_fault Shape.Pair (Row.bytes b) = string_fault b
value_fault Shape.Unknown (Row.bytes b) = string_fault b
value_fault h (Row.word w) = none
value_fault h (Row.pair a b) = none

-- a row's strings in order: its name, then its value
unfoldable pub row_fault : Row → Option (ℕ × ℕ)
row_fault r = first_fault (cond (has_name r.kind) (string_fault r.name) none) (value_fault (shape r.type) r.value)

unfoldable pub rows_fault : List Row → Option (ℕ × ℕ)
rows_fault [] = none
rows_fault (r ∷ rs) = first_fault (row_fault r) (rows_fault rs)

-- ---- events

-- a row before the events that follow: it takes what follows as its attributes, where that begins with one
unfoldable pub glue : Row → List Event → List Event
glue r [] = (r ∷ []) ∷ []
glue r ([] ∷ es) = (r ∷ []) ∷ es
glue r ((q ∷ qs) ∷ es) = cond (eqb q.kind Token.attribute) ((r ∷ q ∷ qs) ∷ es) ((r ∷ []) ∷ (q ∷ qs) ∷ es)

unfoldable pub group : List Row → List Event
group [] = []
group (r ∷ rs) = glue r (group rs)
