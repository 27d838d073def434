-- The grammar of one event: document 01, "Grammar". `s` is the input from the event's first byte on, and every place is
-- counted from there, so what is read depends on the bytes alone.
use Rattle.std.specs.Prelude.{Bool, true, false, cond, List, ℕ, zero, suc, ◌+◌, ◌*◌, ◌-◌, length, get_or, take, drop, ltb, leb, eqb}
use Rattle.std.proofs.Math.Option.{Option, none, some}
use Rattle.wire.specs.Header.{u32_at}
use Rattle.wire.specs.Refusal.{unexpected_eof, string_short, bytes_short, bad_interned_index, invalid_utf8, unknown_attribute_type, unknown_command, bad_state}
use Rattle.wire.specs.Token.{command, interned_new}
use Rattle.wire.specs.Token as Token
use Rattle.utf8.specs.Utf8.{well_formed}
use Rattle.event.specs.Row.{shape}
use Rattle.event.specs.declared.Shape.{Shape}
use Rattle.grammar.specs.Reader.{Read, Reader, got, short, refused, ◌>>=◌, give, refuse}

-- a part of the input
pub record Span : Type 0 where
  pub start : ℕ
  pub len : ℕ

-- a name or an interned string: new bytes of the input, or an entry of the pool
pub data Ref : Type 0 where
  new : Span → Ref
  known : ℕ → Ref

-- a row's value on the wire; `empty` is a text that carries no string
pub data Value : Type 0 where
  nothing empty : Value
  span : Span → Value
  interned : Ref → Value
  word : ℕ → Value
  pair : ℕ → ℕ → Value

-- a row on the wire
pub record Item : Type 0 where
  pub kind : ℕ
  pub name : Option Ref
  pub type : ℕ
  pub value : Value

-- ---- fields

unfoldable pub byte : Reader ℕ
byte s at = cond (ltb (length s - at) 1) (short unexpected_eof) (got (get_or s at 0) (at + 1))

unfoldable pub u16 : Reader ℕ
u16 s at = cond (ltb (length s - at) 2) (short unexpected_eof) (got (get_or s at 0 * 256 + get_or s (at + 1) 0) (at + 2))

unfoldable pub u32 : Reader ℕ
u32 s at = cond (ltb (length s - at) 4) (short unexpected_eof) (got (u32_at s at) (at + 4))

-- high bits, then low
unfoldable pub u64 : Reader (ℕ × ℕ)
u64 s at = cond (ltb (length s - at) 8) (short unexpected_eof) (got (u32_at s at, u32_at s (at + 4)) (at + 8))

-- so many bytes of a blob
unfoldable pub raw : ℕ → Reader Span
raw n s at = cond (ltb (length s - at) n) (short bytes_short) (got (record { start = at; len = n }) (at + n))

-- so many bytes of a string
unfoldable pub utf8 : ℕ → Reader Span
utf8 n s at =
    cond (ltb (length s - at) n) (short string_short)
    (cond (well_formed (take n (drop at s))) (got (record { start = at; len = n }) (at + n)) (refused invalid_utf8 0))

unfoldable pub blob : Reader Span
blob = do
  n ← u16
  raw n

unfoldable pub string : Reader Span
string = do
  n ← u16
  utf8 n

-- ---- the pool's count

-- the largest pool: one entry more would have the index that means a new name
unfoldable pub most : ℕ
most = interned_new

-- after a name: a new one joins while there is room
unfoldable pub counted : ℕ → Ref → ℕ
counted names (new t) = cond (ltb names most) (names + 1) names
counted names (known i) = names

-- after the name that a row may have, after its value, and after both
unfoldable pub counted_name : ℕ → Option Ref → ℕ
counted_name names none = names
counted_name names (some r) = counted names r

unfoldable pub counted_value : ℕ → Value → ℕ
counted_value names nothing = names
counted_value names empty = names
counted_value names (span t) = names
counted_value names (interned r) = counted names r
counted_value names (word w) = names
counted_value names (pair h l) = names

unfoldable pub after : ℕ → Item → ℕ
after names i = counted_value (counted_name names i.name) i.value

-- the rows of an event, and how its reading ended: whole, with the place after it and, of a start tag, whether
-- the input ends there too, so that an attribute might still follow; or short; or refused
pub data Items : Type 0 where
  item : Item → Items → Items
  whole : ℕ → Bool → Items
  lacks : ℕ → Items
  stops : ℕ → ℕ → Items

abbrev pub then_items : Read Item → (Item → ℕ → Items) → Items
then_items (got i n) k = item i (k i n)
then_items (short n) k = lacks n
then_items (refused n d) k = stops n d

-- ---- names, over a pool of `names` entries; `sound i` says that entry i's span lies in its store

module _ (sound : ℕ → Bool) where
  unfoldable pub name : ℕ → Reader Ref
  name names = do
    i ← u16
    cond (eqb i interned_new)
        (do
          t ← string
          give (new t))
        (cond (ltb i names) (cond (sound i) (give (known i)) (refuse bad_state 0)) (refuse bad_interned_index i))

  unfoldable pub shaped : ℕ → ℕ → Shape → Reader Value
  shaped names type Shape.Nothing = give nothing
  shaped names type Shape.String = do
    t ← string
    give (span t)
  shaped names type Shape.Interned = do
    r ← name names
    give (interned r)
  shaped names type Shape.Blob = do
    t ← blob
    give (span t)
  shaped names type Shape.Word = do
    w ← u32
    give (word w)
  shaped names type Shape.Pair = do
    w ← u64
    give (pair w.0 w.1)
  shaped names type Shape.Unknown = refuse unknown_attribute_type (type * 16)

  unfoldable pub value : ℕ → ℕ → Reader Value
  value names type = shaped names type (shape type)

  -- an attribute, from its token on
  unfoldable pub attribute : ℕ → Reader Item
  attribute names = do
    t ← byte
    r ← name names
    v ← value (counted names r) (Token.type t)
    give (record { kind = Token.attribute; name = some r; type = Token.type t; value = v })

  -- the event's own row, from its token on
  unfoldable pub first : ℕ → Reader Item
  first names = do
    t ← byte
    cond (ltb (command t) Token.start_tag) (give (record { kind = command t; name = none; type = 0; value = nothing }))
        (cond (ltb (command t) Token.text)
        (do
          r ← name names
          give (record { kind = command t; name = some r; type = 0; value = nothing }))
        (cond (leb (command t) Token.doc_decl)
        (cond (eqb (Token.type t) Token.string)
        (do
          x ← string
          give (record { kind = command t; name = none; type = Token.string; value = span x }))
        (give (record { kind = command t; name = none; type = Token.string; value = empty })))
        (refuse unknown_command (command t))))

  -- the attributes from a place on: every directly following token with the attribute's command
  unfoldable pub attributes_f : ℕ → ℕ → List ℕ → ℕ → Items
  attributes_f zero names s at = whole at true
  attributes_f (suc f) names s at =
      cond (ltb at (length s))
      (cond (eqb (command (get_or s at 0)) Token.attribute) (then_items (attribute names s at) (λ i n. attributes_f f (after names i) s n))
      (whole at false))
      (whole at true)

  unfoldable pub event : ℕ → List ℕ → Items
  event names s =
      then_items (first names s 0)
      (λ i n. cond (eqb i.kind Token.start_tag) (attributes_f (length s) (after names i) s n) (whole n false))
