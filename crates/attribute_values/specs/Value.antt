-- The value of an attribute's row, read through the accessor.
use Rattle.std.specs.Prelude.{true, false, cond, Result, Ok, Err, List, ℕ, ◌+◌, ◌*◌, ◌/◌, ◌^◌, ltb, eqb, ℤ, length, get_or, drop}
use Rattle.std.specs.Int.{w32, w64}
use Rattle.std.proofs.Common.{to_z}
use Rattle.wire.specs.Refusal.{not_rows}
use Rattle.wire.specs.Answers.{number_of, detail_of}
use Rattle.wire.specs.declared.Refusal.{Refusal}
use Rattle.wire.specs.Token.{null, string, bytes_hex, bytes_base64, int, int_hex, long, long_hex, float, double, boolean_true, boolean_false, attribute}
use Rattle.event.specs.Row.{shape}
use Rattle.event.specs.Words.{attribute_forms}
use Rattle.event.specs.declared.Shape.{Shape}
use Rattle.attribute_values.specs.declared.AttributeValue.{AttributeValue}

-- what a value carries: nothing; a span, by source, start and length; a signed number; a number's bits
pub data Content : Type 0 where
  nothing : Content
  span : ℕ → ℕ → ℕ → Content
  signed : ℤ → Content
  bits : ℕ → Content

-- the accessor's answer: the type and the content, or a refusal by number and detail
pub data Answer : Type 0 where
  value : ℕ → Content → Answer
  refused : ℕ → ℕ → Answer

-- a number of 32 bits, and one of 64: Int and Long are signed, in two's complement; the others are bits
unfoldable pub word : ℕ → ℕ → Content
word type b = cond (eqb type int) (signed (to_z w32 b)) (bits b)

unfoldable pub pair : ℕ → ℕ → Content
pair type b = cond (eqb type long) (signed (to_z w64 b)) (bits b)

-- a value by its type and shape, from the words value source, a and b; type 3 has become 2 in a row
unfoldable pub value_by_shape : ℕ → Shape → ℕ → ℕ → ℕ → Answer
value_by_shape type Shape.Nothing source a b = value type nothing
value_by_shape type Shape.String source a b = value type (span source a b)
value_by_shape type Shape.Interned source a b = refused not_rows 0
value_by_shape type Shape.Blob source a b = value type (span source a b)
value_by_shape type Shape.Word source a b = value type (word type b)
value_by_shape type Shape.Pair source a b = value type (pair type (a * 2 ^ 32 + b))
value_by_shape type Shape.Unknown source a b = refused not_rows 0

unfoldable pub value_by_type : ℕ → ℕ → ℕ → ℕ → Answer
value_by_type type source a b = value_by_shape type (shape type) source a b

-- the value of the row that the first eight words say. The accessor has no stores at hand: of a span it asks only that
-- its source is 0 or 1
unfoldable pub row_value : List ℕ → Answer
row_value w =
    cond (eqb (get_or w 0 0) attribute)
    (cond (attribute_forms (ltb (get_or w 1 0) 2) (ltb (get_or w 5 0) 2) w)
    (value_by_type (get_or w 4 0) (get_or w 5 0) (get_or w 6 0) (get_or w 7 0))
    (refused not_rows 0))
    (refused not_rows 0)

-- the value of a row by its number, counted from 0
unfoldable pub attribute_value : List ℕ → ℕ → Answer
attribute_value rows row = cond (ltb row (length rows / 8)) (row_value (drop (row * 8) rows)) (refused not_rows 0)

-- ---- what the code's answers say

abbrev pub value_of : AttributeValue → Answer
value_of AttributeValue.Null = value null nothing
value_of (AttributeValue.String s) = value string (span s.source s.start s.len)
value_of (AttributeValue.BytesHex s) = value bytes_hex (span s.source s.start s.len)
value_of (AttributeValue.BytesBase64 s) = value bytes_base64 (span s.source s.start s.len)
value_of (AttributeValue.Int z) = value int (signed z)
value_of (AttributeValue.IntHex b) = value int_hex (bits b)
value_of (AttributeValue.Long z) = value long (signed z)
value_of (AttributeValue.LongHex b) = value long_hex (bits b)
value_of (AttributeValue.Float b) = value float (bits b)
value_of (AttributeValue.Double b) = value double (bits b)
value_of (AttributeValue.Boolean true) = value boolean_true nothing
value_of (AttributeValue.Boolean false) = value boolean_false nothing

abbrev pub accessed_of : Result AttributeValue Refusal → Answer
accessed_of (Ok v) = value_of v
accessed_of (Err r) = refused (number_of r) (detail_of r)
