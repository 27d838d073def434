-- The listing: a line for each row, and a last line. Document 01, "Nesting check and listing".
use Rattle.std.specs.Prelude.{true, false, cond, List, [], ◌∷◌, ◌++◌, ℕ, ◌*◌, ◌/◌, leb, ltb, eqb, length, drop}
use Rattle.wire.specs.Header.{be32}
use Rattle.wire.specs.Token.{attribute}
use Rattle.wire.specs.Refusal.{output_full, not_rows}
use Rattle.event.specs.Row.{Row, has_name, row_at}
use Rattle.event.specs.Row as Row
use Rattle.text.specs.Ascii.{ascii}
use Rattle.listing.specs.Text.{newline, space, dash, decimal, field}

-- ---- the text

-- attributes alone show their type
unfoldable pub type_text : ℕ → ℕ → List ℕ
type_text kind type = cond (eqb kind attribute) (decimal type) (dash ∷ [])

-- a number is shown as its bytes on the wire are: 8 or 16 digits
unfoldable pub value_text : Row.Value → List ℕ
value_text Row.nothing = field false []
value_text (Row.bytes s) = field true s
value_text (Row.word b) = field true (be32 b)
value_text (Row.pair a b) = field true (be32 a ++ be32 b)

-- kind, name, type and value, the value as text
unfoldable pub columns : ℕ → List ℕ → ℕ → List ℕ → List ℕ
columns kind name type value =
    decimal kind ++ (space ∷ field (has_name kind) name) ++ (space ∷ type_text kind type) ++ (space ∷ value) ++ (newline ∷ [])

unfoldable pub line : Row → List ℕ
line r = columns r.kind r.name r.type (value_text r.value)

-- the last line: the number of events, or a refusal's number and detail
abbrev pub end_word : List ℕ
end_word = ascii "end "

abbrev pub refused_word : List ℕ
refused_word = ascii "refused "

unfoldable pub end_line : ℕ → List ℕ
end_line events = end_word ++ decimal events ++ (newline ∷ [])

unfoldable pub refused_line : ℕ → ℕ → List ℕ
refused_line number detail = refused_word ++ decimal number ++ (space ∷ decimal detail) ++ (newline ∷ [])

-- ---- the calls

-- a call's answer: how long the line is, or a refusal by number and detail
pub data Reply : Type 0 where
  wrote : ℕ → Reply
  refused : ℕ → ℕ → Reply

pub record Left : Type 0 where
  pub reply : Reply
  pub out : List ℕ

-- a line in the output's first bytes, where it fits; the bytes after it stay, and all where it does not
unfoldable pub put : List ℕ → List ℕ → Left
put text out =
    cond (leb (length text) (length out)) (record { reply = wrote (length text); out = text ++ drop (length text) out })
    (record { reply = refused output_full 0; out = out })

-- the line of a row by its number, counted from 0
unfoldable pub put_row : List ℕ → List ℕ → List ℕ → ℕ → List ℕ → Left
put_row first second rows row out =
    cond (ltb row (length rows / 8)) (put (line (row_at first second (drop (row * 8) rows))) out) (record { reply = refused not_rows 0; out = out })
