-- Which words form rows; all others are refused 16 where rows are taken.
use Rattle.std.specs.Prelude.{Bool, true, false, cond, ◌&&◌, ◌||◌, List, ℕ, zero, suc, ◌/◌, ◌%◌, leb, ltb, eqb, length, get_or, drop}
use Rattle.wire.specs.Token.{start_tag, text, doc_decl, attribute, string}
use Rattle.event.specs.Span.{span_in}
use Rattle.event.specs.Row.{shape}
use Rattle.event.specs.declared.Shape.{Shape}

-- a type is one of three
unfoldable pub one_of : ℕ → ℕ → ℕ → ℕ → Bool
one_of type a b c = eqb type a || eqb type b || eqb type c

-- so many words from a place on are unused: 0
unfoldable pub zeros : List ℕ → ℕ → ℕ → Bool
zeros w at zero = true
zeros w at (suc n) = eqb (get_or w at 0) 0 && zeros w (suc at) n

-- the words value source, a and b of an attribute whose value has this shape; `valued` says that they are a span that
-- may stand here
unfoldable pub value_forms : Bool → List ℕ → Shape → Bool
value_forms valued w Shape.Nothing = zeros w 5 3
value_forms valued w Shape.String = valued
value_forms valued w Shape.Interned = false
value_forms valued w Shape.Blob = valued
value_forms valued w Shape.Word = zeros w 5 2
value_forms valued w Shape.Pair = zeros w 5 1
value_forms valued w Shape.Unknown = false

-- an attribute's words after its kind; `named` says that the name's words are a span that may stand here
unfoldable pub attribute_forms : Bool → Bool → List ℕ → Bool
attribute_forms named valued w = named && value_forms valued w (shape (get_or w 4 0))

-- the first eight words form a row; `named` and `valued` are as above, `inside` says that an attribute may stand here
unfoldable pub row_forms : Bool → Bool → Bool → List ℕ → Bool
row_forms named valued inside w =
    cond (ltb (get_or w 0 0) start_tag) (zeros w 1 7)
    (cond (ltb (get_or w 0 0) text) (named && zeros w 4 4)
    (cond (leb (get_or w 0 0) doc_decl) (eqb (get_or w 4 0) string && (valued && zeros w 1 3))
    (cond (eqb (get_or w 0 0) attribute) (inside && attribute_forms named valued w) false)))

-- the same with the spans looked up in two stores
unfoldable pub row_forms_in : List ℕ → List ℕ → Bool → List ℕ → Bool
row_forms_in first second inside w =
    row_forms (span_in first second (get_or w 1 0) (get_or w 2 0) (get_or w 3 0)) (span_in first second (get_or w 5 0) (get_or w 6 0) (get_or w 7 0)) inside w

-- an attribute may stand after a start tag and after another attribute
unfoldable pub opens : ℕ → Bool
opens kind = cond (eqb kind start_tag) true (eqb kind attribute)

-- so many rows, their spans in two stores
unfoldable pub rows_form : List ℕ → List ℕ → Bool → ℕ → List ℕ → Bool
rows_form first second inside zero w = true
rows_form first second inside (suc n) w = row_forms_in first second inside w && rows_form first second (opens (get_or w 0 0)) n (drop 8 w)

-- words that form an event list: whole rows, and all of them formed
unfoldable pub list_forms : List ℕ → List ℕ → List ℕ → Bool
list_forms first second w = cond (eqb (length w % 8) 0) (rows_form first second false (length w / 8) w) false

-- so many rows are all attributes
unfoldable pub attributes_only : ℕ → List ℕ → Bool
attributes_only zero w = true
attributes_only (suc n) w = eqb (get_or w 0 0) attribute && attributes_only n (drop 8 w)

-- so many rows are a single event: one row, and after it attributes alone
unfoldable pub single : ℕ → List ℕ → Bool
single zero w = false
single (suc n) w = attributes_only n (drop 8 w)

-- words that form exactly one event
unfoldable pub event_forms : List ℕ → List ℕ → List ℕ → Bool
event_forms first second w = cond (list_forms first second w) (single (length w / 8) w) false
