-- What a row says, whatever stores its spans lie in. A row is eight words: kind, name source, name start, name length,
-- type, value source, a, b.
use Rattle.std.specs.Prelude.{Bool, true, false, cond, ◌&&◌, List, [], ◌∷◌, ℕ, zero, suc, leb, eqb, length, get_or, drop}
use Rattle.wire.specs.Token.{start_tag, end_tag, attribute}
use Rattle.event.specs.Span.{span, same}
use Rattle.event.specs.declared.Shape.{Shape}

-- a value: none; the bytes of a text, a string or a blob; 32 bits; 64 bits, the high word first
pub data Value : Type 0 where
  nothing : Value
  bytes : List ℕ → Value
  word : ℕ → Value
  pair : ℕ → ℕ → Value

-- a row as a value: document 01 calls two rows equal when these are equal
pub record Row : Type 0 where
  pub kind : ℕ
  pub name : List ℕ
  pub type : ℕ
  pub value : Value

-- an event: its own row and, of a start tag, those of its attributes
abbrev pub Event : Type 0
Event = List Row

-- how a value of each type is carried, from type 0 to type 15
unfoldable pub shapes : List Shape
shapes =
    Shape.Unknown ∷ Shape.Nothing ∷ Shape.String ∷ Shape.Interned ∷ Shape.Blob ∷ Shape.Blob ∷ Shape.Word ∷ Shape.Word ∷ Shape.Pair ∷ Shape.Pair
    ∷ Shape.Word ∷ Shape.Pair ∷ Shape.Nothing ∷ Shape.Nothing ∷ Shape.Unknown ∷ Shape.Unknown ∷ []

unfoldable pub shape : ℕ → Shape
shape type = get_or shapes type Shape.Unknown

-- which kinds of row have a name
unfoldable pub has_name : ℕ → Bool
has_name kind = cond (eqb kind start_tag) true (cond (eqb kind end_tag) true (eqb kind attribute))

-- a value of a shape, from the words value source, a and b
unfoldable pub value_at : List ℕ → List ℕ → ℕ → ℕ → ℕ → Shape → Value
value_at first second source a b Shape.Nothing = nothing
value_at first second source a b Shape.String = bytes (span first second source a b)
value_at first second source a b Shape.Interned = nothing
value_at first second source a b Shape.Blob = bytes (span first second source a b)
value_at first second source a b Shape.Word = word b
value_at first second source a b Shape.Pair = pair a b
value_at first second source a b Shape.Unknown = nothing

-- the row that the first eight words say
unfoldable pub row_at : List ℕ → List ℕ → List ℕ → Row
row_at first second w =
    record {
      kind = get_or w 0 0;
      name = cond (has_name (get_or w 0 0)) (span first second (get_or w 1 0) (get_or w 2 0) (get_or w 3 0)) [];
      type = get_or w 4 0;
      value = value_at first second (get_or w 5 0) (get_or w 6 0) (get_or w 7 0) (shape (get_or w 4 0));
    }

-- the first so many rows
unfoldable pub rows_at : List ℕ → List ℕ → ℕ → List ℕ → List Row
rows_at first second zero w = []
rows_at first second (suc n) w = row_at first second w ∷ rows_at first second n (drop 8 w)

-- ---- equal rows: equal kind, type and bits, and the same bytes spanned

unfoldable pub same_value : Value → Value → Bool
same_value nothing nothing = true
same_value nothing (bytes t) = false
same_value nothing (word c) = false
same_value nothing (pair c d) = false
same_value (bytes s) nothing = false
same_value (bytes s) (bytes t) = same s t
same_value (bytes s) (word c) = false
same_value (bytes s) (pair c d) = false
same_value (word a) nothing = false
same_value (word a) (bytes t) = false
same_value (word a) (word c) = eqb a c
same_value (word a) (pair c d) = false
same_value (pair a b) nothing = false
same_value (pair a b) (bytes t) = false
same_value (pair a b) (word c) = false
same_value (pair a b) (pair c d) = eqb a c && eqb b d

unfoldable pub same_row : Row → Row → Bool
same_row r q = eqb r.kind q.kind && (eqb r.type q.type && (same r.name q.name && same_value r.value q.value))

-- the first rows of two lists of words, each with its own stores; fewer than eight words are no row, and equal to none
unfoldable pub equal_rows : List ℕ → List ℕ → List ℕ → List ℕ → List ℕ → List ℕ → Bool
equal_rows first second w other_first other_second v =
    leb 8 (length w) && (leb 8 (length v) && same_row (row_at first second w) (row_at other_first other_second v))
