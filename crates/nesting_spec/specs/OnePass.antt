-- The same in one pass over the rows, by the names of the open tags. `Agreement` has that it is.
use Rattle.std.specs.Prelude.{Bool, true, false, cond, ◌&&◌, List, [], ◌∷◌, map, ℕ, ltb, leb, eqb, length}
use Rattle.wire.specs.Token.{start_document, end_document, start_tag, end_tag, ignorable_whitespace, doc_decl}
use Rattle.event.specs.Span.{same}
use Rattle.event.specs.Row.{Row}
use Rattle.nesting_spec.specs.Nesting.{Name, depth}

-- what nesting asks of a row: an element's start or end, with its name; the document's start or end; or something else, which may
-- stand outside the outermost element or not
pub data Tag : Type 0 where
  start : Name → Tag
  end : Name → Tag
  begins : Tag
  ends : Tag
  anywhere : Tag
  inside : Tag

-- ignorable whitespace, instructions, comments and DocDecl: kinds 7 to 10. Text, Cdata, entities and attributes are not
abbrev pub outside : ℕ → Bool
outside kind = leb ignorable_whitespace kind && leb kind doc_decl

unfoldable pub else_tag : ℕ → Tag
else_tag kind = cond (outside kind) anywhere inside

unfoldable pub tag_of : Row → Tag
tag_of r =
    cond (eqb r.kind start_tag) (start r.name)
    (cond (eqb r.kind end_tag) (end r.name)
    (cond (eqb r.kind start_document) begins
    (cond (eqb r.kind end_document) ends
    (else_tag r.kind))))

-- no row follows
unfoldable pub none : List Tag → Bool
none [] = true
none (t ∷ rest) = false

-- rows from the outermost element's start tag on, where the tags of these names are open, the innermost first. With none open that
-- element is closed: nothing opens or closes any more, and EndDocument is the last
unfoldable pub nested : List Tag → List Name → Bool
nested [] [] = true
nested [] (m ∷ opened) = false
nested (start n ∷ rest) [] = false
nested (start n ∷ rest) (m ∷ opened) = ltb (length (m ∷ opened)) depth && nested rest (n ∷ m ∷ opened)
nested (end n ∷ rest) [] = false
nested (end n ∷ rest) (m ∷ opened) = same m n && nested rest opened
nested (begins ∷ rest) opened = false
nested (ends ∷ rest) [] = none rest
nested (ends ∷ rest) (m ∷ opened) = false
nested (anywhere ∷ rest) opened = nested rest opened
nested (inside ∷ rest) [] = false
nested (inside ∷ rest) (m ∷ opened) = nested rest (m ∷ opened)

-- before the outermost element
unfoldable pub rooted : List Tag → Bool
rooted [] = false
rooted (start n ∷ rest) = nested rest (n ∷ [])
rooted (end n ∷ rest) = false
rooted (begins ∷ rest) = false
rooted (ends ∷ rest) = false
rooted (anywhere ∷ rest) = rooted rest
rooted (inside ∷ rest) = false

-- StartDocument, as the first event
unfoldable pub begun : List Tag → List Tag
begun [] = []
begun (start n ∷ rest) = start n ∷ rest
begun (end n ∷ rest) = end n ∷ rest
begun (begins ∷ rest) = rest
begun (ends ∷ rest) = ends ∷ rest
begun (anywhere ∷ rest) = anywhere ∷ rest
begun (inside ∷ rest) = inside ∷ rest

-- a whole list of rows
unfoldable pub passes : List Row → Bool
passes rows = rooted (begun (map tag_of rows))
