-- A nested document: exactly one outermost element; outside it only document events, comments, instructions, DocDecl and ignorable whitespace;
-- StartDocument only as the first event, EndDocument only as the last; and the rules on names and depth.
use Rattle.std.specs.Prelude.{Bool, true, false, cond, ◌&&◌, List, [], ◌∷◌, map, ℕ, suc, ◌-◌, ◌/◌, ltb, eqb, length, take, drop}
use Rattle.wire.specs.Refusal.{not_rows}
use Rattle.wire.specs.Token.{start_document, end_document, start_tag, end_tag, ignorable_whitespace, processing_instruction, comment, doc_decl}
use Rattle.event.specs.Span.{same}
use Rattle.event.specs.Row.{Row, rows_at}
use Rattle.event.specs.Words.{list_forms}

abbrev pub Name : Type 0
Name = List ℕ

-- how many tags may be open at once
abbrev pub depth : ℕ
depth = 64

-- ---- the rules

-- the names of the open tags after a row, the innermost first
unfoldable pub after : Row → List Name → List Name
after r opened = cond (eqb r.kind start_tag) (r.name ∷ opened) (cond (eqb r.kind end_tag) (drop 1 opened) opened)

unfoldable pub innermost : List Name → Name → Bool
innermost [] name = false
innermost (m ∷ opened) name = same m name

-- a start tag stands at most 64 deep, and an end tag has the innermost open tag's name
unfoldable pub fits : Row → List Name → Bool
fits r opened = cond (eqb r.kind start_tag) (ltb (length opened) depth) (cond (eqb r.kind end_tag) (innermost opened r.name) true)

-- each row fits, and none stays open; other events stand anywhere
unfoldable pub balanced : List Row → List Name → Bool
balanced [] opened = eqb (length opened) 0
balanced (r ∷ rest) opened = fits r opened && balanced rest (after r opened)

-- the kinds of the rows that stand where no tag is open: the start tag of each outermost element, and what stands outside. An attribute's row comes
-- after its start tag, so it is not among them
unfoldable pub outer : List Row → List Name → List ℕ
outer [] opened = []
outer (r ∷ rest) [] = r.kind ∷ outer rest (after r [])
outer (r ∷ rest) (m ∷ opened) = outer rest (after r (m ∷ opened))

-- how often a kind is among some
unfoldable pub count : ℕ → List ℕ → ℕ
count kind [] = 0
count kind (k ∷ rest) = cond (eqb k kind) (suc (count kind rest)) (count kind rest)

unfoldable pub among : ℕ → List ℕ → Bool
among k [] = false
among k (x ∷ rest) = cond (eqb k x) true (among k rest)

-- whether all are among some
unfoldable pub all_among : List ℕ → List ℕ → Bool
all_among [] some = true
all_among (k ∷ rest) some = among k some && all_among rest some

-- the outermost element's start tag, document events, comments, instructions, DocDecl and ignorable whitespace
abbrev pub may_stand : List ℕ
may_stand = start_tag ∷ start_document ∷ end_document ∷ comment ∷ processing_instruction ∷ doc_decl ∷ ignorable_whitespace ∷ []

-- exactly one outermost element
abbrev pub one_root : List Row → Bool
one_root rows = eqb (count start_tag (outer rows [])) 1

-- outside it only those
abbrev pub only_outside : List Row → Bool
only_outside rows = all_among (outer rows []) may_stand

abbrev pub kinds : List Row → List ℕ
kinds rows = map (λ (r : Row). r.kind) rows

-- no StartDocument but as the first event
abbrev pub starts_first : List Row → Bool
starts_first rows = eqb (count start_document (kinds (drop 1 rows))) 0

-- no EndDocument but as the last
abbrev pub ends_last : List Row → Bool
ends_last rows = eqb (count end_document (kinds (take (length rows - 1) rows))) 0

unfoldable pub every : List Bool → Bool
every [] = true
every (b ∷ rest) = b && every rest

-- all the rules
unfoldable pub document : List Row → Bool
document rows = every (balanced rows [] ∷ one_root rows ∷ only_outside rows ∷ starts_first rows ∷ ends_last rows ∷ [])

-- ---- the call

pub data Answer : Type 0 where
  yes : Answer
  no : Answer
  refused : ℕ → ℕ → Answer

-- whether words of rows, their spans in two stores, are one nested document; 16 for words that form no event list
unfoldable pub nesting : List ℕ → List ℕ → List ℕ → Answer
nesting first second w =
    cond (list_forms first second w) (cond (document (rows_at first second (length w / 8) w)) yes no) (refused not_rows 0)
