-- The bytes of a span: a part of one of two stores, and where that part lies. Equal bytes.
use Rattle.std.specs.Prelude.{Bool, true, false, cond, ◌&&◌, List, [], ◌∷◌, ℕ, ◌+◌, leb, eqb, length, get_or, take, drop}

-- the bytes of a store from a start on; none where the span ends outside
unfoldable pub part : List ℕ → ℕ → ℕ → List ℕ
part store start len = cond (leb (start + len) (length store)) (take len (drop start store)) []

-- source 0 is the first store, 1 the second; none for any other
unfoldable pub span : List ℕ → List ℕ → ℕ → ℕ → ℕ → List ℕ
span first second source start len = cond (eqb source 0) (part first start len) (cond (eqb source 1) (part second start len) [])

-- the span that the first eight words name as a value
abbrev pub value_in : List ℕ → List ℕ → List ℕ → List ℕ
value_in first second w = span first second (get_or w 5 0) (get_or w 6 0) (get_or w 7 0)

-- in a document alone source 0 is the document
unfoldable pub text : List ℕ → ℕ → ℕ → ℕ → List ℕ
text document source start len = cond (eqb source 0) (part document start len) []

-- a span ends inside the store that its source names
unfoldable pub span_in : List ℕ → List ℕ → ℕ → ℕ → ℕ → Bool
span_in first second source start len =
    cond (eqb source 0) (leb (start + len) (length first)) (cond (eqb source 1) (leb (start + len) (length second)) false)

-- ---- where a part lies: a pointer is a block and an offset in it

abbrev pub Pointer : Type 0
Pointer = ℕ × ℕ

-- in a store that lies at `at`; at `empty` where the span ends outside
unfoldable pub part_at : List ℕ → Pointer → Pointer → ℕ → ℕ → Pointer
part_at store at empty start len = cond (leb (start + len) (length store)) (at.0, start + at.1) empty

-- an empty part that no span names lies at the first store's start
unfoldable pub span_at : List ℕ → Pointer → List ℕ → Pointer → ℕ → ℕ → ℕ → Pointer
span_at first at second at' source start len =
    cond (eqb source 0) (part_at first at at start len) (cond (eqb source 1) (part_at second at' at start len) at)

unfoldable pub text_at : List ℕ → Pointer → ℕ → ℕ → ℕ → Pointer
text_at document at source start len = cond (eqb source 0) (part_at document at at start len) at

-- ---- equal bytes

unfoldable pub same : List ℕ → List ℕ → Bool
same [] [] = true
same [] (b ∷ t) = false
same (a ∷ s) [] = false
same (a ∷ s) (b ∷ t) = eqb a b && same s t
