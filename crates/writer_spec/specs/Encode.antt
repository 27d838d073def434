-- The bytes that the writer makes of a list of events: document 01, "Writer".
use Rattle.std.specs.Prelude.{cond, List, [], ◌∷◌, ◌++◌, ℕ, suc, ◌+◌, ◌*◌, length, ltb}
use Rattle.std.proofs.Math.Option.{Option, none, some, map}
use Rattle.wire.specs.Header.{be16, be32, magic_bytes}
use Rattle.wire.specs.Token.{interned_new}
use Rattle.wire.specs.Token as Token
use Rattle.event.specs.Span.{same}
use Rattle.event.specs.Row as Row
use Rattle.event.specs.Row.{Row, Event, has_name}
use Rattle.grammar.specs.Grammar.{most}
use Rattle.grammar.specs.Document.{Pool}

-- a length and the bytes
unfoldable pub sized : List ℕ → List ℕ
sized s = be16 (length s) ++ s

-- ---- names

-- the place of the first pool entry equal to a name
unfoldable pub find : Pool → List ℕ → Option ℕ
find [] n = none
find (m ∷ pool) n = cond (same m n) (some 0) (map suc (find pool n))

-- a name by its place in the pool, or new
unfoldable pub name_by : List ℕ → Option ℕ → List ℕ
name_by n (some i) = be16 i
name_by n none = be16 interned_new ++ sized n

unfoldable pub name_bytes : Pool → List ℕ → List ℕ
name_bytes pool n = name_by n (find pool n)

-- the pool after a name: a new one joins while there is room
unfoldable pub keep_by : Pool → List ℕ → Option ℕ → Pool
keep_by pool n (some i) = pool
keep_by pool n none = cond (ltb (length pool) most) (pool ++ (n ∷ [])) pool

unfoldable pub keep : Pool → List ℕ → Pool
keep pool n = keep_by pool n (find pool n)

-- ---- rows

unfoldable pub value_bytes : Row.Value → List ℕ
value_bytes Row.nothing = []
value_bytes (Row.bytes s) = sized s
value_bytes (Row.word w) = be32 w
value_bytes (Row.pair h l) = be32 h ++ be32 l

-- StartDocument and EndDocument have the type null on the wire, tags that of an interned string; the others their own
unfoldable pub token_type : Row → ℕ
token_type r = cond (ltb r.kind Token.start_tag) Token.null (cond (ltb r.kind Token.text) Token.string_interned r.type)

unfoldable pub row_bytes : Pool → Row → List ℕ
row_bytes pool r = (token_type r * 16 + r.kind) ∷ (cond (has_name r.kind) (name_bytes pool r.name) [] ++ value_bytes r.value)

unfoldable pub keep_row : Pool → Row → Pool
keep_row pool r = cond (has_name r.kind) (keep pool r.name) pool

-- rows one after another, each with the names of those before it
unfoldable pub rows_bytes : Pool → List Row → List ℕ
rows_bytes pool [] = []
rows_bytes pool (r ∷ rs) = row_bytes pool r ++ rows_bytes (keep_row pool r) rs

-- the pool after rows
unfoldable pub keep_rows : Pool → List Row → Pool
keep_rows pool [] = pool
keep_rows pool (r ∷ rs) = keep_rows (keep_row pool r) rs

-- ---- events

unfoldable pub flat : List Event → List Row
flat [] = []
flat (e ∷ es) = e ++ flat es

-- the document that the writer makes of a list of events: the header, then the events, from an empty pool
unfoldable pub encode : List Event → List ℕ
encode es = magic_bytes ++ rows_bytes [] (flat es)
