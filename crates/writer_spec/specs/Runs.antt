-- The writer's calls, computed: which refusal comes where more than one might, and with which detail.
use Rattle.std.specs.Prelude.{List, [], ◌∷◌, ◌++◌, map, ◌≡◌, refl, ℕ, replicate}
use Rattle.wire.specs.Header as Header
use Rattle.wire.specs.Token as Token
use Rattle.utf8.specs.Utf8 as U
use Rattle.event.specs.Span as Span
use Rattle.event.specs.Row as Row
use Rattle.event.specs.Words as Words
use Rattle.grammar.specs.Grammar as G
use Rattle.writer_spec.specs.Encode as E
use Rattle.writer_spec.specs.Faults as F
use Rattle.writer_spec.specs.Writer as W
use Rattle.writer_spec.specs.Writer.{Writer, Reply, wrote, refused, create, write_event, write_events}

-- ---- what is written

-- the first store: "p", "q" and a byte that no string has
abbrev first : List ℕ
first = 0x70 ∷ 0x71 ∷ 0xC0 ∷ []

-- a second store: a byte more than a string may have
abbrev long : List ℕ
long = replicate 65536 0xC0

-- a start tag by its name's span, and an attribute by its name's start, its type and its value's words
abbrev tag : ℕ → ℕ → ℕ → List ℕ
tag source start len = Token.start_tag ∷ source ∷ start ∷ len ∷ 0 ∷ 0 ∷ 0 ∷ 0 ∷ []

abbrev attribute : ℕ → ℕ → ℕ → ℕ → ℕ → List ℕ
attribute start type source a b = Token.attribute ∷ 0 ∷ start ∷ 1 ∷ type ∷ source ∷ a ∷ b ∷ []

abbrev p : List ℕ
p = tag 0 0 1

abbrev q : List ℕ
q = tag 0 1 1

-- an attribute outside a start tag
abbrev alone : List ℕ
alone = attribute 0 Token.null 0 0 0

-- ---- the cases

pub record Case : Type 0 where
  pub writer : Writer
  pub output : List ℕ
  pub table : List ℕ
  pub rows : List ℕ
  pub second : List ℕ
  pub replied : Reply

unfoldable pub listed : Case → Reply
listed c = (write_events c.writer first c.second c.rows (record { output = c.output; table = c.table })).reply

-- a writer that wrote its header, one that knows a name, and one that counts more than there is
abbrev header : Writer
header = record { written = 4; names = 0 }

abbrev knows : Writer
knows = record { written = 4; names = 1 }

abbrev lost : Writer
lost = record { written = 99; names = 0 }

abbrev case : Writer → List ℕ → List ℕ → List ℕ → Reply → Case
case w output table rows replied = record { writer = w; output = output; table = table; rows = rows; second = []; replied = replied }

-- where two refusals might come, the first of the two comes
unfoldable pub cases : List Case
cases =
    -- 17, 19: a table of odd length, and more written than there is output
    case lost (replicate 10 0) (0 ∷ []) alone (refused 17 0)
    -- 19, 16: more written than there is output, and no rows
    ∷ case lost (replicate 10 0) [] alone (refused 19 0)
    ∷ case header (replicate 10 0) (0 ∷ 0 ∷ []) p (wrote (record { written = 10; names = 1 }))
    -- 16, 7: the list as a whole, and its first event's name
    ∷ case header (replicate 10 0) [] (tag 0 2 1 ++ (p ++ (Token.text ∷ []))) (refused 16 0)
    ∷ case header (replicate 10 0) [] alone (refused 16 0)
    -- 7, 19: the name, and the search for it at a pair outside the output
    ∷ case knows (replicate 10 0) (9 ∷ 9 ∷ []) (tag 0 2 1) (refused 7 0)
    -- 19, 7: the search for the tag's name, and its attribute's value
    ∷ case knows (replicate 10 0) (9 ∷ 9 ∷ []) (p ++ attribute 1 Token.string 0 2 1) (refused 19 0)
    -- 7, 11: a value, and the table
    ∷ case header (replicate 10 0) [] (p ++ attribute 1 Token.string 0 2 1) (refused 7 0)
    -- 14, 7: a name that is too long, and no string
    ∷ record { writer = header; output = replicate 10 0; table = []; rows = tag 1 0 65536; second = long; replied = refused 14 65536 }
    -- a blob is no string
    ∷ case header (replicate 21 0) (replicate 4 0) (p ++ attribute 1 Token.bytes_hex 0 2 1) (wrote (record { written = 19; names = 2 }))
    -- 11, 15: the table, and the output
    ∷ case header (replicate 9 0) [] p (refused 11 0)
    -- 15, 7: the first event's room, and the second event's name
    ∷ case header (replicate 9 0) (0 ∷ 0 ∷ []) (p ++ tag 0 2 1) (refused 15 0)
    -- a name that is known needs no pair
    ∷ case knows (0x41 ∷ 0x42 ∷ 0x58 ∷ 0x00 ∷ 0x70 ∷ 0 ∷ 0 ∷ []) (4 ∷ 1 ∷ []) p (wrote (record { written = 7; names = 1 }))
    ∷ []

-- one event's rows and no more, and a creation: 17, 15
abbrev single : List ℕ → Reply
single rows = (write_event header first [] rows (record { output = replicate 16 0; table = replicate 4 0 })).reply

abbrev new : List ℕ → List ℕ → Reply
new output table = (create (record { output = output; table = table })).reply

pub runs : (map listed cases ≡ map (λ c. c.replied) cases)
    × (map single (p ∷ (p ++ q) ∷ [] ∷ []) ≡ wrote (record { written = 10; names = 1 }) ∷ refused 16 0 ∷ refused 16 0 ∷ [])
    × ((new (replicate 3 0) (0 ∷ []) ≡ refused 17 0) × (new (replicate 3 0) [] ≡ refused 15 0) × (new (replicate 4 0) [] ≡ wrote header))
unfolding cases listed W.begin W.create W.write_event W.write_events W.write W.refusal W.unless W.append W.sizes_bad W.state_bad W.pool_at W.meets_bad W.row_refusal W.room_refusal W.ends W.rows_refusal W.row_pairs W.rows_pairs F.string_fault F.blob_fault F.value_fault F.glue F.group E.rows_bytes E.row_bytes E.keep_rows E.keep_row E.keep E.keep_by E.find E.name_bytes E.name_by E.sized Header.be16 Header.be32 E.value_bytes E.token_type Words.list_forms Words.event_forms Words.single Words.attributes_only Words.rows_form Words.row_forms_in Words.row_forms Words.attribute_forms Words.value_forms Words.zeros Words.opens Span.span_in Span.span Span.part Span.same Row.rows_at Row.row_at Row.value_at Row.shape Row.shapes Row.has_name U.well_formed U.octets G.most
runs = (refl, refl, (refl, refl, refl))
