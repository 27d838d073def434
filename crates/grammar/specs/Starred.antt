-- The starred inputs of document 01, "Cases on each edge": what the grammar reads of each, computed.
use Rattle.std.specs.Prelude.{List, [], ◌∷◌, ◌++◌, map, ◌≡◌, refl, ℕ}
use Rattle.wire.specs.Header as Header
use Rattle.wire.specs.Token as Token
use Rattle.utf8.specs.Utf8 as U
use Rattle.event.specs.Row as Row
use Rattle.event.specs.Row.{Row, Event}
use Rattle.grammar.specs.Grammar as G
use Rattle.grammar.specs.Document as D
use Rattle.grammar.specs.Example.{bare, p}
use Rattle.grammar.specs.Document.{Reading, reads, ended, stopped, read}

-- an input and what the grammar reads of it
pub record Case : Type 0 where
  pub input : List ℕ
  pub reading : Reading

infix 10 ◌reads_as◌
abbrev pub ◌reads_as◌ : List ℕ → Reading → Case
◌reads_as◌ s r = record { input = s; reading = r }

-- the header
abbrev pub H : List ℕ
H = Header.magic_bytes

-- a text, and an attribute that is true
abbrev text : List ℕ → Event
text s = record { kind = Token.text; name = []; type = Token.string; value = Row.bytes s } ∷ []

abbrev is_true : List ℕ → Row
is_true name = record { kind = Token.attribute; name = name; type = Token.boolean_true; value = Row.nothing }

-- each line is one of 01's starred inputs, in its order
unfoldable pub cases : List Case
cases =
    ([] reads_as stopped 1 0)
    ∷ (0x41 ∷ 0x42 ∷ 0x58 ∷ [] reads_as stopped 1 0)
    ∷ (0x41 ∷ 0x42 ∷ 0x58 ∷ 0x01 ∷ [] reads_as stopped 2 0x4142_5801)
    ∷ (H reads_as ended [])
    ∷ (H ++ (0x04 ∷ []) reads_as reads (text []) 1 (ended []))
    ∷ (H ++ (0x24 ∷ 0x00 ∷ 0x00 ∷ []) reads_as reads (text []) 3 (ended []))
    ∷ (H ++ (0x24 ∷ 0x00 ∷ []) reads_as stopped 3 0)
    ∷ (H ++ (0x24 ∷ 0x00 ∷ 0x02 ∷ 0x41 ∷ []) reads_as stopped 4 0)
    ∷ (H ++ (0x0F ∷ []) reads_as stopped 9 15)
    ∷ (H ++ (0x32 ∷ 0x00 ∷ 0x00 ∷ []) reads_as stopped 6 0)
    ∷ (H ++ (0x32 ∷ 0xFF ∷ 0xFF ∷ 0x00 ∷ 0x01 ∷ 0x70 ∷ 0xEF ∷ 0xFF ∷ 0xFF ∷ 0x00 ∷ 0x01 ∷ 0x76 ∷ []) reads_as stopped 8 224)
    ∷ (H ++ (0x32 ∷ 0xFF ∷ 0xFF ∷ 0x00 ∷ 0x01 ∷ 0xC0 ∷ []) reads_as stopped 7 0)
    ∷ (H ++ (0x32 ∷ 0xFF ∷ 0xFF ∷ 0x00 ∷ 0x01 ∷ 0x70 ∷ 0xCF ∷ 0x00 ∷ 0x00 ∷ []) reads_as reads (bare Token.start_tag p ∷ is_true p ∷ []) 9 (ended (p ∷ [])))
    ∷ []

pub starred : map (λ c. read c.input) cases ≡ map (λ c. c.reading) cases
unfolding cases read Header.header Header.u32_at Token.command Token.type U.octets U.well_formed G.most G.byte G.u16 G.u32 G.u64 G.raw G.utf8 G.blob G.string G.counted G.after G.counted_name G.counted_value G.shaped G.name G.value G.attribute G.first G.attributes_f G.event Row.shapes Row.shape D.bytes_at D.ref_bytes D.keep D.name_bytes D.keep_name D.value_of D.keep_value D.type_of D.keep_item D.row_of D.rows_of D.pool_of D.ending D.read_one D.read_f
starred = refl
