-- A value of each type and a text of each kind, computed: no law sees how many bytes a type's value has, nor which kinds have a string.
use Rattle.std.specs.Prelude.{List, [], ◌∷◌, ◌++◌, ◌≡◌, refl, ℕ}
use Rattle.wire.specs.Header as Header
use Rattle.wire.specs.Token as Token
use Rattle.utf8.specs.Utf8 as U
use Rattle.event.specs.Row as Row
use Rattle.event.specs.Row.{Row, Event}
use Rattle.grammar.specs.Grammar as G
use Rattle.grammar.specs.Document as D
use Rattle.grammar.specs.Document.{ended, read}
use Rattle.grammar.proofs.Steps.{chain}
use Rattle.grammar.specs.Example.{bare, p, v}

-- a start tag `p` with an attribute of each type; the first is a new name `v`, the others have it by its index
unfoldable pub types : List ℕ
types =
    (0x32 ∷ 0xFF ∷ 0xFF ∷ 0x00 ∷ 0x01 ∷ 0x70 ∷ [])
    ++ (0x1F ∷ 0xFF ∷ 0xFF ∷ 0x00 ∷ 0x01 ∷ 0x76 ∷ [])
    ++ (0x2F ∷ 0x00 ∷ 0x01 ∷ 0x00 ∷ 0x02 ∷ 0x61 ∷ 0x62 ∷ [])
    ++ (0x3F ∷ 0x00 ∷ 0x01 ∷ 0xFF ∷ 0xFF ∷ 0x00 ∷ 0x01 ∷ 0x63 ∷ [])
    ++ (0x3F ∷ 0x00 ∷ 0x01 ∷ 0x00 ∷ 0x02 ∷ [])
    ++ (0x4F ∷ 0x00 ∷ 0x01 ∷ 0x00 ∷ 0x02 ∷ 0xFF ∷ 0x00 ∷ [])
    ++ (0x5F ∷ 0x00 ∷ 0x01 ∷ 0x00 ∷ 0x01 ∷ 0xC0 ∷ [])
    ++ (0x6F ∷ 0x00 ∷ 0x01 ∷ 0x01 ∷ 0x02 ∷ 0x03 ∷ 0x04 ∷ [])
    ++ (0x7F ∷ 0x00 ∷ 0x01 ∷ 0x01 ∷ 0x02 ∷ 0x03 ∷ 0x04 ∷ [])
    ++ (0x8F ∷ 0x00 ∷ 0x01 ∷ 0x01 ∷ 0x02 ∷ 0x03 ∷ 0x04 ∷ 0x05 ∷ 0x06 ∷ 0x07 ∷ 0x08 ∷ [])
    ++ (0x9F ∷ 0x00 ∷ 0x01 ∷ 0x01 ∷ 0x02 ∷ 0x03 ∷ 0x04 ∷ 0x05 ∷ 0x06 ∷ 0x07 ∷ 0x08 ∷ [])
    ++ (0xAF ∷ 0x00 ∷ 0x01 ∷ 0x01 ∷ 0x02 ∷ 0x03 ∷ 0x04 ∷ [])
    ++ (0xBF ∷ 0x00 ∷ 0x01 ∷ 0x01 ∷ 0x02 ∷ 0x03 ∷ 0x04 ∷ 0x05 ∷ 0x06 ∷ 0x07 ∷ 0x08 ∷ [])
    ++ (0xCF ∷ 0x00 ∷ 0x01 ∷ [])
    ++ (0xDF ∷ 0x00 ∷ 0x01 ∷ [])

abbrev value : ℕ → Row.Value → Row
value type x = record { kind = Token.attribute; name = v; type = type; value = x }

unfoldable pub typed : Event
typed =
    bare Token.start_tag p
    ∷ value Token.null Row.nothing
    ∷ value Token.string (Row.bytes (0x61 ∷ 0x62 ∷ []))
    -- an interned string, new and by its index, is a string once it is read
    ∷ value Token.string (Row.bytes (0x63 ∷ []))
    ∷ value Token.string (Row.bytes (0x63 ∷ []))
    ∷ value Token.bytes_hex (Row.bytes (0xFF ∷ 0x00 ∷ []))
    ∷ value Token.bytes_base64 (Row.bytes (0xC0 ∷ []))
    ∷ value Token.int (Row.word 0x0102_0304)
    ∷ value Token.int_hex (Row.word 0x0102_0304)
    ∷ value Token.long (Row.pair 0x0102_0304 0x0506_0708)
    ∷ value Token.long_hex (Row.pair 0x0102_0304 0x0506_0708)
    ∷ value Token.float (Row.word 0x0102_0304)
    ∷ value Token.double (Row.pair 0x0102_0304 0x0506_0708)
    ∷ value Token.boolean_true Row.nothing
    ∷ value Token.boolean_false Row.nothing
    ∷ []

-- a document event, an end tag with any type nibble, and each kind of text, with a string and with none
unfoldable pub kinds : List ℕ
kinds =
    (0xF0 ∷ 0x53 ∷ 0x00 ∷ 0x00 ∷ [])
    ++ (0x24 ∷ 0x00 ∷ 0x01 ∷ 0x61 ∷ 0x25 ∷ 0x00 ∷ 0x01 ∷ 0x62 ∷ 0x26 ∷ 0x00 ∷ 0x01 ∷ 0x63 ∷ 0x27 ∷ 0x00 ∷ 0x01 ∷ 0x20 ∷ [])
    ++ (0x28 ∷ 0x00 ∷ 0x01 ∷ 0x64 ∷ 0x29 ∷ 0x00 ∷ 0x01 ∷ 0x65 ∷ 0x2A ∷ 0x00 ∷ 0x01 ∷ 0x66 ∷ [])
    ++ (0x34 ∷ 0x15 ∷ 0x06 ∷ 0xF7 ∷ 0x68 ∷ 0xC9 ∷ 0x3A ∷ 0x01 ∷ [])

abbrev text : ℕ → List ℕ → Event
text kind s = record { kind = kind; name = []; type = Token.string; value = Row.bytes s } ∷ []

unfoldable pub texts : List Event
texts =
    (bare Token.start_document [] ∷ []) ∷ (bare Token.end_tag p ∷ [])
    ∷ text Token.text (0x61 ∷ []) ∷ text Token.cdata (0x62 ∷ []) ∷ text Token.entity_ref (0x63 ∷ []) ∷ text Token.ignorable_whitespace (0x20 ∷ [])
    ∷ text Token.processing_instruction (0x64 ∷ []) ∷ text Token.comment (0x65 ∷ []) ∷ text Token.doc_decl (0x66 ∷ [])
    ∷ text Token.text [] ∷ text Token.cdata [] ∷ text Token.entity_ref [] ∷ text Token.ignorable_whitespace []
    ∷ text Token.processing_instruction [] ∷ text Token.comment [] ∷ text Token.doc_decl []
    ∷ (bare Token.end_document [] ∷ []) ∷ []

-- the events with their lengths, and the pool at the end
pub read-by-shape : read (Header.magic_bytes ++ (types ++ kinds))
    ≡ chain (typed ∷ texts) (105 ∷ 1 ∷ 3 ∷ 4 ∷ 4 ∷ 4 ∷ 4 ∷ 4 ∷ 4 ∷ 4 ∷ 1 ∷ 1 ∷ 1 ∷ 1 ∷ 1 ∷ 1 ∷ 1 ∷ 1 ∷ []) (ended (p ∷ v ∷ (0x63 ∷ []) ∷ []))
unfolding types typed kinds texts read Header.header Header.u32_at Token.command Token.type U.octets U.well_formed G.most G.byte G.u16 G.u32 G.u64 G.raw G.utf8 G.blob G.string G.counted G.after G.counted_name G.counted_value G.shaped G.name G.value G.attribute G.first G.attributes_f G.event Row.shapes Row.shape D.bytes_at D.ref_bytes D.keep D.name_bytes D.keep_name D.value_of D.keep_value D.type_of D.keep_item D.row_of D.rows_of D.pool_of D.ending D.read_one D.read_f
read-by-shape = refl
