-- The XML text of events.
use Rattle.std.specs.Prelude.{cond, List, [], ◌∷◌, ◌++◌, ℕ, ◌+◌, ◌*◌, ◌-◌, ltb, eqb}
use Rattle.wire.specs.Token as Token
use Rattle.event.specs.Row.{Row, Event}
use Rattle.event.specs.Row as Row
use Rattle.wire.specs.Header.{be32}
use Rattle.text.specs.Ascii.{ascii}
use Rattle.text.specs.Numerals.{hex, numeral, base64}

-- ---- strings

-- the five characters that are escaped, in texts and in values alike
unfoldable pub escaped : ℕ → List ℕ
escaped b =
    cond (eqb b 60) (ascii "&lt;")
    (cond (eqb b 62) (ascii "&gt;")
    (cond (eqb b 38) (ascii "&amp;")
    (cond (eqb b 34) (ascii "&quot;")
    (cond (eqb b 39) (ascii "&apos;") (b ∷ [])))))

unfoldable pub escape : List ℕ → List ℕ
escape [] = []
escape (b ∷ s) = escaped b ++ escape s

-- ---- values

-- bits as a signed number, in two's complement; `half` is the value of the sign's bit
unfoldable pub signed : ℕ → ℕ → ℕ → List ℕ
signed base half n = cond (ltb n half) (numeral base n) (ascii "-" ++ numeral base (2 * half - n))

-- by type: a boolean or null; a string or a blob; 32 bits; 64 bits
unfoldable pub value_xml : ℕ → Row.Value → List ℕ
value_xml type Row.nothing = cond (eqb type Token.boolean_true) (ascii "true") (cond (eqb type Token.boolean_false) (ascii "false") [])
value_xml type (Row.bytes s) = cond (eqb type Token.bytes_hex) (hex s) (cond (eqb type Token.bytes_base64) (base64 s) (escape s))
value_xml type (Row.word b) =
    cond (eqb type Token.int) (signed 10 2_147_483_648 b) (cond (eqb type Token.int_hex) (signed 16 2_147_483_648 b) (hex (be32 b)))
value_xml type (Row.pair a b) =
    cond (eqb type Token.long) (signed 10 9_223_372_036_854_775_808 (a * 4_294_967_296 + b))
    (cond (eqb type Token.long_hex) (signed 16 9_223_372_036_854_775_808 (a * 4_294_967_296 + b)) (hex (be32 a ++ be32 b)))

-- ---- events

-- one space before each attribute
unfoldable pub attribute_xml : Row → List ℕ
attribute_xml r = ascii " " ++ r.name ++ ascii "=\"" ++ value_xml r.type r.value ++ ascii "\""

unfoldable pub attributes_xml : List Row → List ℕ
attributes_xml [] = []
attributes_xml (r ∷ rs) = attribute_xml r ++ attributes_xml rs

-- the string of a text, as it is
abbrev pub text_of : Row.Value → List ℕ
text_of Row.nothing = []
text_of (Row.bytes s) = s
text_of (Row.word b) = []
text_of (Row.pair a b) = []

-- the kinds 4 to 10, each by its string
unfoldable pub text_xml : ℕ → List ℕ → List ℕ
text_xml kind t =
    cond (eqb kind Token.text) (escape t)
    (cond (eqb kind Token.cdata) (ascii "<![CDATA[" ++ t ++ ascii "]]>")
    (cond (eqb kind Token.entity_ref) (ascii "&" ++ t ++ ascii ";")
    (cond (eqb kind Token.ignorable_whitespace) t
    (cond (eqb kind Token.processing_instruction) (ascii "<?" ++ t ++ ascii "?>")
    (cond (eqb kind Token.comment) (ascii "<!--" ++ t ++ ascii "-->") (ascii "<!DOCTYPE " ++ t ++ ascii ">"))))))

-- document events print nothing
unfoldable pub event_xml : Event → List ℕ
event_xml [] = []
event_xml (r ∷ rs) =
    cond (ltb r.kind Token.start_tag) []
    (cond (eqb r.kind Token.start_tag) (ascii "<" ++ r.name ++ attributes_xml rs ++ ascii ">")
    (cond (eqb r.kind Token.end_tag) (ascii "</" ++ r.name ++ ascii ">") (text_xml r.kind (text_of r.value))))

-- nothing stands between events
unfoldable pub xml : List Event → List ℕ
xml [] = []
xml (e ∷ es) = event_xml e ++ xml es
