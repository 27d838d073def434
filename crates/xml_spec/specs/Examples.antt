-- The text of the request's examples, and of others on the edges, computed.
use Rattle.std.specs.Prelude.{true, false, [], ◌∷◌, ◌≡◌, refl, ℕ}
use Rattle.wire.specs.Token as Token
use Rattle.event.specs.Row.{Row}
use Rattle.event.specs.Row as Row
use Rattle.wire.specs.Header as Header
use Rattle.text.specs.Ascii.{ascii}
use Rattle.text.specs.Numerals as N
use Rattle.xml_spec.specs.Chars as C
use Rattle.xml_spec.specs.Chars.{legal}
use Rattle.xml_spec.specs.Xml as X
use Rattle.xml_spec.specs.Xml.{value_xml, xml}

abbrev a : ℕ → Row.Value → Row
a type v = record { kind = 15; name = ascii "a"; type = type; value = v }

-- each type's value: CAFEBABE as hex is -35014542
pub int-hex : value_xml Token.int_hex (Row.word 3405691582) ≡ ascii "-35014542"
unfolding value_xml X.signed N.numeral N.numeral_in N.digit
int-hex = refl

pub int-hex-least : value_xml Token.int_hex (Row.word 2147483648) ≡ ascii "-80000000"
unfolding value_xml X.signed N.numeral N.numeral_in N.digit
int-hex-least = refl

pub int-least : value_xml Token.int (Row.word 2147483648) ≡ ascii "-2147483648"
unfolding value_xml X.signed N.numeral N.numeral_in N.digit
int-least = refl

pub long-least : value_xml Token.long (Row.pair 2147483648 0) ≡ ascii "-9223372036854775808"
unfolding value_xml X.signed N.numeral N.numeral_in N.digit
long-least = refl

pub long-hex-last : value_xml Token.long_hex (Row.pair 4294967295 4294967295) ≡ ascii "-1"
unfolding value_xml X.signed N.numeral N.numeral_in N.digit
long-hex-last = refl

pub float_one : value_xml Token.float (Row.word 1065353216) ≡ ascii "3f800000"
unfolding value_xml N.hex N.digit Header.be32
float_one = refl

pub base64-f : value_xml Token.bytes_base64 (Row.bytes (ascii "f")) ≡ ascii "Zg=="
unfolding value_xml N.base64 N.letter
base64-f = refl

pub base64-foobar : value_xml Token.bytes_base64 (Row.bytes (ascii "foobar")) ≡ ascii "Zm9vYmFy"
unfolding value_xml N.base64 N.letter
base64-foobar = refl

-- a list
pub a-list : xml
    ((record { kind = 0; name = []; type = 0; value = Row.nothing } ∷ [])
    ∷ (record { kind = 2; name = ascii "p"; type = 0; value = Row.nothing } ∷ a Token.string (Row.bytes (ascii "<'\"")) ∷ a Token.null Row.nothing ∷ a Token.boolean_true Row.nothing ∷ [])
    ∷ (record { kind = 4; name = []; type = 2; value = Row.bytes (ascii "1 > 0 & 2") } ∷ [])
    ∷ (record { kind = 9; name = []; type = 2; value = Row.bytes (ascii "<&>") } ∷ [])
    ∷ (record { kind = 3; name = ascii "p"; type = 0; value = Row.nothing } ∷ [])
    ∷ [])
    ≡ ascii "<p a=\"&lt;&apos;&quot;\" a=\"\" a=\"true\">1 &gt; 0 &amp; 2<!--<&>--></p>"
unfolding xml X.event_xml X.attributes_xml X.attribute_xml X.value_xml X.text_xml X.escape X.escaped
a-list = refl

-- Char: U+0009 and U+10FFFF are, U+001F and U+FFFE are not
pub tab-legal : legal (9 ∷ []) ≡ true
unfolding legal C.all_chars C.is_char C.chars_from
tab-legal = refl

pub unit-separator-illegal : legal (31 ∷ []) ≡ false
unfolding legal C.all_chars C.is_char C.chars_from
unit-separator-illegal = refl

pub fffe-illegal : legal (239 ∷ 191 ∷ 190 ∷ []) ≡ false
unfolding legal C.all_chars C.is_char C.chars_from
fffe-illegal = refl

pub fffd-legal : legal (239 ∷ 191 ∷ 189 ∷ []) ≡ true
unfolding legal C.all_chars C.is_char C.chars_from
fffd-legal = refl

pub last-legal : legal (244 ∷ 143 ∷ 191 ∷ 191 ∷ []) ≡ true
unfolding legal C.all_chars C.is_char C.chars_from
last-legal = refl
