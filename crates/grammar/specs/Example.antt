-- The listing's input in document 01, and its four events.
use Rattle.std.specs.Prelude.{List, [], ◌∷◌, ◌++◌, ℕ}
use Rattle.wire.specs.Header as Header
use Rattle.wire.specs.Token as Token
use Rattle.event.specs.Row as Row
use Rattle.event.specs.Row.{Row, Event}

unfoldable pub document : List ℕ
document =
    Header.magic_bytes
    ++ (0x10 ∷ 0x32 ∷ 0xFF ∷ 0xFF ∷ 0x00 ∷ 0x01 ∷ 0x70 ∷ 0x6F ∷ 0xFF ∷ 0xFF ∷ 0x00 ∷ 0x01 ∷ 0x76 ∷ 0x00 ∷ 0x00 ∷ 0x00 ∷ 0x03 ∷ 0x33 ∷ 0x00 ∷ 0x00 ∷ 0x11 ∷ [])

-- a row with a kind and a name alone
abbrev pub bare : ℕ → List ℕ → Row
bare kind name = record { kind = kind; name = name; type = 0; value = Row.nothing }

-- the names `p` and `v`
abbrev pub p : List ℕ
p = 0x70 ∷ []

abbrev pub v : List ℕ
v = 0x76 ∷ []

unfoldable pub events : List Event
events =
    (bare Token.start_document [] ∷ [])
    ∷ (bare Token.start_tag p ∷ record { kind = Token.attribute; name = v; type = Token.int; value = Row.word 3 } ∷ [])
    ∷ (bare Token.end_tag p ∷ [])
    ∷ (bare Token.end_document [] ∷ [])
    ∷ []
