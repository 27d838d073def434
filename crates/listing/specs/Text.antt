-- The signs of the listing, its numbers and its names and values, in ASCII.
use Rattle.std.specs.Prelude.{Bool, true, false, List, [], ◌∷◌, ℕ}
use Rattle.text.specs.Numerals.{hex, numeral}

abbrev pub newline : ℕ
newline = 10

abbrev pub space : ℕ
space = 32

abbrev pub dash : ℕ
dash = 45

abbrev pub equals : ℕ
equals = 61

abbrev pub decimal : ℕ → List ℕ
decimal n = numeral 10 n

-- bytes that may be absent: `-` then, and `=` if there are none
unfoldable pub field : Bool → List ℕ → List ℕ
field false s = dash ∷ []
field true [] = equals ∷ []
field true (b ∷ s) = hex (b ∷ s)
