-- XML 1.0's Char production, over the characters of well-formed UTF-8.
use Rattle.std.specs.Prelude.{Bool, true, ◌&&◌, ◌||◌, cond, List, [], ◌∷◌, ℕ, zero, suc, ◌+◌, ◌*◌, ◌-◌, ltb, leb, eqb}

-- `[2] Char ::= #x9 | #xA | #xD | [#x20-#xD7FF] | [#xE000-#xFFFD] | [#x10000-#x10FFFF]`
unfoldable pub is_char : ℕ → Bool
is_char c =
    eqb c 9 || eqb c 10 || eqb c 13 || (leb 32 c && leb c 55295) || (leb 57344 c && leb c 65533) || (leb 65536 c && leb c 1114111)

-- the characters of octets, of which the first `left` go on with a character whose bits so far are `bits`
unfoldable pub chars_from : ℕ → ℕ → List ℕ → List ℕ
chars_from bits left [] = []
chars_from bits zero (b ∷ s) =
    let one = b ∷ chars_from 0 0 s in
    let two = chars_from (b - 192) 1 s in
    let three = chars_from (b - 224) 2 s in
    let four = chars_from (b - 240) 3 s in
    cond (ltb b 128) one (cond (ltb b 224) two (cond (ltb b 240) three four))
chars_from bits (suc zero) (b ∷ s) = (bits * 64 + (b - 128)) ∷ chars_from 0 0 s
chars_from bits (suc (suc left)) (b ∷ s) = chars_from (bits * 64 + (b - 128)) (suc left) s

-- the characters of a string
abbrev pub chars : List ℕ → List ℕ
chars s = chars_from 0 0 s

unfoldable pub all_chars : List ℕ → Bool
all_chars [] = true
all_chars (c ∷ s) = is_char c && all_chars s

-- a string of which every character is one of XML 1.0's
unfoldable pub legal : List ℕ → Bool
legal s = all_chars (chars s)
