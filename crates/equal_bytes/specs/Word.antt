-- Bytes as a word.
use Rattle.std.specs.Prelude.{List, [], ◌∷◌, ℕ, ◌+◌, ◌*◌, ◌<◌, get_or}

-- bytes as a number, the first lowest; eight bytes are a word
unfoldable pub word_of : List ℕ → ℕ
word_of [] = 0
word_of (b ∷ s) = b + 256 * word_of s

-- a list of bytes
abbrev pub Bytes : List ℕ → Type 0
Bytes s = (i : ℕ) → get_or s i 0 < 256
