-- Words, computed: no law sees which byte of a word is its lowest.
use Rattle.std.specs.Prelude.{[], ◌∷◌, ◌≡◌, refl}
use Rattle.equal_bytes.specs.Word.{word_of}

pub zero_word : word_of (0x00 ∷ 0x00 ∷ 0x00 ∷ 0x00 ∷ 0x00 ∷ 0x00 ∷ 0x00 ∷ 0x00 ∷ []) ≡ 0
unfolding word_of
zero_word = refl

-- the first byte is the lowest, the eighth the highest
pub lowest : word_of (0x01 ∷ 0x00 ∷ 0x00 ∷ 0x00 ∷ 0x00 ∷ 0x00 ∷ 0x00 ∷ 0x00 ∷ []) ≡ 1
unfolding word_of
lowest = refl

pub highest : word_of (0x00 ∷ 0x00 ∷ 0x00 ∷ 0x00 ∷ 0x00 ∷ 0x00 ∷ 0x00 ∷ 0x01 ∷ []) ≡ 72_057_594_037_927_936
unfolding word_of
highest = refl

pub greatest : word_of (0xFF ∷ 0xFF ∷ 0xFF ∷ 0xFF ∷ 0xFF ∷ 0xFF ∷ 0xFF ∷ 0xFF ∷ []) ≡ 18_446_744_073_709_551_615
unfolding word_of
greatest = refl

pub mixed : word_of (0x0B ∷ 0x30 ∷ 0x55 ∷ 0x7A ∷ 0x9F ∷ 0xC4 ∷ 0xE9 ∷ 0x0E ∷ []) ≡ 1_074_606_175_335_821_323
unfolding word_of
mixed = refl
