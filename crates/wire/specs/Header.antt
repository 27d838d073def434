-- Integers on the wire, big-endian, and the header of a document.
use Rattle.std.specs.Prelude.{cond, List, [], ◌∷◌, ℕ, ◌+◌, ◌*◌, ◌/◌, ◌%◌, ltb, eqb, length, get_or}
use Rattle.wire.specs.Refusal.{header_short, invalid_magic}

-- four bytes as a u32, big-endian
abbrev pub u32_of : ℕ → ℕ → ℕ → ℕ → ℕ
u32_of a b c d = ((a * 256 + b) * 256 + c) * 256 + d

-- those from a place on
unfoldable pub u32_at : List ℕ → ℕ → ℕ
u32_at s at = u32_of (get_or s at 0) (get_or s (at + 1) 0) (get_or s (at + 2) 0) (get_or s (at + 3) 0)

-- a u16 and a u32 as bytes
unfoldable pub be16 : ℕ → List ℕ
be16 n = n / 256 % 256 ∷ n % 256 ∷ []

unfoldable pub be32 : ℕ → List ℕ
be32 n = n / 16777216 % 256 ∷ n / 65536 % 256 ∷ n / 256 % 256 ∷ n % 256 ∷ []

-- ---- the header

-- "ABX" and a zero
abbrev pub magic_bytes : List ℕ
magic_bytes = 0x41 ∷ 0x42 ∷ 0x58 ∷ 0x00 ∷ []

-- the same four bytes as a u32
abbrev pub magic : ℕ
magic = 0x4142_5800

-- whether a document's first bytes are the header: passed, or a refusal with its number and detail
pub data Check : Type 0 where
  passed : Check
  refused : ℕ → ℕ → Check

unfoldable pub header : List ℕ → Check
header s = cond (ltb (length s) 4) (refused header_short 0) (cond (eqb (u32_at s 0) magic) passed (refused invalid_magic (u32_at s 0)))
