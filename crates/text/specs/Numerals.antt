-- Numbers and bytes as text, in ASCII.
use Rattle.std.specs.Prelude.{cond, List, [], ◌∷◌, ◌++◌, ℕ, zero, suc, ◌+◌, ◌*◌, ◌-◌, ◌/◌, ◌%◌, ltb, eqb}

-- a digit below 16: `0` to `9`, then `a` to `f`
unfoldable pub digit : ℕ → ℕ
digit d = cond (ltb d 10) (48 + d) (87 + d)

-- two digits for each byte
unfoldable pub hex : List ℕ → List ℕ
hex [] = []
hex (b ∷ s) = digit (b / 16) ∷ digit (b % 16) ∷ hex s

-- a number to a base that has at most so many digits, without leading zeros
unfoldable pub numeral_in : ℕ → ℕ → ℕ → List ℕ
numeral_in base zero n = []
numeral_in base (suc most) n =
    let longer = numeral_in base most (n / base) ++ (digit (n % base) ∷ []) in
    cond (ltb n base) (digit n ∷ []) longer

-- a number n has at most n + 1 digits, whatever the base
unfoldable pub numeral : ℕ → ℕ → List ℕ
numeral base n = numeral_in base (suc n) n

-- RFC 4648, table 1: `A` to `Z`, `a` to `z`, `0` to `9`, `+`, `/`
unfoldable pub letter : ℕ → ℕ
letter d = cond (ltb d 26) (65 + d) (cond (ltb d 52) (71 + d) (cond (ltb d 62) (d - 4) (cond (eqb d 62) 43 47)))

abbrev pub pad : ℕ
pad = 61

-- RFC 4648, section 4: three bytes in four letters; one or two bytes at the end are padded
unfoldable pub base64 : List ℕ → List ℕ
base64 [] = []
base64 (a ∷ []) = letter (a / 4) ∷ letter (a % 4 * 16) ∷ pad ∷ pad ∷ []
base64 (a ∷ b ∷ []) = letter (a / 4) ∷ letter (a % 4 * 16 + b / 16) ∷ letter (b % 16 * 4) ∷ pad ∷ []
base64 (a ∷ b ∷ c ∷ s) = letter (a / 4) ∷ letter (a % 4 * 16 + b / 16) ∷ letter (b % 16 * 4 + c / 64) ∷ letter (c % 64) ∷ base64 s
