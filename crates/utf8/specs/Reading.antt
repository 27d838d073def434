-- What the contracts of the code's own functions say: how far a text has been read, and what the last three octets leave to read.
-- Assumes nothing.
use Rattle.std.specs.Prelude.{ℕ, ◌+◌, ◌≤◌, ◌<◌, ◌≡◌, Bool, true, false, ◌&&◌, ◌||◌, not, cond, List, [], ◌∷◌, leb, ltb, eqb, length, get_or, take, drop}
use Rattle.std.specs.Bool.{beq}
use Rattle.utf8.specs.Utf8.{Range, ◌to◌, within, UTF8-tail, octets, well_formed}

-- ASCII but NUL
abbrev pub ascii : ℕ → Bool
ascii x = leb 1 x && ltb x 0x80

-- octets of ASCII stand from i up to j
pub record Ascii (s : List ℕ) (i j : ℕ) : Type 0 where
  pub from : i ≤ j
  pub inside : j ≤ length s
  pub low : (k : ℕ) → i ≤ k → k < j → get_or s k 0 < 0x80

-- a UTF8-char of n octets stands at i
pub record Character (s : List ℕ) (i n : ℕ) : Type 0 where
  pub some : 0 < n
  pub inside : i + n ≤ length s
  pub whole : well_formed (take n (drop i s)) ≡ true

-- s is well-formed up to r, which is j or past it
pub record Walk (s : List ℕ) (j r : ℕ) : Type 0 where
  pub far : j ≤ r
  pub inside : r ≤ length s
  pub whole : well_formed (take r s) ≡ true

-- C0, C1 and F5 to FF
abbrev pub never : ℕ → Bool
never x = leb 0xC0 x && ltb x 0xC2 || leb 0xF5 x

-- after the first octet c no x may stand, though it be a UTF8-tail
abbrev pub barred : ℕ → ℕ → Bool
barred c x = eqb c (cond (ltb x 0xA0) 0xE0 0xED) || eqb c (cond (ltb x 0x90) 0xF0 0xF4)

-- after a, b and c a UTF8-tail must stand
abbrev pub due : ℕ → ℕ → ℕ → Bool
due a b c = leb 0xC0 c || leb 0xE0 b || leb 0xF0 a

-- after a, b and c no x may stand
abbrev pub broken : ℕ → ℕ → ℕ → ℕ → Bool
broken a b c x = not (beq (due a b c) (within UTF8-tail x)) || never x || barred c x

-- the range of the octet after the first octet c
abbrev pub second : ℕ → Range
second c =
    cond (eqb c 0xE0) (0xA0 to 0xBF)
    (cond (eqb c 0xED) (0x80 to 0x9F) (cond (eqb c 0xF0) (0x90 to 0xBF) (cond (eqb c 0xF4) (0x80 to 0x8F) UTF8-tail)))

-- two tails where p says so, one where q does, or none
abbrev pub tails : Bool → Bool → List Range
tails p q = cond p (UTF8-tail ∷ UTF8-tail ∷ []) (cond q (UTF8-tail ∷ []) [])

-- what is left of a UTF8-char after a, b and c
abbrev pub left : ℕ → ℕ → ℕ → List Range
left a b c = cond (due a b c) (second c ∷ tails (leb 0xF0 c) (leb 0xE0 c || leb 0xF0 b)) []

-- these at the octets from i on
unfoldable pub due_at : List ℕ → ℕ → Bool
due_at s i = due (get_or s i 0) (get_or s (i + 1) 0) (get_or s (i + 2) 0)

unfoldable pub broken_at : List ℕ → ℕ → Bool
broken_at s i = broken (get_or s i 0) (get_or s (i + 1) 0) (get_or s (i + 2) 0) (get_or s (i + 3) 0)

unfoldable pub after : List ℕ → ℕ → Bool
after s i = octets (left (get_or s i 0) (get_or s (i + 1) 0) (get_or s (i + 2) 0)) (drop (i + 3) s)

-- n octets are read, the first of them after the three from i on: r says whether one is broken
pub record Scan (s : List ℕ) (i n : ℕ) (r : Bool) : Type 0 where
  pub clean : r ≡ false → (j : ℕ) → j ≤ n → after s (i + j) ≡ after s i
  pub found : r ≡ true → well_formed s ≡ false
