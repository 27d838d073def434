-- What the contracts of the code's own functions say: which octets are printable, and where an illegal character begins.
use Rattle.std.specs.Prelude.{Bool, ◌&&◌, not, List, ◌≡◌, ℕ, ◌+◌, leb, ltb, get_or, drop}
use Rattle.xml_chars.specs.Scan.{illegal, clean}

-- printable ASCII or DEL
abbrev pub printable : ℕ → Bool
printable b = leb 0x20 b && ltb b 0x80

-- an illegal character begins at the place i; past the end stands 0
abbrev pub illegal_at : List ℕ → ℕ → Bool
illegal_at s i = illegal (get_or s i 0) (get_or s (i + 1) 0) (get_or s (i + 2) 0)

-- whether an illegal character begins at one of the places from i up to j
abbrev pub IsAnyIllegal : List ℕ → ℕ → ℕ → Bool → Type 0
IsAnyIllegal s i j any = clean (drop i s) ≡ (not any && clean (drop j s))
