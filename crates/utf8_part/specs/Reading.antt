-- What a look at some octets says.
use Rattle.std.specs.Prelude.{ℕ, ◌<◌, List, get_or}

-- of the first m octets of s those are ASCII whose number in t is under n
pub record Low (s : List ℕ) (n : ℕ) (t : List ℕ) (m : ℕ) : Type 0 where
  pub low : (k : ℕ) → k < m → get_or t k 0 < n → get_or s k 0 < 0x80
