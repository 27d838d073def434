-- Every entry of the pool is taken for sound.
use Rattle.std.specs.Prelude.{Bool, true, ℕ}

abbrev pub always : ℕ → Bool
always i = true
