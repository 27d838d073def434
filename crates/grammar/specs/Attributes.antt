-- Whether an attribute stands at a place.
use Rattle.std.specs.Prelude.{Bool, ◌&&◌, List, ℕ, ltb, eqb, length, get_or}
use Rattle.wire.specs.Token as Token
use Rattle.wire.specs.Token.{command}

-- ---- whether an attribute stands at a place

unfoldable pub is_attribute : List ℕ → ℕ → Bool
is_attribute s at = ltb at (length s) && eqb (command (get_or s at 0)) Token.attribute
