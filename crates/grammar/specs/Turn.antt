-- What is read of the attributes of a start tag from a place on.
use Rattle.std.specs.Prelude.{Bool, List, ℕ, length}
use Rattle.grammar.specs.Grammar.{Items, attributes_f}

abbrev pub rest : (ℕ → Bool) → List ℕ → ℕ → ℕ → Items
rest sound s names at = attributes_f sound (length s) names s at
