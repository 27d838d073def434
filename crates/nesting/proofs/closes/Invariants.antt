use Rattle.std.proofs.Common.{List, [], ◌≡◌, ℕ, length}
use Rattle.nesting_spec.specs.OnePass.{nested}
use Rattle.nesting.specs.Reading.{tags}
use Rattle.nesting.proofs.closes.Given as goal

abbrev pub invariant-loop-row : goal.invariant-loop-row
invariant-loop-row l = (first second : List ℕ) → nested (tags first second l.rows) [] ≡ nested (tags first second l.rest) []

abbrev pub decreases-loop-row : goal.decreases-loop-row
decreases-loop-row l = length l.rest
