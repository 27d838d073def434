use Rattle.std.proofs.Common.{◌≡◌, length}
use Rattle.nesting_spec.specs.OnePass.{rooted}
use Rattle.nesting.specs.Reading.{tags}
use Rattle.nesting.proofs.roots.Given as goal

abbrev pub invariant-loop-row : goal.invariant-loop-row
invariant-loop-row l = rooted (tags l.stores.first.now l.stores.second.now l.rows) ≡ rooted (tags l.stores.first.now l.stores.second.now l.rest)

abbrev pub decreases-loop-row : goal.decreases-loop-row
decreases-loop-row l = length l.rest
