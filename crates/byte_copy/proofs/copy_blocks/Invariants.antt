use Rattle.std.proofs.Common.{◌-◌, ◌≤◌, length}
use Rattle.byte_copy.proofs.Blocks.{Copied}
use Rattle.byte_copy.proofs.copy_blocks.Given as goal

abbrev pub invariant-loop-at : goal.invariant-loop-at
invariant-loop-at g l = (l.at ≤ length l.from) × Copied l.from l.to l.at

abbrev pub decreases-loop-at : goal.decreases-loop-at
decreases-loop-at g l = l.last - l.at
