use Rattle.std.proofs.Common.{◌≤◌, length}
use Rattle.event_edges.proofs.number.Given as goal

abbrev pub invariant-loop-digit : goal.invariant-loop-digit
invariant-loop-digit l = length l.rest ≤ length l.s

abbrev pub decreases-loop-digit : goal.decreases-loop-digit
decreases-loop-digit l = length l.rest
