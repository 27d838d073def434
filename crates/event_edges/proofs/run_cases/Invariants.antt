use Rattle.std.proofs.Common.{length}
use Rattle.event_edges.proofs.run_cases.Given as goal

abbrev pub decreases-loop-letter : goal.decreases-loop-letter
decreases-loop-letter l = length l.rest
