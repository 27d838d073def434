use Rattle.std.proofs.Common.{◌≤◌, length}
use Rattle.event_edges.proofs.value_case.Given as goal

abbrev pub invariant-loop-word : goal.invariant-loop-word
invariant-loop-word l = length l.rest ≤ length l.s
