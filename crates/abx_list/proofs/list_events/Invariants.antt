use Rattle.std.proofs.Common.{◌≤◌, length}
use Rattle.abx_list.proofs.list_events.Given as goal

abbrev pub invariant-loop-events : goal.invariant-loop-events
invariant-loop-events l = l.at ≤ length l.out
