use Rattle.std.proofs.Common.{◌≤◌, length}
use Rattle.abx_list.proofs.show_event.Given as goal

abbrev pub invariant-loop-row : goal.invariant-loop-row
invariant-loop-row l = l.at ≤ length l.out
