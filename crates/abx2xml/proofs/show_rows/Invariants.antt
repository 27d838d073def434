use Rattle.std.proofs.Common.{◌≤◌, length}
use Rattle.abx2xml.proofs.show_rows.Given as goal

abbrev pub invariant-loop-row : goal.invariant-loop-row
invariant-loop-row l = l.at ≤ length l.out
