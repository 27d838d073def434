use Rattle.std.proofs.Common.{◌≤◌, length}
use Rattle.abx2xml.proofs.print_by.Given as goal

abbrev pub invariant-loop : goal.invariant-loop
invariant-loop l = l.at ≤ length l.out
