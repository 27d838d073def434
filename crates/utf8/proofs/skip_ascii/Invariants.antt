-- `utf8::skip_ascii` meets its contract. Its loop keeps that ASCII stands from i to k.
use Rattle.std.proofs.Common.{◌-◌, length}
use Rattle.utf8.specs.Reading.{Ascii}
use Rattle.utf8.proofs.skip_ascii.Given as goal

abbrev pub invariant-loop-k : goal.invariant-loop-k
invariant-loop-k g l = Ascii l.s l.i l.k

abbrev pub decreases-loop-k : goal.decreases-loop-k
decreases-loop-k g l = length l.s - l.k
