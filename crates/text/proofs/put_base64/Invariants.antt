use Rattle.std.proofs.Common.{length}
use Rattle.text.specs.Numerals.{base64}
use Rattle.text.specs.Laws.{Begun}
use Rattle.text.proofs.put_base64.Given as goal

abbrev pub invariant-loop-rest : goal.invariant-loop-rest
invariant-loop-rest l = Begun base64 l.s l.initial.out l.at l.rest l.out l.place

abbrev pub decreases-loop-rest : goal.decreases-loop-rest
decreases-loop-rest l = length l.rest
