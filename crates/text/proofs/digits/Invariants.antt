use Rattle.text.proofs.Steps.{Digits}
use Rattle.text.proofs.digits.Given as goal

abbrev pub invariant-loop-left : goal.invariant-loop-left
invariant-loop-left g l = Digits g.row.BASE l.n l.bytes l.start l.left

abbrev pub decreases-loop-left : goal.decreases-loop-left
decreases-loop-left g l = l.left
