use Rattle.writer.proofs.Links.{Looking}
use Rattle.writer.proofs.notes.look_up.Given as goal

abbrev pub invariant-loop-next : goal.invariant-loop-next
invariant-loop-next l = Looking l.first l.second l.notes l.heads l.name l.next

abbrev pub decreases-loop-next : goal.decreases-loop-next
decreases-loop-next l = l.next
