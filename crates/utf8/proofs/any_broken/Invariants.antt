-- `utf8::any_broken` meets its contract. The invariant of its loop is what it ensures, of k octets.
use Rattle.utf8.specs.Reading.{Scan}
use Rattle.utf8.proofs.any_broken.Given as goal

abbrev pub invariant-loop-k : goal.invariant-loop-k
invariant-loop-k l = Scan l.s l.i l.k l.any
