-- `xml_escape::skip_bare` meets its contract. The invariant of its loop is what it ensures, at k.
use Rattle.std.proofs.Common.{◌-◌, length}
use Rattle.xml_escape.specs.Extra.{Bare}
use Rattle.xml_escape.proofs.skip_bare.Given as goal

abbrev pub invariant-loop-k : goal.invariant-loop-k
invariant-loop-k l = Bare l.s l.i l.k

abbrev pub decreases-loop-k : goal.decreases-loop-k
decreases-loop-k l = length l.s - l.k
