-- `xml_escape::extra_in` meets its contract. The invariant of its loop is what it ensures, of the octets so far.
use Rattle.std.proofs.Common.{◌≡◌, take}
use Rattle.xml_escape.specs.Extra.{extras}
use Rattle.xml_escape.proofs.extra_in.Given as goal

abbrev pub invariant-loop-b : goal.invariant-loop-b
invariant-loop-b l = l.sum ≡ extras (take l.b-index l.s)
