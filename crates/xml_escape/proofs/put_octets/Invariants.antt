-- `xml_escape::put_octets` meets its contract. Its loop keeps that the octets so far are put.
use Rattle.xml_escape.proofs.Turns.{UpTo}
use Rattle.xml_escape.proofs.put_octets.Given as goal

abbrev pub invariant-loop-b : goal.invariant-loop-b
invariant-loop-b l = UpTo l.s l.initial.out l.at l.b-index l.out l.place
