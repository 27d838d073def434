-- `xml_chars::illegal_in` meets its contract. The invariant of its loop is what it ensures, of the places up to k.
use Rattle.xml_chars.specs.Reading.{IsAnyIllegal}
use Rattle.xml_chars.proofs.illegal_in.Given as goal

abbrev pub invariant-loop-k : goal.invariant-loop-k
invariant-loop-k l = IsAnyIllegal l.s l.i l.k l.any
