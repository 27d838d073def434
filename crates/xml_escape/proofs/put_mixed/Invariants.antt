-- `xml_escape::put_mixed` meets its contract. Its loop keeps that the octets before i are put.
use Prim.Native.Nat.{◌-◌}
use lib.ListN.{length}
use Rattle.xml_escape.proofs.Turns.{UpTo}
use Rattle.xml_escape.proofs.put_mixed.Given as goal

abbrev pub invariant-loop-i : goal.invariant-loop-i
invariant-loop-i l = UpTo l.s l.initial.out l.at l.i l.out l.place

abbrev pub decreases-loop-i : goal.decreases-loop-i
decreases-loop-i l = length l.s - l.i
