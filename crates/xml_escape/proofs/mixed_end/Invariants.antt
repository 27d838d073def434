-- `xml_escape::mixed_end` meets its contract. Its loop counts what the octets before i take over their own.
use Prim.Native.Nat.{◌+◌, ◌-◌, ◌≤◌}
use mathlib.Core.Path.{◌≡◌}
use lib.ListN.{length, take}
use Rattle.text.specs.Put.{after}
use Rattle.xml_escape.specs.Extra.{extras}
use Rattle.xml_escape.proofs.mixed_end.Given as goal

abbrev pub invariant-loop-i : goal.invariant-loop-i
invariant-loop-i l = (l.i ≤ length l.s) × (l.place ≡ after l.limit l.at (length l.s + extras (take l.i l.s)))

abbrev pub decreases-loop-i : goal.decreases-loop-i
decreases-loop-i l = length l.s - l.i
