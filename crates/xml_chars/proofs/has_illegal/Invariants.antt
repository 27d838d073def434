-- `xml_chars::has_illegal` meets its contract. Its loops keep that no illegal character begins before their place.
use Rattle.std.proofs.Common.{◌≡◌, ◌-◌, ◌≤◌, length, drop}
use Rattle.xml_chars.specs.Scan.{clean}
use Rattle.xml_chars.proofs.has_illegal.Given as goal

abbrev pub invariant-loop-i : goal.invariant-loop-i
invariant-loop-i l = (l.i ≤ length l.s) × (clean l.s ≡ clean (drop l.i l.s))

abbrev pub decreases-loop-i : goal.decreases-loop-i
decreases-loop-i l = length l.s - l.i

abbrev pub invariant-loop-k : goal.invariant-loop-k
invariant-loop-k l = clean l.s ≡ clean (drop l.k l.s)
