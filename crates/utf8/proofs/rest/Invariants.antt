-- `utf8::rest` meets its contract. The invariant of its loop is `Place`: s is read up to k.
-- Assumes nothing.
use Prim.Native.Nat.{◌+◌, ◌-◌}
use mathlib.Core.Path.{◌≡◌}
use lib.ListN.{length}
use Rattle.utf8.proofs.Place.{Place}
use Rattle.utf8.proofs.rest.Given as goal

abbrev pub invariant-loop-k : goal.invariant-loop-k
invariant-loop-k l = (l.last + 16 ≡ length l.s) × Place l.s l.k l.pending

abbrev pub decreases-loop-k : goal.decreases-loop-k
decreases-loop-k l = length l.s - l.k
