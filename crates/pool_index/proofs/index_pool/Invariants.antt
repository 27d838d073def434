use mathlib.Core.Path.{◌≡◌}
use Prim.Native.Nat.{◌≤◌}
use lib.ListN.{length}
use Rattle.slots.specs.Slots.{Fresh}
use Rattle.pool_index.specs.Index.{Chained}
use Rattle.pool_index.proofs.index_pool.Given as goal

abbrev pub invariant-loop-i : goal.invariant-loop-i
invariant-loop-i l = (l.i ≤ l.bound) × (length l.index ≡ length l.initial.index) × (Fresh l.initial.index → Chained l.output l.pool l.bound l.index l.i)

abbrev pub decreases-loop-i : goal.decreases-loop-i
decreases-loop-i l = l.i
