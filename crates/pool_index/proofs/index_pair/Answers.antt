use native.Mathlib.Omega.{arith}
use lib.ListN.{length-set}
use Rattle.pool_index.proofs.index_pair.Goals as goal

pub bounds-index-slot-2 : goal.bounds-index-slot-2
bounds-index-slot-2 c = rw length-set (omega arith)
