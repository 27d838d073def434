use Prim.Native.Nat.{◌≤◌}
use lib.ListN.{get_or}
use Rattle.pool_index.specs.Index.{Indexed}
use Rattle.pool_search.proofs.Seeking.{Seeking}
use Rattle.pool_search.proofs.search_index.Given as goal

abbrev pub invariant-loop-next : goal.invariant-loop-next
invariant-loop-next l = (l.next ≤ 65535) × (Indexed l.output l.pool l.names l.index → Seeking l.output l.name l.pool l.names (get_or l.index 16384 0) l.next)

abbrev pub decreases-loop-next : goal.decreases-loop-next
decreases-loop-next l = l.next
