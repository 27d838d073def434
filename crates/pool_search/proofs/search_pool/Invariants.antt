use Rattle.std.proofs.Common.{◌≡◌}
use Rattle.pool_search.specs.Search.{searched}
use Rattle.pool_search.proofs.Searches.{left}
use Rattle.pool_search.proofs.search_pool.Given as goal

abbrev pub invariant-loop-i : goal.invariant-loop-i
invariant-loop-i l = left l.output l.name l.pool l.names l.i ≡ searched l.output l.names l.pool l.name
