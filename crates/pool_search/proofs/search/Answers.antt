use native.Mathlib.Omega.{arith}
use Rattle.pool_search.proofs.Searches.{left-none}
use Rattle.pool_search.proofs.search.Goals as goal

pub returns-then-names-eq0 : goal.returns-then-names-eq0
returns-then-names-eq0 c =
    let a = c.args in
    λ r m. left-none a.output.now a.name.now a.pool.now a.names c.if-names-eq0.true

pub returns-then-pool-names : goal.returns-then-pool-names
returns-then-pool-names c = λ r m. absurd (omega (arith, r))

pub returns-then-index-eq81920 : goal.returns-then-index-eq81920
returns-then-index-eq81920 c = λ r m. c.search_index.ensures (m.indexed c.if-index-eq81920.true)
