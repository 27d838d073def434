use Rattle.abx.proofs.Queried.{query-left}
use Rattle.abx.proofs.queries.abx_find_attribute.Goals as goal

pub returns : goal.returns
returns c = query-left _ _ _ _ c.find_attribute.result _ c.tell.ensures c.find_attribute.ensures
