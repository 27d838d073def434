use Rattle.abx.proofs.Queried.{query-left}
use Rattle.abx.proofs.queries.abx_attributes_of.Goals as goal

pub returns : goal.returns
returns c = query-left _ _ _ _ c.attributes_of.result _ c.tell.ensures c.attributes_of.ensures
