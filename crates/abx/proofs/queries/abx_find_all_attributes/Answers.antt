use Rattle.abx.proofs.Queried.{query-left}
use Rattle.abx.proofs.queries.abx_find_all_attributes.Goals as goal

pub returns : goal.returns
returns c = query-left _ _ _ _ c.find_all_attributes.result _ c.tell.ensures c.find_all_attributes.ensures
