use Rattle.text.specs.PutLaws.{put_both}
use Rattle.xml_row.proofs.put_between.Goals as goal

pub returns : goal.returns
returns c = put_both _ _ _ _ _ _ _ _ (put_both _ _ _ _ _ _ _ _ c.put-start.ensures c.put-end.ensures) c.put.ensures
