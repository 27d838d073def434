use Rattle.text.specs.PutLaws.{put_both}
use Rattle.xml_row.proofs.put_two.Goals as goal

pub returns : goal.returns
returns c = put_both _ _ _ _ _ _ _ _ c.put_byte-second.ensures c.put_byte.ensures
