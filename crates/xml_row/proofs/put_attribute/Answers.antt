use Rattle.text.specs.PutLaws.{put_both}
use Rattle.xml_row.proofs.Laws.{attribute-of}
use Rattle.xml_row.proofs.put_attribute.Goals as goal

pub returns : goal.returns
returns c = rw (attribute-of c.args.first.now c.args.second.now c.args.w.now c.requires, ← c.name_in.ensures) (put_both _ _ _ _ _ _ _ _ (put_both _ _ _ _ _ _ _ _ (put_both _ _ _ _ _ _ _ _ (put_both _ _ _ _ _ _ _ _ c.put_byte-space.ensures c.put-name.ensures) c.put_two-quote.ensures) c.put_value-value.ensures) c.put_byte.ensures)
