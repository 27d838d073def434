use Rattle.xml_row.proofs.Laws.{attribute-length, after_two}
use Rattle.xml_row.proofs.attribute_end.Goals as goal

pub returns : goal.returns
returns c = rw (attribute-length c.args.first.now c.args.second.now c.args.w.now c.requires, ← c.name_in.ensures) (after_two _ _ _ _ _ _ (after_two _ _ _ _ _ _ (after_two _ _ _ _ _ _ c.after-name.ensures c.after-quote.ensures) c.value_end-value.ensures) c.after.ensures)
