use Rattle.xml_row.proofs.Laws.{signed-length}
use Rattle.xml_row.proofs.values.signed_end.Goals as goal

pub returns-then-n : goal.returns-then-n
returns-then-n c = rw (signed-length _ _ _ _ _ c.digits-numeral.ensures.0 c.digits-numeral.ensures.1 c.digits-numeral.ensures.2, c.if-n.true) c.after.ensures

pub returns : goal.returns
returns c = rw (signed-length _ _ _ _ _ c.digits-numeral.ensures.0 c.digits-numeral.ensures.1 c.digits-numeral.ensures.2, c.if-n.false) c.after-2.ensures
