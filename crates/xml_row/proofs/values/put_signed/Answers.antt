use Rattle.text.specs.PutLaws.{put_both}
use Rattle.xml_row.specs.Numbers.{signed_by}
use Rattle.xml_row.proofs.Laws.{digits-part}
use Rattle.xml_row.proofs.values.put_signed.Goals as goal

pub returns-then-n : goal.returns-then-n
unfolding signed_by
returns-then-n c =
    let d = c.digits-numeral.result in
    rw (c.if-n.true, ← digits-part d.start d.bytes _ c.digits-numeral.ensures.0 c.digits-numeral.ensures.2) (put_both _ _ _ _ _ _ _ _ c.put_byte-sign.ensures c.put.ensures)

pub returns : goal.returns
unfolding signed_by
returns c =
    let d = c.digits-numeral.result in
    rw (c.if-n.false, ← digits-part d.start d.bytes _ c.digits-numeral.ensures.0 c.digits-numeral.ensures.2) c.put-2.ensures
