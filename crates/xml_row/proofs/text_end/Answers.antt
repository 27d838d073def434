use Rattle.wire.proofs.Arms.{not_text}
use Rattle.xml_row.proofs.Laws.{text-length, after_two}
use Rattle.xml_row.proofs.text_end.Goals as goal

pub returns-in_default : goal.returns-in_default
returns-in_default c =
    let n = not_text _ _ c.from.ensures.1 c.in_default.not-Text in
    rw (text-length c.args.kind c.args.s.now n, ← c.marks.ensures) (after_two _ _ _ _ _ _ c.after.ensures c.after-in_default.ensures)
