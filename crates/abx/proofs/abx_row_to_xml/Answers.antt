use Rattle.abx.proofs.Left.{xml-left}
use Rattle.abx.proofs.abx_row_to_xml.Goals as goal

pub returns : goal.returns
returns c =
    let p = c.row_to_xml in
    xml-left _ _ _ p.result _ c.tell_printed.ensures p.ensures
