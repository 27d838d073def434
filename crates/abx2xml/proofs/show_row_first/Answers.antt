use Rattle.std.proofs.Common.{refl, Ok}
use Rattle.xml.specs.Within.{row-text-within}
use Rattle.abx2xml.proofs.show_row_first.Goals as goal

pub returns : goal.returns
returns c =
    let a = c.args in
    row-text-within a.first.now a.second.now a.rows.now a.row a.out.now _ (Ok c.in_ok-row_to_xml.field-0) _ c.in_ok-row_to_xml.ensures refl
