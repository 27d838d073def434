use Rattle.xml.specs.Within.{text-within}
use Rattle.abx2xml.proofs.show_first.Goals as goal

pub returns-in-Ok : goal.returns-in-Ok
returns-in-Ok c =
    let a = c.args in
    text-within a.first.now a.second.now a.rows.now a.out.now _ _ c.in-Ok.len c.to_xml.ensures c.in-Ok.is
