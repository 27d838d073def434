use Rattle.std.proofs.Common.{◌-◌, length, take, drop, length-take, length-drop, arith}
use Rattle.xml.specs.Within.{text-within}
use Rattle.abx2xml.proofs.show.Goals as goal

pub overflow_add-result : goal.overflow_add-result
overflow_add-result c =
    let a = c.args in
    let part = length-take (length a.out.now - a.at) (drop a.at a.out.now) in
    let left = length-drop a.at a.out.now in
    let fits = text-within a.first.now a.second.now a.rows.now (take (length a.out.now - a.at) (drop a.at a.out.now)) _ _ c.in-Ok.len c.to_xml.ensures c.in-Ok.is in
    omega (arith, part, left, fits)

pub returns-in-Ok : goal.returns-in-Ok
returns-in-Ok c =
    let a = c.args in
    let part = length-take (length a.out.now - a.at) (drop a.at a.out.now) in
    let left = length-drop a.at a.out.now in
    let fits = text-within a.first.now a.second.now a.rows.now (take (length a.out.now - a.at) (drop a.at a.out.now)) _ _ c.in-Ok.len c.to_xml.ensures c.in-Ok.is in
    omega (arith, part, left, fits)
