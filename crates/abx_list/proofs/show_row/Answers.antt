use Rattle.std.proofs.Common.{◌-◌, length, take, drop, length-take, length-drop, arith}
use Rattle.listing.specs.Laws.{line-within}
use Rattle.abx_list.proofs.show_row.Goals as goal

pub overflow_add-result : goal.overflow_add-result
overflow_add-result c =
    let a = c.args in
    let part = length-take (length a.out.now - a.at) (drop a.at a.out.now) in
    let left = length-drop a.at a.out.now in
    let fits = line-within a.first.now a.second.now a.rows.now a.row (take (length a.out.now - a.at) (drop a.at a.out.now)) _ _ c.in-Ok.len c.line.ensures c.in-Ok.is in
    omega (arith, part, left, fits)

pub returns-in-Ok : goal.returns-in-Ok
returns-in-Ok c =
    let a = c.args in
    let part = length-take (length a.out.now - a.at) (drop a.at a.out.now) in
    let left = length-drop a.at a.out.now in
    let fits = line-within a.first.now a.second.now a.rows.now a.row (take (length a.out.now - a.at) (drop a.at a.out.now)) _ _ c.in-Ok.len c.line.ensures c.in-Ok.is in
    omega (arith, part, left, fits)
