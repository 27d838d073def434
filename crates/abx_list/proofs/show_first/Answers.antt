use Rattle.std.proofs.Common.{refl, Ok}
use Rattle.listing.specs.Laws.{line-within}
use Rattle.abx_list.proofs.show_first.Goals as goal

pub returns : goal.returns
returns c =
    let a = c.args in
    line-within a.first.now a.second.now a.rows.now a.row a.out.now _ (Ok c.in_ok-line.field-0) _ c.in_ok-line.ensures refl
