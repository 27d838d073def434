use Rattle.abx.proofs.Left.{next-left}
use Rattle.abx.proofs.abx_slice_next.Goals as goal

pub returns : goal.returns
returns c =
    let a = c.args in
    let n = c.next_event in
    next-left _ _ _ _ (record { at = a.at; names = a.names }) n.result _ c.tell_next.ensures n.ensures
