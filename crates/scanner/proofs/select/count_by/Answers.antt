use Rattle.std.proofs.Common.{refl}
use Rattle.scanner.proofs.Picking.{counting, lent}
use Rattle.scanner.proofs.select.count_by.Goals as goal

pub take_event-requires : goal.take_event-requires
take_event-requires c =
    let p = c.requires in
    let l = lent c.args.start.document.now c.args.start.at p.at_in_bounds in
    record { ready_at = rw l p.ready_at; s_len = rw l p.document_len; room = rw l (counting _); to_value = λ _. refl }

pub returns : goal.returns
returns c =
    let t = rw (lent c.args.start.document.now c.args.start.at c.requires.at_in_bounds) at c.take_event.ensures in
    record { rows = t.rows.counted; names = t.names }
