use Rattle.scanner.proofs.Picking.{chose-first, chose_none}
use Rattle.scanner.proofs.select.take_first.Goals as goal

pub returns-then-own : goal.returns-then-own
returns-then-own c =
    let a = c.args in
    rw c.if-own.true (chose-first a.to a.row.now a.rows.now _ c.put_taken.ensures)

pub returns : goal.returns
returns c =
    let a = c.args in
    rw c.if-own.false (chose_none a.to a.rows.now)
