use Rattle.std.proofs.Common.{arith}
use Rattle.scanner.proofs.Beginning.{ready-any, one-filled}
use Rattle.scanner.proofs.fill.one.Goals as goal

pub fill-requires : goal.fill-requires
fill-requires c =
    let a = c.args in
    let p = c.requires in
    record { from_in_bounds = (p.from_in_bounds, omega arith); ready = ready-any a.base a.s.now a.names _ a.table.now _ p.ready_at }

pub returns : goal.returns
returns c =
    let a = c.args in
    let p = c.requires in
    one-filled a.base a.s.now a.names _ a.table.now _ _ _ a.row.now _ a.from _ _ p.nonzero (omega arith) c.fill.ensures
