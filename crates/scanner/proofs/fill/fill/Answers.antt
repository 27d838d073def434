use Rattle.std.proofs.Common.{refl}
use Rattle.scanner.proofs.Beginning.{rest-asks, rest-filled, single-filled}
use Rattle.scanner.proofs.fill.fill.Goals as goal

pub rest-requires : goal.rest-requires
rest-requires c =
    let a = c.args in
    let p = c.requires in
    let asked = rest-asks a.home a.s.now a.kept a.table.now _ a.store.now _ a.rows.now _ a.from p.ready _ c.begin-next.ensures p.from_in_bounds.1 c.if-inside.true in
    record { from_in_bounds = asked.0; ready = asked.1 }

pub returns-then-inside : goal.returns-then-inside
returns-then-inside c =
    let a = c.args in
    let p = c.requires in
    rest-filled a.home a.s.now a.kept a.table.now _ a.store.now _ a.rows.now _ a.from p.ready _ c.begin-next.ensures p.from_in_bounds.1 c.if-inside.true _ _ _ _ c.rest.ensures.rows

pub returns-else-inside : goal.returns-else-inside
returns-else-inside c =
    let a = c.args in
    let p = c.requires in
    single-filled a.home a.s.now a.kept a.table.now _ a.store.now _ a.rows.now _ a.from p.ready _ c.begin-next.ensures p.from_in_bounds.1 c.if-inside.false _ refl refl
