use Rattle.std.proofs.Common.{refl, ap, eqb, arith, sym, ◌∙◌}
use Rattle.wire.specs.Token as Token
use Rattle.scanner.proofs.Beginning.{begun-inside, begun-own, own-asks, some_bytes}
use Rattle.scanner.proofs.fill.begin.Goals as goal

pub returns-then-from-ne0 : goal.returns-then-from-ne0
returns-then-from-ne0 c =
    let a = c.args in
    let p = c.requires in
    begun-inside a.home a.s.now a.kept a.table.now a.store.now a.rows.now a.from _ c.if-from-ne0.true p.from_in_bounds.0 refl refl refl refl

pub bounds-s-0 : goal.bounds-s-0
bounds-s-0 c =
    let a = c.args in
    omega (arith, some_bytes a.home a.s.now a.kept a.table.now a.store.now a.rows.now (rw c.if-from-ne0.false at c.requires.ready))

pub own-ahead-requires : goal.own-ahead-requires
unfolding Token.command
own-ahead-requires c =
    let a = c.args in
    let p = c.requires in
    let q = own-asks a.home a.s.now a.kept a.table.now a.store.now a.rows.now (rw c.if-from-ne0.false at p.ready) in
    record { within = (q.0, refl); has = q.1; in_bounds = p.from_in_bounds.1 }

pub returns : goal.returns
unfolding Token.command
returns c =
    let a = c.args in
    let p = c.requires in
    let z = begun-own a.home a.s.now a.kept a.table.now a.store.now a.rows.now (rw c.if-from-ne0.false at p.ready) _ refl _ _ _ _ c.own-ahead.ensures _ refl refl refl (rw c.number.ensures refl) in
    rw c.if-from-ne0.false z
