use Rattle.std.proofs.Common.{sym, arith}
use Rattle.wire.specs.Token.{command}
use Rattle.grammar.specs.Scan.{sound}
use Rattle.quick.proofs.Quickly.{row-taken}
use Rattle.quick.proofs.Turns.{end-tag}
use Rattle.quick.proofs.end_tag.Goals as goal

pub returns : goal.returns
unfolding command
returns c =
    let a = c.args in
    let p = c.requires in
    let ok = sound a.pool.now.names a.pool.now.table.now a.pool.now.stored in
    row-taken _ _ _ _ _ _ _ _ (end-tag a.pool.now.names a.pool.now.source a.base a.pool.now.table.now ok a.s.now (omega (arith, p.in_bounds)) c.in_ok-name.name c.in_ok-name.ensures a.rows.now _ 3 (sym p.s_value) (omega arith) (omega arith) c.put_row.ensures (λ e. omega (arith, e))) (omega (arith, c.if-rows-lt8.false))
