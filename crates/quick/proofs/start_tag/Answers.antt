use Rattle.std.proofs.Common.{refl, sym, arith}
use Rattle.grammar.specs.Scan.{sound}
use Rattle.quick.proofs.Flats.{some-map}
use Rattle.quick.proofs.Turns.{start-tag}
use Rattle.quick.proofs.start_tag.Goals as goal

pub returns : goal.returns
returns c =
    let a = c.args in
    let p = c.requires in
    let ok = sound a.pool.now.names a.pool.now.table.now a.pool.now.stored in
    some-map c.rest.result
    (λ t. start-tag a.pool.now.names a.pool.now.source a.base a.pool.now.table.now ok a.s.now (omega (arith, p.in_bounds.0)) c.in_ok-name.name c.in_ok-name.ensures a.words.now _ 2 (sym p.s_value) (omega arith) (omega arith) c.put_row.ensures _ t refl)
    c.rest.ensures
