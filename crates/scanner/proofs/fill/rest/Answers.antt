use Rattle.std.proofs.Common.{arith, sym, ◌∙◌}
use Rattle.grammar.specs.Turn.{rest}
use Rattle.grammar.specs.Trusted.{always}
use Rattle.scanner.proofs.Walking.{walked_none, walked-long, walked-rows, none_left, walk-asks, walk-moves, walk_more}
use Rattle.scanner.proofs.fill.rest.Goals as goal

pub loop-home-init : goal.loop-home-init
loop-home-init c =
    let a = c.args in
    let p = c.requires in
    (p.from_in_bounds.0, (p.from_in_bounds.1, omega arith), walked_none a.home a.s.now a.start (rest always a.s.now a.start.names a.from) a.table.now a.store.now a.rows.now a.first)

pub returns-then-rows-to-lt8 : goal.returns-then-rows-to-lt8
returns-then-rows-to-lt8 c =
    let l = c.loop-home in
    let n = walked-long _ _ _ _ _ _ _ _ _ _ _ _ _ _ l.invariant.2 in
    record { rows = walked-rows _ _ _ _ _ _ _ _ _ _ _ _ _ _ _ l.invariant.2 l.invariant.1.0 (λ z. absurd (omega (arith, z, n, c.if-rows-to-lt8.true))) l.invariant.1.1 l.invariant.0 }

pub attribute-ahead-requires : goal.attribute-ahead-requires
attribute-ahead-requires c =
    let l = c.loop-home in
    let p = c.requires in
    let n = walked-long _ _ _ _ _ _ _ _ _ _ _ _ _ _ l.invariant.2 in
    let q = walk-asks _ _ _ _ _ _ _ _ p.ready _ _ _ _ _ _ l.invariant.2 (sym c.is_attribute.ensures ∙ c.loop-home-test.true) in
    record { within = q.0; has = q.1; to_in_bounds = omega (arith, n, l.invariant.1.0, c.if-rows-to-lt8.false) }

pub loop-home-smaller : goal.loop-home-smaller
loop-home-smaller c =
    let l = c.loop-home in
    let p = c.requires in
    let q = walk-moves _ _ _ _ _ _ _ _ p.ready _ _ _ _ _ _ l.invariant.2 (sym c.is_attribute.ensures ∙ c.loop-home-test.true) _ _ _ _ c.attribute-ahead.ensures in
    omega (arith, q.0, q.1)

pub loop-home-preserved : goal.loop-home-preserved
loop-home-preserved c =
    let l = c.loop-home in
    let p = c.requires in
    let n = walked-long _ _ _ _ _ _ _ _ _ _ _ _ _ _ l.invariant.2 in
    let b = sym c.is_attribute.ensures ∙ c.loop-home-test.true in
    let q = walk-moves _ _ _ _ _ _ _ _ p.ready _ _ _ _ _ _ l.invariant.2 b _ _ _ _ c.attribute-ahead.ensures in
    (q.1, (omega (arith, n, l.invariant.1.0, c.if-rows-to-lt8.false), omega (arith, l.invariant.1.1, q.0)), walk_more _ _ _ _ _ _ _ _ p.ready _ _ _ _ _ _ l.invariant.2 b _ _ _ _ c.attribute-ahead.ensures)

pub returns : goal.returns
returns c =
    let l = c.loop-home in
    record { rows = walked-rows _ _ _ _ _ _ _ _ _ _ _ _ _ _ _ l.invariant.2 l.invariant.1.0 (λ z. none_left _ _ _ (sym c.is_attribute.ensures ∙ c.loop-home-test.false)) l.invariant.1.1 l.invariant.0 }
