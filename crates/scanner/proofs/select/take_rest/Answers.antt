use Rattle.std.proofs.Common.{ltb, ◌≡◌, true, not, ◌&&◌, length, refl, sym, ap, ◌∙◌, arith, rules, tests, ltb-true, ltb-false}
use Rattle.grammar.proofs.Choice.{by_test}
use Rattle.scanner.specs.Select.{takes_all, takes_one}
use Rattle.grammar.specs.Turn.{rest}
use Rattle.grammar.specs.Trusted.{always}
use Rattle.scanner.proofs.Choosing.{row-eight, taking-start, taken_is, grown-long, asked-long, taking-long, taking-few, taking-done, taking-end, taking-skip, taking-room, taking-more, one-asks, one-here, none_here}
use Rattle.scanner.proofs.select.take_rest.Goals as goal

pub loop-row-init : goal.loop-row-init
loop-row-init c =
    let a = c.args in
    let p = c.requires in
    (p.from_nonzero.1, p.from_nonzero.0, omega arith, refl, taking-start a.start.at a.s.now a.start.document.now a.wanted.name.now (takes_all a.wanted.query) (takes_one a.wanted.query) a.still a.to a.start.names (rest always a.s.now a.start.names a.from) a.look a.table.now a.rows.now p.ready_at p.from_len p.room)

pub returns-then-still : goal.returns-then-still
returns-then-still c =
    let a = c.args in
    let l = c.loop-row in
    let e : (not l.looking && a.still) ≡ true = search (rules, tests) in
    let d = taking-done _ _ _ _ _ _ _ _ _ _ _ _ _ _ _ _ _ l.invariant.4 e in
    record { few = omega (arith, l.invariant.0, l.invariant.2); names = d.2; rows = taken_is a.start.at a.s.now a.start.document.now a.wanted.name.now (takes_all a.wanted.query) (takes_one a.wanted.query) a.still a.to a.start.names _ a.look a.table.now a.rows.now l.table _ _ d.0 d.1 }

pub one-ahead-requires : goal.one-ahead-requires
one-ahead-requires c =
    let a = c.args in
    let l = c.loop-row in
    let q = one-asks a.s.now l.names l.at l.invariant.1 a.start.at l.table l.invariant.4.ready (sym c.is_attribute.ensures ∙ c.loop-row-test.true) in
    record { from_in_bounds = l.invariant.0; ready_at = q.0; nonzero = q.1 }

pub overflow_add-to : goal.overflow_add-to
overflow_add-to c =
    let a = c.args in
    let l = c.loop-row in
    let r = c.requires.room in
    let k = taking-long _ _ _ _ _ _ _ _ _ _ _ _ _ _ _ _ _ l.invariant.4 in
    let m = asked-long a.start.at a.s.now a.start.document.now a.wanted.name.now (takes_all a.wanted.query) (takes_one a.wanted.query) a.still a.to a.start.names (rest always a.s.now a.start.names a.from) a.look a.table.now a.rows.now in
    by_test (ltb 0 (length a.rows.now))
    (λ t. omega (arith, l.invariant.4.room (omega (arith, ltb-true 0 (length a.rows.now) t, k, m)), taking-few _ _ _ _ _ _ _ _ _ _ _ _ _ _ _ _ _ l.invariant.4, k, m, r.sized))
    (λ t. omega (arith, r.counts (omega (arith, ltb-false 0 (length a.rows.now) t)), l.invariant.0, l.invariant.2, l.invariant.4.ready.in-store))

pub put_taken-requires : goal.put_taken-requires
put_taken-requires c =
    let a = c.args in
    let l = c.loop-row in
    let o = one-here a.s.now l.names l.at l.invariant.1 a.start.at l.table _ _ _ c.one-ahead.ensures in
    taking-room _ _ _ _ _ _ _ _ _ _ _ _ _ _ _ _ _ l.invariant.4 _ _ _ _ _ o (sym c.is_taken.ensures ∙ c.if-is_taken.true)

pub loop-row-preserved-then-is_taken : goal.loop-row-preserved-then-is_taken
loop-row-preserved-then-is_taken c =
    let a = c.args in
    let l = c.loop-row in
    let o = (one-here a.s.now l.names l.at l.invariant.1 a.start.at l.table _ _ _ c.one-ahead.ensures) in
    (o.within, omega (arith, o.moves), omega (arith, o.moves, l.invariant.2), row-eight _ _ _ _ _ _ _ _ _ _ o, rw c.takes_one-one.ensures (taking-more _ _ _ _ _ _ _ _ _ _ _ _ _ _ _ _ _ l.invariant.4 _ _ _ _ _ o (sym c.is_taken.ensures ∙ c.if-is_taken.true) _ c.put_taken.ensures))

pub loop-row-preserved : goal.loop-row-preserved
loop-row-preserved c =
    let a = c.args in
    let l = c.loop-row in
    let o = (one-here a.s.now l.names l.at l.invariant.1 a.start.at l.table _ _ _ c.one-ahead.ensures) in
    (o.within, omega (arith, o.moves), omega (arith, o.moves, l.invariant.2), row-eight _ _ _ _ _ _ _ _ _ _ o, taking-skip _ _ _ _ _ _ _ _ _ _ _ _ _ _ _ _ _ l.invariant.4 _ _ _ _ _ o (sym c.is_taken.ensures ∙ c.if-is_taken.false))

pub shape_of-table : goal.shape_of-table
shape_of-table c =
    let a = c.args in
    let l = c.loop-row in
    ap length (taking-end _ _ _ _ _ _ _ _ _ _ _ _ _ _ _ _ _ l.invariant.4 _ _ (none_here a.s.now l.names l.at l.invariant.1 (sym c.is_attribute.ensures ∙ c.loop-row-test.false))).2 ∙ grown-long a.start.at a.start.names a.table.now (rest always a.s.now a.start.names a.from)

pub shape_of-rows : goal.shape_of-rows
shape_of-rows c =
    let a = c.args in
    let l = c.loop-row in
    taking-long _ _ _ _ _ _ _ _ _ _ _ _ _ _ _ _ _ l.invariant.4 ∙ asked-long a.start.at a.s.now a.start.document.now a.wanted.name.now (takes_all a.wanted.query) (takes_one a.wanted.query) a.still a.to a.start.names (rest always a.s.now a.start.names a.from) a.look a.table.now a.rows.now

pub returns : goal.returns
returns c =
    let a = c.args in
    let l = c.loop-row in
    let d = taking-end _ _ _ _ _ _ _ _ _ _ _ _ _ _ _ _ _ l.invariant.4 _ _ (none_here a.s.now l.names l.at l.invariant.1 (sym c.is_attribute.ensures ∙ c.loop-row-test.false)) in
    record { few = omega (arith, l.invariant.0, l.invariant.2); names = d.2; rows = taken_is a.start.at a.s.now a.start.document.now a.wanted.name.now (takes_all a.wanted.query) (takes_one a.wanted.query) a.still a.to a.start.names _ a.look a.table.now a.rows.now l.table _ _ d.0 d.1 }
