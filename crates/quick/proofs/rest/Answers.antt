use Rattle.std.proofs.Math.Seq.{length-sets}
use Rattle.std.proofs.Common.{refl, ap, ◌∙◌, ◌*◌, arith, length}
use Rattle.wire.specs.Token.{command}
use Rattle.event.specs.Row.{shapes}
use Rattle.grammar.specs.Scan.{sound, item_words}
use Rattle.quick.specs.Quick.{count_of, counts_of, word_counts}
use Rattle.grammar.proofs.Turn.{attribute-fits}
use Rattle.quick.proofs.Turns.{left-all, left-more, left_other}
use Rattle.quick.proofs.rest.Goals as goal

pub loop-at-init : goal.loop-at-init
loop-at-init c =
    let a = c.args in
    (c.requires.from_in_bounds.0, c.requires.from_in_bounds.1, omega arith, refl, left-all a.pool.now.names a.pool.now.source a.base a.pool.now.table.now _ 1 a.words.now)

pub overflow_cast-kind : goal.overflow_cast-kind
overflow_cast-kind c = omega (arith, c.type_inv.s c.loop-at.at)

pub shape_of-words-then-kind-ne-ATTRIBUTE : goal.shape_of-words-then-kind-ne-ATTRIBUTE
shape_of-words-then-kind-ne-ATTRIBUTE c = c.loop-at.invariant.3

pub returns-then-kind-ne-ATTRIBUTE : goal.returns-then-kind-ne-ATTRIBUTE
unfolding command
returns-then-kind-ne-ATTRIBUTE c =
    let a = c.args in
    let l = c.loop-at in
    left_other a.pool.now.names a.pool.now.source a.base a.pool.now.table.now (sound a.pool.now.names a.pool.now.table.now a.pool.now.stored) a.s.now _ a.words.now l.at l.rows l.words (omega arith) l.invariant.4 c.if-kind-ne-ATTRIBUTE.true l.invariant.0 l.invariant.2

pub shape_of-words-then-rows-eq10 : goal.shape_of-words-then-rows-eq10
shape_of-words-then-rows-eq10 c = c.loop-at.invariant.3

pub overflow_mul-rows : goal.overflow_mul-rows
overflow_mul-rows c = omega (arith, c.loop-at.invariant.2)

pub overflow_add-rows : goal.overflow_add-rows
overflow_add-rows c = omega (arith, c.loop-at.invariant.2)

pub attribute-requires : goal.attribute-requires
unfolding word_counts counts_of count_of shapes
attribute-requires c =
    let p = c.requires in
    let l = c.loop-at in
    record {
      at_in_bounds = (l.invariant.1, p.from_in_bounds.2);
      counts_value = refl;
      to_in_bounds = omega (arith, l.invariant.2, l.invariant.3, p.in_bounds);
    }

pub loop-at-smaller : goal.loop-at-smaller
loop-at-smaller c =
    let a = c.args in
    let l = c.loop-at in
    let r = c.in_ok-at.ensures in
    let f = attribute-fits (sound a.pool.now.names a.pool.now.table.now a.pool.now.stored) a.s.now a.pool.now.names l.at _ _ l.invariant.1 r.is in
    omega (arith, f.0, f.1)

pub loop-at-preserved : goal.loop-at-preserved
unfolding command
loop-at-preserved c =
    let a = c.args in
    let l = c.loop-at in
    let r = c.in_ok-at.ensures in
    let f = attribute-fits (sound a.pool.now.names a.pool.now.table.now a.pool.now.stored) a.s.now a.pool.now.names l.at _ _ l.invariant.1 r.is in (
      omega (arith, f.0),
      f.1,
      omega (arith, l.invariant.2),
      ap length r.stored ∙ length-sets l.words (8 * l.rows) (item_words a.pool.now.source a.base a.pool.now.table.now r.it) ∙ l.invariant.3,
      left-more a.pool.now.names a.pool.now.source a.base a.pool.now.table.now (sound a.pool.now.names a.pool.now.table.now a.pool.now.stored) a.s.now _ a.words.now l.at l.rows l.words (omega arith) l.invariant.4 _ _ c.if-kind-ne-ATTRIBUTE.false r,
    )

pub shape_of-words : goal.shape_of-words
shape_of-words c = c.loop-at.invariant.3
