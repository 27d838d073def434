use Rattle.std.proofs.Common.{arith, refl, sym, ap, ◌∙◌}
use Rattle.grammar.specs.Scan.{outcome}
use Rattle.grammar.proofs.Rows.{command-is}
use Rattle.grammar.proofs.Attributes.{told-attribute, told-other, is-other}
use Rattle.extent.proofs.Measuring.{as_told, inside, outside, measuring-end, measuring-unread, measuring-turn, measuring-bounded, measuring-next}
use Rattle.grammar.specs.Grammar.{Item}
use Rattle.extent.proofs.Passing.{unread-is}
use Rattle.extent.proofs.measure_rest.Goals as goal

pub loop-at-init : goal.loop-at-init
loop-at-init c =
    let p = c.requires in
    (p.from_in_bounds.0, p.bounded, record { measured = refl })

pub returns-then-number-ne-ATTRIBUTE : goal.returns-then-number-ne-ATTRIBUTE
unfolding outcome
returns-then-number-ne-ATTRIBUTE c =
    let a = c.args in
    let p = c.requires in
    let l = c.loop-at in
    let kind = (command-is a.tokens.now _ _ p.tokens_value (omega (arith, c.type_inv.s l.at)) (c.number.ensures ∙ c.new.ensures.number)) in
    c.told.ensures ∙ inside a.finished a.s.now l.tally l.at (omega arith) ∙ measuring-end _ _ l.invariant.2 (told-other a.s.now l.at _ (omega arith) kind c.if-number-ne-ATTRIBUTE.true)

pub attribute_at-requires : goal.attribute_at-requires
attribute_at-requires c =
    let a = c.args in
    let p = c.requires in
    let l = c.loop-at in
    record { at_in_bounds = (omega arith, p.from_in_bounds.1); tokens_value = p.tokens_value; bounded = l.invariant.1 }

pub returns-in-Err : goal.returns-in-Err
returns-in-Err c =
    let a = c.args in
    let p = c.requires in
    let l = c.loop-at in
    let kind = (command-is a.tokens.now _ _ p.tokens_value (omega (arith, c.type_inv.s l.at)) (c.number.ensures ∙ c.new.ensures.number)) in
    let b = told-attribute a.s.now l.at _ (omega arith) kind c.if-number-ne-ATTRIBUTE.false in
    c.told-in-Err.ensures ∙ ap (as_told l.tally) c.ended.ensures ∙ measuring-unread _ _ l.invariant.2 b _ c.in-Err.ensures.err (unread-is Item c.in-Err.refusal)

pub loop-at-smaller : goal.loop-at-smaller
loop-at-smaller c =
    let a = c.args in
    let p = c.requires in
    let l = c.loop-at in
    let kind = (command-is a.tokens.now _ _ p.tokens_value (omega (arith, c.type_inv.s l.at)) (c.number.ensures ∙ c.new.ensures.number)) in
    let b = told-attribute a.s.now l.at _ (omega arith) kind c.if-number-ne-ATTRIBUTE.false in
    let q = c.in-Ok.ensures.ok in
    let t = measuring-turn _ _ l.invariant.2 b p.from_in_bounds.1 _ _ q.is in
    omega (arith, t.moves, t.within)

pub loop-at-preserved : goal.loop-at-preserved
loop-at-preserved c =
    let a = c.args in
    let p = c.requires in
    let l = c.loop-at in
    let kind = (command-is a.tokens.now _ _ p.tokens_value (omega (arith, c.type_inv.s l.at)) (c.number.ensures ∙ c.new.ensures.number)) in
    let b = told-attribute a.s.now l.at _ (omega arith) kind c.if-number-ne-ATTRIBUTE.false in
    let q = c.in-Ok.ensures.ok in
    let t = measuring-turn _ _ l.invariant.2 b p.from_in_bounds.1 _ _ q.is in
    (t.within, measuring-bounded _ _ l.invariant.2 b p.from_in_bounds.1 _ _ q.is _ q.counted l.invariant.1, measuring-next _ _ l.invariant.2 b p.from_in_bounds.1 _ _ q.is _ q.counted)

pub returns : goal.returns
returns c =
    let a = c.args in
    let p = c.requires in
    let l = c.loop-at in
    c.told-2.ensures ∙ ap (as_told l.tally) c.at_edge.ensures ∙ outside a.finished a.s.now l.tally l.at (omega arith) ∙ measuring-end _ _ l.invariant.2 (sym (is-other _ _ (omega arith)))
