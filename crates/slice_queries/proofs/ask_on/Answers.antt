use Rattle.std.proofs.Common.{sym, ◌∙◌, arith}
use Rattle.scanner.specs.Select.{query_of}
use Rattle.slice_queries.proofs.Turning.{not_yet, addable, less, walked_on, ended-there}
use Rattle.slice_queries.proofs.ask_on.Goals as goal

pub loop-wanted-init : goal.loop-wanted-init
loop-wanted-init c = not_yet _ _ _ c.requires

pub pass-passed-requires : goal.pass-passed-requires
pass-passed-requires c =
    let l = c.loop-wanted in
    let x = c.pick-picked in
    addable _ _ _ _ _ x.new.table x.new.rows l.reached x.result l.invariant (x.ensures l.reached.events) (omega (arith, c.well_formed)) (omega (arith, c.well_formed)) (omega (arith, c.well_formed))

pub returns-then-is_over : goal.returns-then-is_over
returns-then-is_over c answer going =
    let a = c.args in
    let q = query_of a.wanted a.element.now a.name.now in
    let l = c.loop-wanted in
    let x = c.pick-picked in
    let w = x.new in
    ended-there q _ _ l.pool l.rows w.table w.rows l.reached x.result l.invariant (x.ensures l.reached.events) _ (c.pass-passed.ensures a.element.now a.name.now l.pool l.rows w.table w.rows) answer
    going (sym c.is_over.ensures ∙ c.if-is_over.true) _ (c.told.ensures w.table w.rows)

pub loop-wanted-smaller : goal.loop-wanted-smaller
loop-wanted-smaller c =
    let a = c.args in
    let l = c.loop-wanted in
    let x = c.pick-picked in
    let w = x.new in
    less _ _ _ l.pool l.rows w.table w.rows l.reached x.result l.invariant (x.ensures l.reached.events) c.pass-passed.result (c.pass-passed.ensures a.element.now a.name.now l.pool l.rows w.table w.rows) (sym c.is_over.ensures ∙ c.if-is_over.false)

pub loop-wanted-preserved : goal.loop-wanted-preserved
loop-wanted-preserved c =
    let a = c.args in
    let l = c.loop-wanted in
    let x = c.pick-picked in
    let w = x.new in
    walked_on _ _ _ l.pool l.rows w.table w.rows l.reached x.result l.invariant (x.ensures l.reached.events) c.pass-passed.result (c.pass-passed.ensures a.element.now a.name.now l.pool l.rows w.table w.rows) (sym c.is_over.ensures ∙ c.if-is_over.false)
