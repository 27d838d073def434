use Rattle.std.proofs.Common.{sym, ◌∙◌, arith}
use Rattle.scanner.specs.Select.{query_of, turned-is, unsure-is}
use Rattle.slice.specs.Answers.{place_of, reached_of}
use Rattle.slice_queries.proofs.Turning.{begins, addable, less, walked_on, ended-there}
use Rattle.slice_queries.proofs.query.Goals as goal

pub pass-passed-requires : goal.pass-passed-requires
pass-passed-requires c =
    let a = c.args in
    let l = c.loop-picked in
    let w = c.pick_uncounted.new in
    let h = turned-is a.document.now (reached_of l.pool l.rows l.reached) a.wanted a.element.now a.name.now _ (c.in-Some.ensures l.reached.events) in
    addable _ _ _ _ _ w.table w.rows l.reached c.in-Some.picked l.invariant h (omega (arith, c.well_formed)) (omega (arith, c.well_formed)) (omega (arith, c.well_formed))

pub returns-then-is_over : goal.returns-then-is_over
returns-then-is_over c =
    let a = c.args in
    let q = query_of a.wanted a.element.now a.name.now in
    let l = c.loop-picked in
    let w = c.pick_uncounted.new in
    let h = turned-is a.document.now (reached_of l.pool l.rows l.reached) a.wanted a.element.now a.name.now _ (c.in-Some.ensures l.reached.events) in
    ended-there q _ _ l.pool l.rows w.table w.rows l.reached c.in-Some.picked l.invariant h _ (c.pass-passed.ensures a.element.now a.name.now l.pool l.rows w.table w.rows) _
    (begins q a.document.now (place_of a.place) a.pool.now a.rows.now) (sym c.is_over.ensures ∙ c.if-is_over.true) _ (c.told.ensures w.table w.rows)

pub loop-picked-smaller : goal.loop-picked-smaller
loop-picked-smaller c =
    let a = c.args in
    let l = c.loop-picked in
    let w = c.pick_uncounted.new in
    let h = turned-is a.document.now (reached_of l.pool l.rows l.reached) a.wanted a.element.now a.name.now _ (c.in-Some.ensures l.reached.events) in
    less _ _ _ l.pool l.rows w.table w.rows l.reached c.in-Some.picked l.invariant h c.pass-passed.result (c.pass-passed.ensures a.element.now a.name.now l.pool l.rows w.table w.rows) (sym c.is_over.ensures ∙ c.if-is_over.false)

pub loop-picked-preserved : goal.loop-picked-preserved
loop-picked-preserved c =
    let a = c.args in
    let l = c.loop-picked in
    let w = c.pick_uncounted.new in
    let h = turned-is a.document.now (reached_of l.pool l.rows l.reached) a.wanted a.element.now a.name.now _ (c.in-Some.ensures l.reached.events) in
    walked_on _ _ _ l.pool l.rows w.table w.rows l.reached c.in-Some.picked l.invariant h c.pass-passed.result (c.pass-passed.ensures a.element.now a.name.now l.pool l.rows w.table w.rows) (sym c.is_over.ensures ∙ c.if-is_over.false)

-- nothing was done before it is counted
pub returns-in_default : goal.returns-in_default
returns-in_default c =
    let a = c.args in
    let q = query_of a.wanted a.element.now a.name.now in
    let l = c.loop-picked in
    let same = unsure-is a.document.now (reached_of l.pool l.rows l.reached) a.wanted a.element.now a.name.now _ (c.in_default.ensures l.reached.events) in
    c.ask_on.ensures _ (rw same (l.invariant.still _ (begins q a.document.now (place_of a.place) a.pool.now a.rows.now)))
