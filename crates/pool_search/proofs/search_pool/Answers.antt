use Rattle.std.proofs.Common.{sym, ◌∙◌, arith}
use Rattle.pool_search.proofs.Searches.{left-all, left_end, left-bad, left-found, left_other}
use Rattle.pool_search.proofs.search_pool.Goals as goal

pub loop-i-init : goal.loop-i-init
loop-i-init c = left-all c.args.output.now c.args.name.now c.args.pool.now c.args.names

pub returns-then-output-start : goal.returns-then-output-start
returns-then-output-start c =
    let a = c.args in
    let l = c.loop-i in
    sym (left-bad a.output.now a.name.now a.pool.now a.names l.i (omega arith) c.if-output-start.true) ∙ l.invariant

pub returns-then-spans_name : goal.returns-then-spans_name
returns-then-spans_name c =
    let a = c.args in
    let l = c.loop-i in
    let e = sym c.spans_name.ensures ∙ c.if-spans_name.true in
    sym (left-found a.output.now a.name.now a.pool.now a.names l.i (omega arith) c.if-output-start.false e) ∙ l.invariant

pub loop-i-preserved : goal.loop-i-preserved
loop-i-preserved c =
    let a = c.args in
    let l = c.loop-i in
    let e = sym c.spans_name.ensures ∙ c.if-spans_name.false in
    sym (left_other a.output.now a.name.now a.pool.now a.names l.i (omega arith) c.if-output-start.false e) ∙ l.invariant

pub returns : goal.returns
returns c =
    let a = c.args in
    let l = c.loop-i in
    sym (left_end a.output.now a.name.now a.pool.now a.names l.i (omega arith)) ∙ l.invariant
