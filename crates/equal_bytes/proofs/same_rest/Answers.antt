use Rattle.std.proofs.Common.{refl, sym, ◌∙◌, ◌+◌, arith}
use Rattle.equal_bytes.proofs.Turns.{same-on, same-on-two, same-off, same-last, same_end}
use Rattle.equal_bytes.proofs.same_rest.Goals as goal

pub loop-i-init : goal.loop-i-init
loop-i-init c = (c.requires.1, refl)

pub overflow_sub-a : goal.overflow_sub-a
overflow_sub-a c = c.loop-i.invariant.0

pub returns-then-a-i : goal.returns-then-a-i
returns-then-a-i c =
    let l = c.loop-i in
    let a = c.args in
    sym (sym l.invariant.1 ∙ same-off a.a.now a.b.now l.i (omega arith) (omega arith) c.if-a-i.true)

pub returns-then-a-i-2 : goal.returns-then-a-i-2
returns-then-a-i-2 c =
    let l = c.loop-i in
    let a = c.args in
    let one = same-on a.a.now a.b.now l.i (omega arith) (omega arith) c.if-a-i.false in
    sym (sym l.invariant.1 ∙ one ∙ same-off a.a.now a.b.now (l.i + 1) (omega arith) (omega arith) c.if-a-i-2.true)

pub loop-i-preserved : goal.loop-i-preserved
loop-i-preserved c =
    let l = c.loop-i in
    let a = c.args in
    let on = same-on-two a.a.now a.b.now l.i (omega arith) (omega arith) c.if-a-i.false c.if-a-i-2.false in
    (omega arith, sym on ∙ l.invariant.1)

pub returns-then-i-a : goal.returns-then-i-a
returns-then-i-a c =
    let l = c.loop-i in
    let a = c.args in
    sym (sym l.invariant.1 ∙ same-last a.a.now a.b.now l.i (omega arith) (omega arith))

pub returns : goal.returns
returns c =
    let l = c.loop-i in
    let a = c.args in
    sym (sym l.invariant.1 ∙ same_end a.a.now a.b.now l.i (omega arith) (omega arith))
