-- `xml_escape::put_mixed` meets its contract. Its loop keeps that the octets before i are put.
use Rattle.std.proofs.Common.{◌+◌, ◌∙◌, sym, length, arith}
use Rattle.xml_escape.specs.Extra.{escape-bare}
use Rattle.xml_escape.proofs.Turns.{none-put, all-put, part-put, bare-put}
use Rattle.xml_escape.proofs.put_mixed.Goals as goal

pub loop-i-init : goal.loop-i-init
loop-i-init c = none-put _ _ _ _ c.after-place.ensures

pub loop-i-preserved-then-i-end : goal.loop-i-preserved-then-i-end
loop-i-preserved-then-i-end c = bare-put _ _ _ _ _ _ _ _ c.loop-i.invariant _ c.skip_bare-end.ensures c.put-place.ensures

pub loop-i-preserved : goal.loop-i-preserved
loop-i-preserved c =
    let l = c.loop-i in
    part-put _ _ _ _ _ _ _ _ l.invariant (l.i + 48) (omega arith) (omega arith) c.put_octets-place.ensures

pub returns-then-extra_in-eq0 : goal.returns-then-extra_in-eq0
returns-then-extra_in-eq0 c =
    let l = c.loop-i in
    let s = c.args.s.now in
    let e = escape-bare _ (sym c.extra_in.ensures ∙ c.if-extra_in-eq0.true) in
    all-put _ _ _ _ _ (part-put _ _ _ _ _ _ _ _ l.invariant (length s) l.invariant.within (omega arith) (rw e c.put.ensures))

pub returns : goal.returns
returns c =
    let l = c.loop-i in
    let s = c.args.s.now in
    all-put _ _ _ _ _ (part-put _ _ _ _ _ _ _ _ l.invariant (length s) l.invariant.within (omega arith) c.put_octets.ensures)
