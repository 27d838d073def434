-- `xml_escape::mixed_end` meets its contract. Its loop counts what the octets before i take over their own.
use Rattle.std.proofs.Common.{◌+◌, ◌-◌, ◌≡◌, ◌∙◌, length, rules, arith}
use Rattle.xml_escape.specs.Extra.{extras}
use Rattle.xml_escape.proofs.Turns.{end_more, end-all}
use Rattle.xml_escape.proofs.mixed_end.Goals as goal

pub loop-i-init : goal.loop-i-init
unfolding extras
loop-i-init c =
    let z : length c.args.s.now + 0 ≡ length c.args.s.now = omega arith in
    (search rules, c.after-place.ensures ∙ rw z)

pub loop-i-preserved : goal.loop-i-preserved
loop-i-preserved c =
    let l = c.loop-i in
    let a = c.args in
    let n : l.i + 48 - l.i ≡ 48 = omega arith in
    (search rules, end_more a.s.now a.limit a.at l.i 48 l.place _ _ l.invariant.1 (rw n at c.extra_in.ensures) c.after-place-in-loop-i.ensures)

pub returns : goal.returns
returns c =
    let l = c.loop-i in
    let a = c.args in
    let s = a.s.now in
    let e : l.i + (length s - l.i) ≡ length s = omega arith in
    let r = end_more s a.limit a.at l.i (length s - l.i) l.place _ _ l.invariant.1 c.extra_in-2.ensures c.after.ensures in
    end-all s a.limit a.at c.after.result (rw e at r)
