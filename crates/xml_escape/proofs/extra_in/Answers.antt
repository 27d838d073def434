-- `xml_escape::extra_in` meets its contract: an octet more, and so few octets that the sum is an octet.
use Rattle.std.proofs.Common.{get_or, refl, arith}
use Rattle.xml_escape.specs.Extra.{extras, extra-most}
use Rattle.xml_escape.proofs.Turns.{extras-more, part-most}
use Rattle.xml_escape.proofs.extra_in.Goals as goal

pub loop-b-init : goal.loop-b-init
unfolding extras
loop-b-init c = refl

pub overflow_add-sum : goal.overflow_add-sum
overflow_add-sum c =
    let l = c.loop-b in
    let s = c.args.s.now in
    omega (arith, part-most s l.b-index, l.invariant, extra-most (get_or s l.b-index 0), c.extra-sum.ensures)

pub loop-b-preserved : goal.loop-b-preserved
loop-b-preserved c =
    let l = c.loop-b in
    extras-more c.args.s.now l.b-index l.sum _ (omega arith) c.extra-sum.ensures l.invariant
