use Rattle.std.proofs.Common.{refl, arith, length-set}
use Rattle.text.specs.Numerals.{hex}
use Rattle.text.proofs.Steps.{pair-more}
use Rattle.text.proofs.put_pairs.Goals as goal

pub loop-i-init : goal.loop-i-init
unfolding hex
loop-i-init c = (refl, refl)

pub loop-i-preserved : goal.loop-i-preserved
loop-i-preserved c =
    let l = c.loop-i in
    (simp (length-set, length-set) l.invariant.0, pair-more c.args.out.now l.out c.args.s.now c.args.at l.i _ _ (omega arith) l.invariant.1 c.digit.ensures c.digit-in-loop-i.ensures)
