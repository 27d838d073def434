-- `octets::past` meets its contract: a block passes after those before it.
use Rattle.std.proofs.Common.{true, arith}
use Rattle.octets.proofs.Blocks.{joined}
use Rattle.octets.proofs.past.Goals as goal

pub loop-k-preserved : goal.loop-k-preserved
loop-k-preserved g c =
    let l = c.loop-k in
    (omega arith, omega arith, joined (λ x. goal.F-post g c.args.test x true) c.args.s.now c.args.from l.k l.k _ (omega arith) (omega arith) l.invariant.2 c.if-pass.ensures)
