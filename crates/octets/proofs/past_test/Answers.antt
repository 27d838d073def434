-- `octets::past_test` meets its contract: a block passes after those before it.
use Rattle.std.proofs.Common.{true, ◌≡◌, arith}
use Rattle.octets.proofs.Blocks.{joined}
use Rattle.octets.proofs.past_test.Goals as goal

pub loop-k-preserved : goal.loop-k-preserved
loop-k-preserved g c =
    let l = c.loop-k in
    (omega arith, joined (λ x. g.T.Test.passed x ≡ true) c.args.s.now 0 l.k l.k _ (omega arith) (omega arith) l.invariant.1 c.if-pass_test.ensures)
