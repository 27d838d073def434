-- `octets::pass_test_by` meets its contract: a block more, and the last tells.
use Rattle.std.proofs.Common.{true, false, ◌≡◌, arith}
use Rattle.octets.proofs.Blocks.{joined, within, last}
use Rattle.octets.proofs.pass_test_by.Goals as goal

pub returns-then-not-pass_test : goal.returns-then-not-pass_test
returns-then-not-pass_test g c = within (λ x. g.T.Test.passed x ≡ false) c.args.s.now c.loop-k.k _ c.if-not-pass_test.ensures

pub loop-k-preserved : goal.loop-k-preserved
loop-k-preserved g c =
    let l = c.loop-k in
    (omega arith, joined (λ x. g.T.Test.passed x ≡ true) c.args.s.now 0 l.k l.k _ (omega arith) (omega arith) l.invariant.1 c.if-not-pass_test.ensures)

pub returns : goal.returns
returns g c =
    let l = c.loop-k in
    last (λ x. g.T.Test.passed x ≡ true) (λ x. g.T.Test.passed x ≡ false) c.args.s.now l.k _ _ (omega arith) l.invariant.1 c.pass_test-2.ensures
