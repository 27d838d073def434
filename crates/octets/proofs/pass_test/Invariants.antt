use Rattle.std.specs.Bool.{MatchBool}
use Rattle.std.specs.List.{AllWithin, Any}
use Rattle.std.proofs.Common.{◌≡◌, true, false}
use Rattle.octets.proofs.pass_test.Given as goal

abbrev pub invariant-loop-b : goal.invariant-loop-b
invariant-loop-b g l = MatchBool l.all (AllWithin (λ x. g.T.Test.passed x ≡ true) l.s 0 l.b-index) (Any (λ x. g.T.Test.passed x ≡ false) l.s)
