-- `octets::pass_by` meets its contract. Its loop keeps that the octets before k pass.
use Rattle.std.proofs.Common.{true, ◌+◌, ◌-◌, ◌<◌}
use Rattle.std.specs.List.{AllWithin}
use Rattle.octets.proofs.pass_by.Given as goal

abbrev pub invariant-loop-k : goal.invariant-loop-k
invariant-loop-k g l = (l.k < l.last + g.row.N) × AllWithin (λ x. goal.F-post g l.test x true) l.s 0 l.k

abbrev pub decreases-loop-k : goal.decreases-loop-k
decreases-loop-k g l = l.last - l.k
