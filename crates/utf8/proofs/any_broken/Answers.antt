-- `utf8::any_broken` meets its contract: one octet more.
use Rattle.std.proofs.Common.{arith}
use Rattle.utf8.proofs.After.{scan-more}
use Rattle.utf8.proofs.any_broken.Goals as goal

pub loop-k-preserved : goal.loop-k-preserved
loop-k-preserved c =
    let l = c.loop-k in
    scan-more _ _ l.k l.any _ (omega arith) c.broken_at-any.ensures l.invariant
