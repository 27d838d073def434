-- `xml_escape::skip_bare` meets its contract: a block more.
use Rattle.std.proofs.Common.{arith}
use Rattle.xml_escape.proofs.Turns.{bare-none, bare-more}
use Rattle.xml_escape.proofs.skip_bare.Goals as goal

pub loop-k-init : goal.loop-k-init
loop-k-init c = bare-none _ _ (omega arith)

pub loop-k-preserved : goal.loop-k-preserved
loop-k-preserved c =
    let l = c.loop-k in
    bare-more _ _ l.k 48 _ (omega arith) c.extra_in.ensures c.if-extra_in-eq0.true l.invariant
