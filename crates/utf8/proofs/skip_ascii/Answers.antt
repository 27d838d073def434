-- `utf8::skip_ascii` meets its contract: a block after those before it.
use Rattle.utf8.proofs.Ascii.{none, joined}
use Rattle.utf8.proofs.skip_ascii.Goals as goal

pub loop-k-init : goal.loop-k-init
loop-k-init g c = none c.args.s.now c.args.i c.requires.0

pub loop-k-preserved : goal.loop-k-preserved
loop-k-preserved g c = joined c.args.s.now _ _ _ c.loop-k.invariant (c.is_ascii_at.ensures c.if-is_ascii_at.true)
