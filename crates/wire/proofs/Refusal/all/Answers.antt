use Rattle.wire.specs.Refusal.{refusals}
use Rattle.wire.proofs.Refusal.all.Goals as goal

pub returns : goal.returns
unfolding refusals
returns c = cc
