use Rattle.wire.specs.Token.{commands}
use Rattle.wire.proofs.Command.all.Goals as goal

pub returns : goal.returns
unfolding commands
returns c = cc
