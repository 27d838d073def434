use Rattle.wire.specs.Token.{types}
use Rattle.wire.proofs.Type.all.Goals as goal

pub returns : goal.returns
unfolding types
returns c = cc
