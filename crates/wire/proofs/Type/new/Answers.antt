use Rattle.std.proofs.Common.{rules}
use Rattle.wire.specs.Token.{type_in}
use Rattle.wire.proofs.Type.new.Goals as goal

pub returns : goal.returns
unfolding type_in
returns c = search rules
