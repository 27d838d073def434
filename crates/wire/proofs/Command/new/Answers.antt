use Rattle.std.proofs.Common.{rules}
use Rattle.wire.specs.Token.{command_in}
use Rattle.wire.proofs.Command.new.Goals as goal

pub returns : goal.returns
unfolding command_in
returns c = search rules
