use Rattle.wire.specs.Token.{command, type, entries, built_in}
use mathlib.Core.Path.{refl}
use Rattle.wire.proofs.tokens.built_in.Goals as goal

pub returns : goal.returns
unfolding built_in entries command type
returns c = refl
