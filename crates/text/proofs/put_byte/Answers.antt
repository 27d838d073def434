use mathlib.Core.List.{[], ◌∷◌}
use native.Mathlib.Omega.{arith}
use mathlib.Core.Path.{refl, sym}
use Rattle.byte_copy.specs.Sets.{sets-past}
use Rattle.text.specs.Put.{after}
use Rattle.text.proofs.put_byte.Goals as goal

pub returns-then-at-out : goal.returns-then-at-out
unfolding after
returns-then-at-out c = record { text = refl; place = omega arith }

pub returns : goal.returns
unfolding after
returns c = record { text = sym (sets-past c.args.out.now (c.args.b ∷ []) c.args.at c.if-at-out.false); place = omega arith }
