use Prim.Native.Nat.{ℕ}
use mathlib.Core.Path.{ap, ◌∙◌}
use lib.ListN.{length}
use Rattle.text.specs.Put.{after}
use Rattle.text.proofs.put.Goals as goal

pub returns : goal.returns
returns c = record { text = c.copy.ensures; place = c.after.ensures ∙ ap (λ (n : ℕ). after n c.args.at (length c.args.s.now)) c.copy.auto.to }
