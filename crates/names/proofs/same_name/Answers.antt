use mathlib.Core.List.{List}
use mathlib.Core.Path.{sym, ap, ◌∙◌}
use Prim.Native.Nat.{ℕ, ◌-◌}
use lib.ListN.{length}
use Rattle.wire.specs.Header.{u32_at}
use Rattle.names.specs.Laws.{same_not}
use Rattle.names.proofs.same_name.Goals as goal

pub returns-then-len-b : goal.returns-then-len-b
returns-then-len-b c = sym (same_not _ _ (λ e. c.if-len-b.true (ap length e)))

pub returns-then-four_at : goal.returns-then-four_at
returns-then-four_at c =
    let at = length c.args.a.now - 4 in
    sym (same_not _ _ (λ e. c.if-four_at.true (c.four_at.ensures ∙ ap (λ (n : List ℕ). u32_at n at) e ∙ sym c.four_at-then-len-ge4.ensures)))
