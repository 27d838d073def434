use Rattle.std.proofs.Common.{sym, ◌∙◌, arith}
use Rattle.quick_step.specs.Laws.{not-long}
use Rattle.quick_step.proofs.check.Goals as goal

pub overflow_add-result : goal.overflow_add-result
overflow_add-result c =
    let a = c.args in
    omega (arith, (not-long a.base a.len a.copied a.store (sym c.is_too_long.ensures ∙ c.if-is_too_long.false)).0)
