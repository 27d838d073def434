use Rattle.std.proofs.Common.{ℕ, List, ap, ◌∙◌}
use Rattle.quick_step.specs.Step.{step}
use Rattle.scanner.proofs.step.Goals as goal

pub returns-in-None : goal.returns-in-None
returns-in-None c =
    let a = c.args in
    c.step_read.ensures
    ∙ ap (λ (w : List ℕ). step a.s.now a.base a.finished a.copied a.names a.used a.table.now a.store.now w) c.in-None.ensures

pub returns-in-Some : goal.returns-in-Some
returns-in-Some c = c.in-Some.ensures.steps c.args.finished
