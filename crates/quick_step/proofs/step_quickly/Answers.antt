use Rattle.std.proofs.Common.{length}
use Rattle.quick_step.specs.Laws.{not-refused}
use Rattle.quick_step.proofs.Quickly.{steps-quickly}
use Rattle.quick_step.proofs.step_quickly.Goals as goal

pub returns : goal.returns
returns c =
    let a = c.args in
    let e = c.in-Ok.ensures.ok in
    let n = not-refused a.base (length a.s.now) a.copied (length a.store.now) (length a.table.now) a.names a.used e.0 in
    steps-quickly a.s.now a.base a.copied a.names a.used a.table.now a.store.now a.rows.now _ n.0 n.1 _ e.1 _ c.read.ensures
