use Rattle.std.proofs.Common.{◌≡◌, Err, arith, rules}
use Rattle.quick_step.specs.Laws.{first-refused}
use Rattle.scanner.proofs.Stepping.{step-placed, step-read}
use Rattle.scanner.proofs.step_read.Goals as goal

pub returns-in_err-stored : goal.returns-in_err-stored
returns-in_err-stored c =
    let a = c.args in
    let e : c.from_residual.result ≡ Err c.in_err-stored.field-0.0 = search rules in
    let f = rw c.in_err-stored.was at c.check.ensures.err in
    rw e (first-refused a.s.now a.base a.finished a.copied a.names a.used a.table.now a.store.now a.rows.now _ _ f.0 (λ z. omega (arith, f.1.1, z)) f.1.0)

pub read-requires : goal.read-requires
read-requires c =
    let a = c.args in
    let f = rw c.in_ok-stored.was at c.check.ensures.ok in
    step-placed a.s.now a.base a.finished a.copied a.names a.used a.table.now a.store.now a.rows.now f.0 _ f.1

pub returns : goal.returns
returns c =
    let a = c.args in
    let f = rw c.in_ok-stored.was at c.check.ensures.ok in
    step-read a.s.now a.base a.finished a.copied a.names a.used a.table.now a.store.now a.rows.now f.0 _ c.read.ensures
