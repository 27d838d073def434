use native.Mathlib.Omega.{arith}
use mathlib.Core.Path.{sym, ap, ◌∙◌}
use Rattle.writer_spec.specs.Writer.{rows_in}
use Rattle.writer.specs.Answers.{lent_of, state_of, forms_by, fault_of}
use Rattle.writer.proofs.Calls.{sizes-passed, state-passed, formed-by, fault-passed, stops_call}
use Rattle.writer.proofs.tries.write_checked.Goals as goal

pub write_noted-requires : goal.write_noted-requires
write_noted-requires c =
    let a = c.args in
    let f = forms_by a.single a.first.now a.second.now a.rows.now in
    let w = state_of a.writer in
    let l = lent_of a.output.now a.pool.now in
    let passed = fault-passed f w l (sym c.call_fault.ensures ∙ ap fault_of c.in-Ok.is) in
    let sizes = sizes-passed a.output.now a.pool.now passed.1 in
    let state = state-passed a.output.now a.pool.now w passed.2 in
    record {
      maybe_indexed = c.prepare.ensures state.1 (omega (arith, sizes.1, state.1)) c.requires.fresh;
      rows_value = formed-by a.first.now a.second.now a.rows.now a.single passed.0;
      pool_value = passed.1;
      pool_value_2 = passed.2;
      slots = c.requires.slots;
      slots_2 = c.requires.slots_2;
    }

pub returns-in-Err : goal.returns-in-Err
returns-in-Err c =
    let a = c.args in
    let f = forms_by a.single a.first.now a.second.now a.rows.now in
    let w = state_of a.writer in
    let l = lent_of a.output.now a.pool.now in
    stops_call f w l (rows_in a.first.now a.second.now a.rows.now) _ _ (sym c.call_fault.ensures ∙ ap fault_of c.in-Err.is)

pub returns-in-Ok : goal.returns-in-Ok
returns-in-Ok c =
    let a = c.args in
    let f = forms_by a.single a.first.now a.second.now a.rows.now in
    let w = state_of a.writer in
    let l = lent_of a.output.now a.pool.now in
    let passed = fault-passed f w l (sym c.call_fault.ensures ∙ ap fault_of c.in-Ok.is) in
    rw passed.0 c.write_noted.ensures
