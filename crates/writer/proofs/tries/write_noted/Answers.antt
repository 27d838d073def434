use native.Mathlib.Omega.{arith}
use Rattle.std.proofs.Common.{Err, ap, refl, sym, ◌∙◌}
use lib.Seq.{length-take-le}
use Rattle.writer_spec.specs.Writer.{rows_in}
use Rattle.writer.specs.Answers.{lent_of, state_of}
use Rattle.writer_spec.proofs.Laws.{list-rows}
use Rattle.writer.proofs.Calls.{sizes-passed, state-passed, whole-rows, stops-rows, goes_through, refused-by, crowded-by, used-fit, unrefused, ready_for, slots_kept}
use Rattle.writer.proofs.tries.write_noted.Goals as goal

pub measure-requires : goal.measure-requires
measure-requires c =
    let a = c.args in
    let p = c.requires in
    let f = a.first.now in
    let s = a.second.now in
    let o = a.output.now in
    let t = a.pool.now in
    let w = a.rows.now in
    let sizes = sizes-passed o t p.pool_value in
    let state = state-passed o t (state_of a.writer) p.pool_value_2 in
    record { maybe_indexed = c.requires.maybe_indexed; rows_len = whole-rows f s w p.rows_value; output_len_bound = (sizes.0, state.0); names_in_bounds = (state.1, omega (arith, sizes.1, state.1)); slots = p.slots; slots_2 = p.slots_2 }

pub slice_bounds-write_rows-end : goal.slice_bounds-write_rows-end
slice_bounds-write_rows-end c =
    let a = c.args in
    let said = c.measure in
    used-fit a.first.now a.second.now a.output.now a.pool.now a.rows.now said.new.notes said.new.heads a.writer said.result said.ensures c.in-Ok.used c.in-Ok.is

pub slice_bounds-write_rows-end-in-Ok : goal.slice_bounds-write_rows-end-in-Ok
slice_bounds-write_rows-end-in-Ok c =
    let a = c.args in
    let said = c.measure in
    sym (length-take-le c.in-Ok.used said.new.notes (used-fit a.first.now a.second.now a.output.now a.pool.now a.rows.now said.new.notes said.new.heads a.writer said.result said.ensures c.in-Ok.used c.in-Ok.is))

pub write_rows-requires : goal.write_rows-requires
write_rows-requires c =
    let a = c.args in
    let p = c.requires in
    let said = c.measure in
    let sizes = sizes-passed a.output.now a.pool.now p.pool_value in
    let state = state-passed a.output.now a.pool.now (state_of a.writer) p.pool_value_2 in
    let heads = slots_kept _ _ said.auto.heads p.slots.0 in
    let seen = slots_kept _ _ said.auto.seen p.slots_2 in
    record { rows_len = whole-rows a.first.now a.second.now a.rows.now p.rows_value; rows_value = list-rows a.first.now a.second.now a.rows.now p.rows_value; output_len_bound = sizes.0; slots = (heads, seen); ready = ready_for a.first.now a.second.now a.output.now a.pool.now a.rows.now said.new.notes said.new.heads a.writer said.result said.ensures c.in-Ok.used c.in-Ok.is state.0 state.1 }

pub returns-in-Err-Refused : goal.returns-in-Err-Refused
returns-in-Err-Refused c =
    let a = c.args in
    let p = c.requires in
    let said = c.measure in
    rw c.in-Err-Refused.field-0-is (stops-rows (state_of a.writer) (lent_of a.output.now a.pool.now) (rows_in a.first.now a.second.now a.rows.now) p.pool_value p.pool_value_2 _ _ (refused-by a.first.now a.second.now a.output.now a.pool.now a.rows.now said.new.notes said.new.heads a.writer said.result said.ensures c.in-Err-Refused.r (c.in-Err-Refused.is ∙ ap Err c.in-Err-Refused.field-0-is)))

pub returns-in-Err-Crowded : goal.returns-in-Err-Crowded
returns-in-Err-Crowded c =
    let a = c.args in
    let said = c.measure in
    (refl, rw said.auto.notes at (crowded-by a.first.now a.second.now a.output.now a.pool.now a.rows.now said.new.notes said.new.heads a.writer said.result said.ensures (c.in-Err-Crowded.is ∙ ap Err c.in-Err-Crowded.field-0-is)))

pub returns-in-Ok : goal.returns-in-Ok
returns-in-Ok c =
    let a = c.args in
    let p = c.requires in
    let said = c.measure in
    c.write_rows.ensures ∙ goes_through (state_of a.writer) (lent_of a.output.now a.pool.now) (rows_in a.first.now a.second.now a.rows.now) p.pool_value p.pool_value_2 (unrefused a.first.now a.second.now a.output.now a.pool.now a.rows.now said.new.notes said.new.heads a.writer said.result said.ensures c.in-Ok.used c.in-Ok.is)
