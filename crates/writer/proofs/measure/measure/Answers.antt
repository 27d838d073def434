use Rattle.writer.specs.Passes.{tally_of}
use Rattle.std.proofs.Common.{arith, rules, ap, ◌≡◌, ◌*◌, Err, refl, ◌∙◌, []}
use Rattle.writer.specs.declared.Stop.TheVariants.{Refused}
use Rattle.writer.proofs.Calls.{slots_kept}
use Rattle.writer.proofs.Turns.{row_here, next_row, ends_here}
use Rattle.writer.proofs.Measuring.{Measuring, begins, owes_nothing, kept_here, row-stopped, owes, ended_with}
use Rattle.writer.proofs.measure.measure.Goals.{then-is_event_end+in_ok-room_fault, else-is_event_end}
use Rattle.writer.proofs.measure.measure.Goals as goal

pub loop-w-init : goal.loop-w-init
loop-w-init c =
    let a = c.args in
    let p = c.requires in
    let start = begins a.first.now a.second.now a.output.now a.pool.now a.rows.now a.writer.names a.writer.written a.notes.now a.heads.now p.slots.1 (omega (arith, p.output_len_bound.0, p.output_len_bound.1)) in
    (owes_nothing a.first.now a.second.now a.output.now a.pool.now a.rows.now a.writer.names a.writer.written a.notes.now a.heads.now p.output_len_bound.1 p.names_in_bounds.0 start, refl, refl, refl)

pub returns-in_err-room_fault : goal.returns-in_err-room_fault
returns-in_err-room_fault c =
    let a = c.args in
    let p = c.requires in
    let l = c.loop-w in
    let here = row_here a.rows.now _ l.w-index [] c.as_chunks.ensures.front (omega arith) in
    let look = l.invariant.0 c.is_event_end.result (c.is_event_end.ensures ∙ ends_here a.rows.now _ (l.w-index * 8) here.0 here.1) in
    let room = c.room_fault in
    let e : c.from_residual.result ≡ Err (Refused c.in_err-room_fault.field-0.0) = search rules in
    rw e ((look.1 room.result c.if-is_event_end.true room.ensures).0 c.in_err-room_fault.field-0.0 c.in_err-room_fault.was)

pub measure_row-requires : goal.measure_row-requires
measure_row-requires c =
    let a = c.args in
    let p = c.requires in
    let l = c.loop-w in
    let here = row_here a.rows.now _ l.w-index [] c.as_chunks.ensures.front (omega arith) in
    let look = l.invariant.0 c.is_event_end.result (c.is_event_end.ensures ∙ ends_here a.rows.now _ (l.w-index * 8) here.0 here.1) in
    let m : Measuring a.first.now a.second.now a.output.now a.pool.now a.rows.now a.writer.names a.writer.written (l.w-index * 8) l.tally l.notes l.heads =
    elim c.if-is_event_end.branch [
      | then-is_event_end+in_ok-room_fault u ↦ (look.1 u.room_fault.result u.if-is_event_end.true u.room_fault.ensures).1 u.in_ok-room_fault.was
      | else-is_event_end u ↦ look.0 u.if-is_event_end.false
    ] in
    record { maybe_indexed = p.maybe_indexed; output_len_bound = (p.output_len_bound.0, m.at_small); kept_in_bounds = p.names_in_bounds.0; used_in_bounds = m.used-fits; slots = (slots_kept _ _ l.invariant.2 p.slots.0, slots_kept _ _ l.invariant.3 p.slots_2); kept = kept_here a.first.now a.second.now a.output.now a.pool.now a.rows.now a.writer.names a.writer.written (l.w-index * 8) l.tally l.notes l.heads m p.names_in_bounds.1 }

pub returns-in_err-measure_row : goal.returns-in_err-measure_row
returns-in_err-measure_row c =
    let a = c.args in
    let p = c.requires in
    let l = c.loop-w in
    let here = row_here a.rows.now _ l.w-index [] c.as_chunks.ensures.front (omega arith) in
    let look = l.invariant.0 c.is_event_end.result (c.is_event_end.ensures ∙ ends_here a.rows.now _ (l.w-index * 8) here.0 here.1) in
    let m : Measuring a.first.now a.second.now a.output.now a.pool.now a.rows.now a.writer.names a.writer.written (l.w-index * 8) l.tally l.notes l.heads =
    elim c.if-is_event_end.branch [
      | then-is_event_end+in_ok-room_fault u ↦ (look.1 u.room_fault.result u.if-is_event_end.true u.room_fault.ensures).1 u.in_ok-room_fault.was
      | else-is_event_end u ↦ look.0 u.if-is_event_end.false
    ] in
    let said = c.measure_row in
    let e : c.from_residual-in_err-measure_row.result ≡ Err c.in_err-measure_row.field-0.0 = search rules in
    rw e (row-stopped a.first.now a.second.now a.output.now a.pool.now a.rows.now a.writer.names a.writer.written (l.w-index * 8) l.tally l.notes l.heads m here.0 p.rows_len _ here.1 (tally_of said.result said.new.tally) said.new.notes said.new.heads said.ensures c.in_err-measure_row.field-0.0 (ap (λ r. tally_of r said.new.tally) c.in_err-measure_row.was))

pub loop-w-preserved : goal.loop-w-preserved
loop-w-preserved c =
    let a = c.args in
    let p = c.requires in
    let l = c.loop-w in
    let here = row_here a.rows.now _ l.w-index [] c.as_chunks.ensures.front (omega arith) in
    let look = l.invariant.0 c.is_event_end.result (c.is_event_end.ensures ∙ ends_here a.rows.now _ (l.w-index * 8) here.0 here.1) in
    let m : Measuring a.first.now a.second.now a.output.now a.pool.now a.rows.now a.writer.names a.writer.written (l.w-index * 8) l.tally l.notes l.heads =
    elim c.if-is_event_end.branch [
      | then-is_event_end+in_ok-room_fault u ↦ (look.1 u.room_fault.result u.if-is_event_end.true u.room_fault.ensures).1 u.in_ok-room_fault.was
      | else-is_event_end u ↦ look.0 u.if-is_event_end.false
    ] in
    let said = c.measure_row in
    let next = owes a.first.now a.second.now a.output.now a.pool.now a.rows.now a.writer.names a.writer.written (l.w-index * 8) l.tally l.notes l.heads m here.0 p.rows_len _ here.1 (tally_of said.result said.new.tally) said.new.notes said.new.heads said.ensures p.output_len_bound.0 said.new.tally (ap (λ r. tally_of r said.new.tally) c.in_ok-measure_row.was) in
    (rw (next_row l.w-index) next, said.auto.notes ∙ l.invariant.1, said.auto.heads ∙ l.invariant.2, said.auto.seen ∙ l.invariant.3)

pub returns-in_err-room_fault-2 : goal.returns-in_err-room_fault-2
returns-in_err-room_fault-2 c =
    let a = c.args in
    let p = c.requires in
    let l = c.loop-w in
    let room = c.room_fault-2 in
    let e : c.from_residual-in_err-room_fault-2.result ≡ Err (Refused c.in_err-room_fault-2.field-0.0) = search rules in
    rw e ((ended_with a.first.now a.second.now a.output.now a.pool.now a.rows.now a.writer.names a.writer.written (l.w-index * 8) l.tally l.notes l.heads l.invariant.0 (omega (arith, p.rows_len)) room.result room.ensures).0 c.in_err-room_fault-2.field-0.0 c.in_err-room_fault-2.was)

pub returns : goal.returns
returns c =
    let a = c.args in
    let p = c.requires in
    let l = c.loop-w in
    let room = c.room_fault-2 in
    (ended_with a.first.now a.second.now a.output.now a.pool.now a.rows.now a.writer.names a.writer.written (l.w-index * 8) l.tally l.notes l.heads l.invariant.0 (omega (arith, p.rows_len)) room.result room.ensures).1 c.in_ok-room_fault-2.was
