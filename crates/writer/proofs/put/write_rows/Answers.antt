use Rattle.std.proofs.Common.{arith, []}
use Rattle.writer.proofs.Turns.{row_here, next_row}
use Rattle.writer.proofs.Writing.{begins, row-asks, keep-asks, turns, ended}
use Rattle.writer.proofs.put.write_rows.Goals as goal

pub loop-w-init : goal.loop-w-init
loop-w-init c =
    let a = c.args in
    let p = c.requires in
    begins a.first.now a.second.now a.output.now a.pool.now a.rows.now a.writer.names a.writer.written a.notes.now p.rows_value p.ready.settled

pub quick_known_name-known-requires : goal.quick_known_name-known-requires
quick_known_name-known-requires c =
    let p = c.requires in
    record { slots = p.slots; linked = p.ready.knows.linked }

pub write_row-next-requires : goal.write_row-next-requires
write_row-next-requires c =
    let a = c.args in
    let p = c.requires in
    let l = c.loop-w in
    let here = row_here a.rows.now _ l.w-index [] c.as_chunks.ensures.front (omega arith) in
    let known = c.quick_known_name-known in
    let asked = row-asks a.first.now a.second.now a.output.now a.pool.now a.rows.now a.writer.names a.writer.written a.notes.now _ l.at l.names l.output l.pool a.heads.now l.invariant p.ready here.0 p.rows_len _ here.1 known.result known.ensures in
    record { w_bound = asked.0; w_in_bounds = asked.1 }

pub keep_name-names-requires : goal.keep_name-names-requires
keep_name-names-requires c =
    let a = c.args in
    let p = c.requires in
    let l = c.loop-w in
    let here = row_here a.rows.now _ l.w-index [] c.as_chunks.ensures.front (omega arith) in
    let known = c.quick_known_name-known in
    let asked = keep-asks a.first.now a.second.now a.output.now a.pool.now a.rows.now a.writer.names a.writer.written a.notes.now _ l.at l.names l.output l.pool a.heads.now l.invariant p.ready here.0 p.rows_len _ here.1 known.result known.ensures p.output_len_bound in
    record { at_le_max_store = asked.0; at_in_bounds = asked.1 }

pub loop-w-preserved : goal.loop-w-preserved
loop-w-preserved c =
    let a = c.args in
    let p = c.requires in
    let l = c.loop-w in
    let here = row_here a.rows.now _ l.w-index [] c.as_chunks.ensures.front (omega arith) in
    let known = c.quick_known_name-known in
    let row = c.write_row-next in
    let name = c.keep_name-names in
    rw (next_row l.w-index) (turns a.first.now a.second.now a.output.now a.pool.now a.rows.now a.writer.names a.writer.written a.notes.now _ l.at l.names l.output l.pool a.heads.now l.invariant p.ready here.0 p.rows_len _ here.1 known.result known.ensures _ _ _ _ row.ensures.bytes row.ensures.place name.ensures.pairs name.ensures.count)

pub shape_of-output : goal.shape_of-output
shape_of-output c = c.loop-w.invariant.output-length

pub shape_of-pool : goal.shape_of-pool
shape_of-pool c = c.loop-w.invariant.table-length

pub returns : goal.returns
returns c =
    let a = c.args in
    let p = c.requires in
    let l = c.loop-w in
    ended a.first.now a.second.now a.output.now a.pool.now a.rows.now a.writer.names a.writer.written a.notes.now _ l.at l.names l.output l.pool a.heads.now l.invariant p.ready (omega (arith, p.rows_len))
