use Rattle.std.proofs.Common.{◌*◌}
use Rattle.writer.proofs.Writing.{Writing}
use Rattle.writer.proofs.put.write_rows.Given as goal

abbrev pub invariant-loop-w : goal.invariant-loop-w
invariant-loop-w l = Writing l.first l.second l.initial.output l.initial.pool l.rows l.initial.names l.initial.at l.notes (l.w-index * 8) l.at l.names l.output l.pool
