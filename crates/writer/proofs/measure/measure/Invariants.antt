use Rattle.std.proofs.Common.{◌≡◌, ◌*◌, length}
use Rattle.writer.proofs.Measuring.{Owing}
use Rattle.writer.proofs.measure.measure.Given as goal

abbrev pub invariant-loop-w : goal.invariant-loop-w
invariant-loop-w l =
    Owing l.first l.second l.output l.pool l.rows l.kept l.initial.tally.at (l.w-index * 8) l.tally l.notes l.heads
    × (length l.notes ≡ length l.initial.notes) × (length l.heads ≡ length l.initial.heads) × (length l.seen ≡ length l.initial.seen)
