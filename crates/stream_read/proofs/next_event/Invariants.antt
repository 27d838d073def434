use Rattle.std.proofs.Common.{◌-◌}
use Rattle.stream.specs.Answers.{stream_of, lend}
use Rattle.stream_read.proofs.Along.{Along}
use Rattle.stream_read.proofs.next_event.Given as goal

abbrev pub invariant-loop-count : goal.invariant-loop-count
invariant-loop-count g l =
    Along (g.R.Read.remaining l.initial.input) (g.R.Read.remaining l.input) (stream_of l.initial.reader) (lend l.initial.window l.initial.table l.initial.store) l.initial.rows
    (stream_of l.reader) (lend l.window l.table l.store) l.rows

abbrev pub decreases-loop-count : goal.decreases-loop-count
decreases-loop-count g l = 18_446_744_073_709_551_615 - l.reads
