use mathlib.Core.Path.{◌∙◌}
use Rattle.writer_spec.specs.Writer.{write_event}
use Rattle.writer.proofs.write_event.Goals as goal

pub returns-in-Some : goal.returns-in-Some
unfolding write_event
returns-in-Some c = rw c.in-Some.is at c.write_short.ensures

pub returns-in-Some-write_long : goal.returns-in-Some-write_long
unfolding write_event
returns-in-Some-write_long c =
    let short = rw c.in_default.is at c.write_short.ensures in
    rw (← short.0) (rw c.in-Some-write_long.is at c.write_long.ensures)

pub returns : goal.returns
unfolding write_event
returns c =
    let short = rw c.in_default.is at c.write_short.ensures in
    let long = rw c.in_default-write_long.is at c.write_long.ensures in
    rw (← short.0, ← long.0) c.write_longest.ensures
