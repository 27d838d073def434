use Rattle.std.proofs.Common.{refl, lt-ltb, le-ltb}
use borrow.Author.Tests.{not-true, not-false}
use Rattle.xml_spec.specs.Rows.{end_refusal}
use Rattle.xml.proofs.end_event.Goals as goal

pub returns-then-not-tally : goal.returns-then-not-tally
unfolding end_refusal
returns-then-not-tally c = rw (not-true c.args.tally.legal c.if-not-tally.true)

pub returns-then-room-tally : goal.returns-then-room-tally
unfolding end_refusal
returns-then-room-tally c = rw (not-false c.args.tally.legal c.if-not-tally.false, lt-ltb _ _ c.if-room-tally.true)

pub returns : goal.returns
unfolding end_refusal
returns c = (rw (not-false c.args.tally.legal c.if-not-tally.false, le-ltb _ _ c.if-room-tally.false), refl, not-false c.args.tally.legal c.if-not-tally.false)
