use Rattle.std.proofs.Common.{length, lt-ltb, le-ltb}
use Rattle.grammar.proofs.Choice.{half-test}
use Rattle.writer_spec.specs.Writer.{state_bad}
use Rattle.writer.proofs.state_bad.Goals as goal

pub returns-then-output-writer : goal.returns-then-output-writer
unfolding state_bad
returns-then-output-writer c = rw (lt-ltb _ _ c.if-output-writer.true)

pub returns-else-output-writer : goal.returns-else-output-writer
unfolding state_bad
returns-else-output-writer c = rw (le-ltb _ _ c.if-output-writer.false) (half-test (length c.args.pool.now) c.args.writer.names)
