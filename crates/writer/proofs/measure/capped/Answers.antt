use Rattle.event.proofs.Tests.{tests}
use Rattle.writer.specs.Passes.{capped}
use Rattle.writer.proofs.measure.capped.Goals as goal

pub returns-then-limit-at : goal.returns-then-limit-at
unfolding capped
returns-then-limit-at c = search tests

pub returns : goal.returns
unfolding capped
returns c = search tests
