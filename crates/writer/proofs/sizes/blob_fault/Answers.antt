use Rattle.writer_spec.specs.Faults.{blob_fault}
use Rattle.event.proofs.Tests.{tests}
use Rattle.writer.proofs.sizes.blob_fault.Goals as goal

pub returns-then-s-gt-MAX_UNSIGNED_SHORT : goal.returns-then-s-gt-MAX_UNSIGNED_SHORT
unfolding blob_fault
returns-then-s-gt-MAX_UNSIGNED_SHORT c = search tests

pub returns : goal.returns
unfolding blob_fault
returns c = search tests
