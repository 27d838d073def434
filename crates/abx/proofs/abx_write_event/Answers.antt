use Rattle.abx.proofs.Left.{write-left}
use Rattle.abx.proofs.abx_write_event.Goals as goal

pub returns : goal.returns
returns c = write-left _ _ _ _ _ _ c.tell_written.ensures c.write_event.ensures
