-- `xml_escape::put_octets` meets its contract: an octet more.
use Rattle.std.proofs.Common.{arith}
use Rattle.xml_escape.proofs.Turns.{none-put, octet-put}
use Rattle.xml_escape.proofs.put_octets.Goals as goal

pub loop-b-init : goal.loop-b-init
loop-b-init c = none-put _ _ _ _ c.after-place.ensures

pub loop-b-preserved : goal.loop-b-preserved
loop-b-preserved c = octet-put _ _ _ _ _ _ _ _ c.loop-b.invariant (omega arith) c.put_octet-place.ensures
