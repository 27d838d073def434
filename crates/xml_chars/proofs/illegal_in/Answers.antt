-- `xml_chars::illegal_in` meets its contract: its loop takes one place more.
use Rattle.std.proofs.Common.{arith}
use Rattle.xml_chars.proofs.Places.{more}
use Rattle.xml_chars.proofs.illegal_in.Goals as goal

pub loop-k-preserved : goal.loop-k-preserved
loop-k-preserved c = let l = c.loop-k in more c.args.s.now c.args.i l.k l.any _ (omega arith) c.is_illegal-any.ensures l.invariant
