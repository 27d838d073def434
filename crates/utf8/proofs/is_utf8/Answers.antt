-- `utf8::is_utf8` meets its contract: ASCII, then characters, and of a long text the rest.
use Rattle.std.proofs.Common.{sym, arith}
use Rattle.std.proofs.Math.Seq.{take-length}
use Rattle.utf8.proofs.Ascii.{whole}
use Rattle.utf8.proofs.is_utf8.Goals as goal
use Rattle.utf8.proofs.is_utf8.Goals.{then-s, else-s}

pub returns-then-i-s : goal.returns-then-i-s
returns-then-i-s c = sym (rw (c.if-i-s.true, take-length) at (whole _ _ c.ascii_start-i.ensures))

pub walk-requires : goal.walk-requires
walk-requires c =
    let a = c.ascii_start-i.ensures in
    (a.inside, elim c.if-s.branch [ then-s w ↦ omega arith | else-s w ↦ omega arith ], whole _ _ a)
