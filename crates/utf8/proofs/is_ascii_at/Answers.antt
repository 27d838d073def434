-- `utf8::is_ascii_at` meets its contract: by the look at its block.
use Rattle.std.proofs.Common.{◌+◌, arith}
use Rattle.utf8.proofs.Ascii.{block}
use Rattle.utf8.proofs.is_ascii_at.Goals as goal

pub returns : goal.returns
returns g c = λ e. block c.args.s.now c.args.i (c.args.i + g.row.N) (omega arith) (omega arith) (rw e at c.pass_test.ensures)
