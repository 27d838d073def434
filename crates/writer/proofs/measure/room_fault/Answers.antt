use lib.ListN.{length}
use Prim.Native.Nat.{◌*◌}
use Rattle.writer.specs.Passes.{room_of}
use borrow.Author.Tests.{lt-ltb, le-ltb}
use native.Mathlib.Omega.{arith}
use Rattle.writer.proofs.measure.room_fault.Goals as goal

pub returns-then-pool-names : goal.returns-then-pool-names
unfolding room_of
returns-then-pool-names c = rw (lt-ltb (length c.args.pool.now) (2 * c.args.names) (omega arith))

pub returns-then-output-at : goal.returns-then-output-at
unfolding room_of
returns-then-output-at c = rw (le-ltb (length c.args.pool.now) (2 * c.args.names) (omega arith), lt-ltb _ _ c.if-output-at.true)

pub returns : goal.returns
unfolding room_of
returns c = rw (le-ltb (length c.args.pool.now) (2 * c.args.names) (omega arith), le-ltb _ _ c.if-output-at.false)
