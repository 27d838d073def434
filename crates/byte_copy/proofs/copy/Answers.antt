-- `byte_copy::copy` meets its contract: all bytes have room, or only the first.
use Rattle.std.proofs.Common.{sym, arith}
use Rattle.byte_copy.specs.Sets.{sets-past}
use Rattle.byte_copy.proofs.Parts.{some_stored, all-stored}
use Rattle.byte_copy.proofs.copy.Goals as goal

pub returns-then-to-at : goal.returns-then-to-at
returns-then-to-at c = (let a = c.args in sym (sets-past a.to.now a.from.now a.at (omega arith)))

pub returns-then-room-from : goal.returns-then-room-from
returns-then-room-from c =
    let a = c.args in
    some_stored a.to.now a.from.now _ a.at (omega arith) (omega arith) c.copy_all.ensures

pub returns : goal.returns
returns c =
    let a = c.args in
    all-stored a.to.now a.from.now _ a.at (omega arith) c.copy_all-2.ensures
