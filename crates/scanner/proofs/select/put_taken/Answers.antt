use Rattle.std.proofs.Common.{◌≡◌, ◌<◌, ◌+◌, ◌-◌, length, sym, arith}
use Rattle.std.proofs.lemmas.Bool.Decides.{nat_tests}
use Rattle.byte_copy.specs.Sets.{sets-past}
use Rattle.scanner.proofs.Keeping.{part-put}
use Rattle.scanner.proofs.select.put_taken.Goals as goal

pub returns-then-not-is_empty : goal.returns-then-not-is_empty
returns-then-not-is_empty c =
    let a = c.args in
    let n : 0 < length a.rows.now = grind (arith, nat_tests) in
    part-put a.rows.now a.row.now _ a.to (a.to + 8 - a.to) c.copy_from_slice.ensures.after (omega arith) (omega (arith, c.requires n))

pub returns-else-not-is_empty : goal.returns-else-not-is_empty
returns-else-not-is_empty c =
    let a = c.args in
    let n : length a.rows.now ≡ 0 = grind (arith, nat_tests) in
    sym (sets-past a.rows.now a.row.now a.to (omega arith))
