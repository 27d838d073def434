-- `utf8_part::is_low` meets its contract. The invariant of its loop is what it ensures, of the octets so far.
use Rattle.std.proofs.Common.{◌≡◌, true, length}
use Rattle.utf8_part.specs.Reading.{Low}
use Rattle.utf8_part.proofs.is_low.Given as goal

abbrev pub invariant-loop-b : goal.invariant-loop-b
invariant-loop-b l = l.all ≡ true → Low l.block l.n l.places (length l.yielded)
