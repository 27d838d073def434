use mathlib.Core.Path.{◌≡◌}
use Prim.Native.Nat.{◌+◌}
use borrow.Author.Tests.{lt-ltb}
use Rattle.text.specs.Numerals.{digit}
use Rattle.listing.proofs.put_digit.Goals as goal

pub returns : goal.returns
unfolding digit
returns c =
    let d : digit c.args.d ≡ 48 + c.args.d = rw (lt-ltb c.args.d 10 c.requires) in
    rw d c.put_byte.ensures
