use mathlib.Core.List.{[], ◌∷◌}
use Prim.Native.Nat.{◌/◌, ◌%◌}
use Rattle.text.specs.Numerals.{digit}
use Rattle.text.specs.PutLaws.{put_both}
use Rattle.text.specs.Laws.{numeral-one}
use Rattle.listing.proofs.Texts.{digits-part, two_digits}
use Rattle.listing.proofs.put_decimal.Goals as goal

pub returns-then-n-lt10 : goal.returns-then-n-lt10
returns-then-n-lt10 c = rw (numeral-one 10 c.args.n c.if-n-lt10.true) c.put_digit.ensures

pub returns-then-n-lt100 : goal.returns-then-n-lt100
returns-then-n-lt100 c = rw (two_digits c.args.n c.if-n-lt10.false c.if-n-lt100.true) (put_both c.args.out.now c.args.at (digit (c.args.n / 10) ∷ []) (digit (c.args.n % 10) ∷ []) _ _ _ _ c.put_digit-place.ensures c.put_digit-then-n-lt100.ensures)

pub returns : goal.returns
returns c = rw (digits-part _ _ c.args.n c.decimal-numeral.ensures.0 c.decimal-numeral.ensures.2) at c.put.ensures
