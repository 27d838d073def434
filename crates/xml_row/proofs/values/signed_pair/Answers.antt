use Rattle.xml_row.specs.Numbers.{positive, negative}
use native.Mathlib.Omega.{arith}
use Rattle.xml_row.proofs.values.signed_pair.Goals as goal

pub returns-then-n-lt9223372036854775808 : goal.returns-then-n-lt9223372036854775808
returns-then-n-lt9223372036854775808 c = λ base. positive base 9223372036854775808 _ c.if-n-lt9223372036854775808.true

pub returns : goal.returns
returns c = λ base. negative base 9223372036854775808 _ _ c.if-n-lt9223372036854775808.false (omega (arith, c.ranges))
