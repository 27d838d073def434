use Rattle.xml_row.specs.Numbers.{positive, negative}
use native.Mathlib.Omega.{arith}
use Rattle.xml_row.proofs.values.signed_word.Goals as goal

pub returns-then-b-lt2147483648 : goal.returns-then-b-lt2147483648
returns-then-b-lt2147483648 c = λ base. positive base 2147483648 _ c.if-b-lt2147483648.true

pub returns : goal.returns
returns c = λ base. negative base 2147483648 _ _ c.if-b-lt2147483648.false (omega arith)
