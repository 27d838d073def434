use native.Mathlib.Omega.{arith}
use Rattle.listing.proofs.Texts.{digits_long}
use Rattle.listing.proofs.decimal_len.Goals as goal

pub returns : goal.returns
returns c = (digits_long c.decimal.result.bytes c.decimal.result.start _ c.decimal.ensures.0 c.decimal.ensures.2, omega arith)
