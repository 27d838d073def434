use native.Mathlib.Omega.{arith}
use Rattle.listing.specs.Line.{end_line}
use Rattle.listing.proofs.Texts.{end-length}
use Rattle.listing.proofs.Stored.{end-put, put-fits, put-short}
use Rattle.listing.proofs.end_line.Goals as goal

pub returns-then-out-len : goal.returns-then-out-len
returns-then-out-len c = put-short (end_line c.args.events) c.args.out.now (omega (arith, end-length c.args.events, c.decimal_len-len.ensures.0, c.if-out-len.true))

pub returns : goal.returns
returns c = put-fits (end_line c.args.events) c.args.out.now _ _ (omega (arith, end-length c.args.events, c.decimal_len-len.ensures.0, c.if-out-len.false)) (end-put c.args.events c.args.out.now _ _ _ _ _ _ c.put-after_word.ensures c.put_decimal-after_number.ensures c.put_byte.ensures)
