use Rattle.std.proofs.Common.{arith}
use Rattle.listing.specs.Line.{refused_line}
use Rattle.listing.proofs.Texts.{refused-length}
use Rattle.listing.proofs.Stored.{refused-put, put-fits, put-short}
use Rattle.listing.proofs.refused_line.Goals as goal

pub returns-then-out-len : goal.returns-then-out-len
returns-then-out-len c =
    let n = c.number-number.result in
    let d = c.detail-detail.result in
    rw (← c.number-number.ensures, ← c.detail-detail.ensures) (put-short (refused_line n d) c.args.out.now (omega (arith, refused-length n d, c.decimal_len.ensures.0, c.decimal_len-2.ensures.0, c.if-out-len.true)))

pub returns : goal.returns
returns c =
    let n = c.number-number.result in
    let d = c.detail-detail.result in
    rw (← c.number-number.ensures, ← c.detail-detail.ensures) (put-fits (refused_line n d) c.args.out.now _ _ (omega (arith, refused-length n d, c.decimal_len.ensures.0, c.decimal_len-2.ensures.0, c.if-out-len.false)) (refused-put n d c.args.out.now _ _ _ _ _ _ _ _ _ _ c.put-after_word.ensures c.put_decimal-after_number.ensures c.put_byte-after_space.ensures c.put_decimal-after_detail.ensures c.put_byte.ensures))
