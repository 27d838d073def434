use Rattle.std.proofs.Common.{◌≡◌, ◌/◌, ◌%◌, arith, ◌∙◌}
use Rattle.wire.specs.Header.{be16}
use Rattle.byte_copy.proofs.Parts.{all-stored}
use Rattle.writer.proofs.put.put_u16.Goals as goal

pub returns : goal.returns
unfolding be16
returns c =
    let a = c.args in
    let high : a.n % 65536 / 256 % 256 ≡ a.n / 256 % 256 = omega arith in
    let low : a.n % 65536 % 256 ≡ a.n % 256 = omega arith in
    all-stored a.output.now (be16 a.n) _ a.at c.requires (c.copy_from_slice.ensures.after ∙ c.to_be_bytes.ensures ∙ rw (high, low))
