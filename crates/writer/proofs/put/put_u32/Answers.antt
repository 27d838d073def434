use Rattle.std.proofs.Common.{◌∙◌}
use Rattle.wire.specs.Header.{be32}
use Rattle.byte_copy.proofs.Parts.{all-stored}
use Rattle.writer.proofs.put.put_u32.Goals as goal

pub returns : goal.returns
unfolding be32
returns c =
    let a = c.args in
    all-stored a.output.now (be32 a.n) _ a.at c.requires (c.copy_from_slice.ensures.after ∙ c.to_be_bytes.ensures)
