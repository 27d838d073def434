-- `byte_copy::copy_block` meets its contract: by the part that was lent.
use Rattle.std.proofs.Common.{◌∙◌}
use Rattle.byte_copy.proofs.Blocks.{block-stored}
use Rattle.byte_copy.proofs.copy_block.Goals as goal

pub returns : goal.returns
returns g c =
    let a = c.args in
    block-stored a.to.now a.from.now _ a.at g.row.N c.requires.to_len c.requires.block_in_bounds (c.copy_from_slice-2.ensures.after ∙ c.copy_from_slice.ensures.after)
