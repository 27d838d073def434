-- `byte_copy::copy_blocks` meets its contract: a block more, and the last.
use Rattle.std.proofs.Common.{ℕ, ◌+◌, ◌-◌, ◌∙◌, length, arith}
use Rattle.byte_copy.proofs.Blocks.{block-copied, all-copied}
use Rattle.byte_copy.proofs.copy_blocks.Goals as goal

pub loop-at-preserved : goal.loop-at-preserved
loop-at-preserved g c =
    let l = c.loop-at in
    (omega arith, rw c.copy_block.ensures (block-copied c.args.from.now l.to l.at l.at g.row.N (omega arith) (omega arith) l.invariant.1))

pub returns : goal.returns
returns g c =
    let from = c.args.from.now in
    let l = c.loop-at in
    let last : ℕ = length from - g.row.N in
    c.copy_block-2.ensures ∙ all-copied from _ (last + g.row.N) (omega arith) (block-copied from l.to l.at last g.row.N (omega arith) (omega arith) l.invariant.1)
