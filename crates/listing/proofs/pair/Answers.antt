use Rattle.wire.specs.Header.{be32}
use Rattle.listing.proofs.pair.Goals as goal

pub returns : goal.returns
unfolding be32
returns c = rw (c.copy_from_slice-2.ensures.after, c.copy_from_slice.ensures.after, c.word.ensures, c.word-2.ensures)
