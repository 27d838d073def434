use Rattle.std.proofs.Common.{◌∙◌}
use Rattle.equal_bytes.proofs.Turns.{word-eight}
use Rattle.equal_bytes.proofs.word_at.Goals as goal

pub returns : goal.returns
returns c = c.from_le_bytes.ensures ∙ word-eight c.args.s.now c.args.at c.requires
