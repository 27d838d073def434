use Rattle.text.specs.Numerals.{base64}
use Rattle.text.proofs.quad.Goals as goal

pub returns : goal.returns
unfolding base64
returns c = rw (c.letter.ensures, c.letter-2.ensures, c.letter-3.ensures, c.letter-4.ensures)
