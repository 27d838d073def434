use Rattle.text.specs.PutLaws.{put-none}
use Rattle.xml_row.proofs.put_closing.Goals as goal

pub returns-then-last : goal.returns-then-last
returns-then-last c = rw c.if-last.true c.put_byte.ensures

pub returns : goal.returns
returns c = rw c.if-last.false (put-none _ _ _ c.after.ensures)
