use Rattle.std.proofs.Common.{arith}
use Rattle.text.specs.PutLaws.{put-none}
use Rattle.text.proofs.Steps.{none_left, one_left, two-left}
use Rattle.text.proofs.put_rest.Goals as goal

pub returns-in-len1 : goal.returns-in-len1
returns-in-len1 c = rw (one_left c.args.s.now _ _ (omega arith) c.letter.ensures c.letter-in-len1.ensures) c.put.ensures

pub returns-in-len2 : goal.returns-in-len2
returns-in-len2 c = rw (two-left c.args.s.now _ _ _ (omega arith) c.letter-in-len2.ensures c.letter-in-len2-2.ensures c.letter-in-len2-3.ensures) c.put-in-len2.ensures

pub returns-in_default : goal.returns-in_default
returns-in_default c = rw (none_left c.args.s.now (grind arith)) (put-none c.args.out.now c.args.at _ c.after.ensures)
