use Rattle.grammar.proofs.Stores.{put-turn}
use Rattle.std.proofs.Common.{arith}
use Rattle.std.proofs.Math.ListN.{length-set}
use Rattle.quick.proofs.put_row.Goals as goal

pub bounds-rows-to-2 : goal.bounds-rows-to-2
bounds-rows-to-2 c = simp length-set (omega arith)

pub bounds-rows-to-3 : goal.bounds-rows-to-3
bounds-rows-to-3 c = simp length-set (omega arith)

pub bounds-rows-to-4 : goal.bounds-rows-to-4
bounds-rows-to-4 c = simp length-set (omega arith)

pub bounds-rows-to-5 : goal.bounds-rows-to-5
bounds-rows-to-5 c = simp length-set (omega arith)

pub bounds-rows-to-6 : goal.bounds-rows-to-6
bounds-rows-to-6 c = simp length-set (omega arith)

pub bounds-rows-to-7 : goal.bounds-rows-to-7
bounds-rows-to-7 c = simp length-set (omega arith)

pub bounds-rows-to-8 : goal.bounds-rows-to-8
bounds-rows-to-8 c = simp length-set (omega arith)

pub returns : goal.returns
returns c = put-turn c.args.rows.now c.args.to _ _ _ _ _ _ _ _
