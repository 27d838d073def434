use Rattle.std.proofs.Common.{sym, ◌∙◌, lt-ltb}
use Rattle.xml.proofs.Laws.{ends-none, ends-by}
use Rattle.xml.proofs.ends.Goals as goal

pub returns-then-rows-lt8 : goal.returns-then-rows-lt8
returns-then-rows-lt8 c first second = ends-none c.args.rows.now c.if-rows-lt8.true first second ∙ sym (lt-ltb _ _ c.if-rows-lt8.true)

pub returns-else-rows-lt8 : goal.returns-else-rows-lt8
returns-else-rows-lt8 c first second = rw c.number.ensures (ends-by c.args.rows.now c.if-rows-lt8.false first second)
