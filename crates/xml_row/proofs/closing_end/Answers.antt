use Rattle.xml_row.proofs.closing_end.Goals as goal

pub returns-then-last : goal.returns-then-last
returns-then-last c = rw c.if-last.true c.after.ensures

pub returns : goal.returns
returns c = rw c.if-last.false c.after-2.ensures
