use Rattle.xml_row.proofs.values.digits.Goals as goal

pub returns-then-hexadecimal : goal.returns-then-hexadecimal
returns-then-hexadecimal c = rw c.if-hexadecimal.true c.hexadecimal.ensures

pub returns : goal.returns
returns c = rw c.if-hexadecimal.false c.decimal.ensures
