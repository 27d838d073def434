use Rattle.xml_row.proofs.name_in.Goals as goal

pub returns : goal.returns
returns c = c.span.ensures.bytes
