use Rattle.std.proofs.Common.{sym, ◌∙◌}
use Rattle.xml_row.proofs.Strings.{name-fault-of, no-name-fault}
use Rattle.xml_row.proofs.name_fault.Goals as goal

pub returns-then-has_name-clause-fault : goal.returns-then-has_name-clause-fault
returns-then-has_name-clause-fault c = rw (name-fault-of c.args.first.now c.args.second.now c.args.w.now (sym c.has_name.ensures ∙ c.if-has_name.true), ← c.name_in.ensures) c.fault.ensures.fault

pub returns-clause-fault : goal.returns-clause-fault
returns-clause-fault c = rw (no-name-fault c.args.first.now c.args.second.now c.args.w.now (sym c.has_name.ensures ∙ c.if-has_name.false))
