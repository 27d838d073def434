use Rattle.std.proofs.Common.{sym, ◌∙◌}
use Rattle.xml_row.proofs.Strings.{string-fault-of, no-string-fault}
use Rattle.xml_row.proofs.value_fault.Goals as goal

pub returns-in-String-clause-fault : goal.returns-in-String-clause-fault
returns-in-String-clause-fault c = rw (string-fault-of c.args.first.now c.args.second.now c.args.w.now (sym c.shape_of.ensures ∙ c.in-String.is), ← c.value_in.ensures) c.fault.ensures.fault

pub returns-in_default-clause-fault : goal.returns-in_default-clause-fault
returns-in_default-clause-fault c = rw (no-string-fault c.args.first.now c.args.second.now c.args.w.now (λ e. c.in_default.not-String (c.shape_of.ensures ∙ e)))
