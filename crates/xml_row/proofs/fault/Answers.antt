use Rattle.xml_row.specs.Faults.{worse, worse-is}
use Rattle.xml_row.proofs.Strings.{worse-none, worse-illegal}
use Rattle.xml_row.proofs.fault.Goals as goal

pub returns-in-Ok-clause-fault : goal.returns-in-Ok-clause-fault
returns-in-Ok-clause-fault c =
    rw (← worse-is _, ← c.in-Ok.ensures.fault, ← c.value_fault.ensures.fault) (worse-none _ c.value_fault.ensures.refusal)

pub returns-in-InvalidUtf8-clause-fault : goal.returns-in-InvalidUtf8-clause-fault
unfolding worse
returns-in-InvalidUtf8-clause-fault c =
    rw (← worse-is _, ← c.in-Err.ensures.fault, c.in-InvalidUtf8.is)

pub returns-in_default-clause-fault : goal.returns-in_default-clause-fault
returns-in_default-clause-fault c =
    rw (← worse-is _, ← c.in-Err.ensures.fault, ← c.value_fault-in_default.ensures.fault, c.and.ensures)
    (worse-illegal _ c.value_fault-in_default.ensures.refusal _ c.in_default.not-InvalidUtf8 c.in-Err.ensures.refusal)
