use Rattle.xml.proofs.Calls.{handed-on, alone-refused, alone-full, alone-put}
use Rattle.xml.proofs.print_row.Goals as goal

pub returns-in_err-fault : goal.returns-in_err-fault
returns-in_err-fault c =
    let said = c.in_err-fault.ensures in
    handed-on _ _ _ _ c.from_residual.ensures.1 (alone-refused _ _ _ _ said.refusal said.fault)

pub returns-then-output-end : goal.returns-then-output-end
returns-then-output-end c = alone-full _ _ _ _ c.in_ok-fault.ensures.fault c.end.ensures c.if-output-end.true

pub returns : goal.returns
returns c = alone-put _ _ _ _ c.in_ok-fault.ensures.fault c.end.ensures _ _ c.if-output-end.false c.put.ensures
