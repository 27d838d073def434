use Rattle.std.proofs.Common.{ap}
use Rattle.xml.specs.Passes.{refused_by}
use Rattle.xml.proofs.Laws.{strings-fine, strings-broken, strings-other}
use Rattle.xml.proofs.is_legal.Goals as goal

pub returns-in-Ok : goal.returns-in-Ok
returns-in-Ok c = strings-fine _ c.in-Ok.ensures.fault

pub returns-in-InvalidUtf8 : goal.returns-in-InvalidUtf8
returns-in-InvalidUtf8 c = (strings-broken _ (rw c.in-InvalidUtf8.is at c.in-Err.ensures.fault), ap refused_by c.in-InvalidUtf8.is)

pub returns-in_default : goal.returns-in_default
returns-in_default c = strings-other _ _ c.in_default.not-InvalidUtf8 c.in-Err.ensures.refusal c.in-Err.ensures.fault
