use mathlib.Core.Logic.{inl, inr}
use Rattle.xml_row.proofs.Laws.{after_two, groups-are}
use Rattle.xml_row.proofs.values.base64_end.Goals as goal
use Rattle.xml_row.proofs.values.base64_end.Goals.{then-n-eq0, else-n-eq0}

pub returns : goal.returns
returns c = rw (← groups-are c.args.n c.if-n-eq0.groups (elim c.if-n-eq0.branch [ then-n-eq0 u ↦ inl (u.if-n-eq0.true, u.groups-is) | else-n-eq0 u ↦ inr (u.if-n-eq0.false, u.groups-is) ])) (after_two _ _ _ _ _ _ (after_two _ _ _ _ _ _ (after_two _ _ _ _ _ _ c.after.ensures c.after-half.ensures) c.after-2.ensures) c.after-3.ensures)
