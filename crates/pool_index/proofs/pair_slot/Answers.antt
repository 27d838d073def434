use native.Mathlib.Nat.{add-sub_cancel_left}
use Rattle.pool_index.proofs.pair_slot.Goals as goal

pub returns : goal.returns
returns c = rw add-sub_cancel_left at c.slot_of.ensures
