use Rattle.slots.specs.Slots.{slot_of}
use Rattle.slots.proofs.slot_of.Goals as goal

pub returns : goal.returns
unfolding slot_of
returns c = rw (← c.hash.ensures) c.slot_by.ensures
