use Rattle.std.proofs.Common.{◌<◌, length, arith}
use Rattle.slots.specs.Laws.{slot-by-below}
use Rattle.writer.proofs.notes.recall.Goals as goal

pub offset_bounds-seen-slot_by : goal.offset_bounds-seen-slot_by
offset_bounds-seen-slot_by c =
    let low : c.slot_by.result < length c.args.seen.now = rw c.slot_by.ensures (slot-by-below _ _ c.requires.slots.some-slots) in
    omega (arith, low)

pub bounds-seen-slot_by : goal.bounds-seen-slot_by
bounds-seen-slot_by c = rw c.slot_by.ensures (slot-by-below _ _ c.requires.slots.some-slots)
