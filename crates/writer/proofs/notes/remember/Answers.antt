use lib.ListN.{length}
use Prim.Native.Nat.{◌<◌}
use native.Mathlib.Omega.{arith}
use Rattle.slots.specs.Laws.{slot-by-below}
use Rattle.writer.proofs.notes.remember.Goals as goal

pub overflow_cast-seen : goal.overflow_cast-seen
overflow_cast-seen c = omega (arith, c.requires.few-slots)

pub offset_bounds-seen-place : goal.offset_bounds-seen-place
offset_bounds-seen-place c =
    let low : c.slot_by-place.result < length c.args.seen.now = rw c.slot_by-place.ensures (slot-by-below _ _ c.requires.some-slots) in
    omega (arith, low)

pub bounds-seen-place : goal.bounds-seen-place
bounds-seen-place c = rw c.slot_by-place.ensures (slot-by-below _ _ c.requires.some-slots)

pub offset_bounds-seen-place-then-seen-place-eq0 : goal.offset_bounds-seen-place-then-seen-place-eq0
offset_bounds-seen-place-then-seen-place-eq0 c =
    let low : c.slot_by-place.result < length c.args.seen.now = rw c.slot_by-place.ensures (slot-by-below _ _ c.requires.some-slots) in
    omega (arith, low)

pub bounds-seen-place-then-seen-place-eq0 : goal.bounds-seen-place-then-seen-place-eq0
bounds-seen-place-then-seen-place-eq0 c = rw c.slot_by-place.ensures (slot-by-below _ _ c.requires.some-slots)
