use native.Mathlib.Omega.{arith}
use mathlib.Core.Path.{refl, sym, ◌∙◌}
use Prim.Native.Nat.{◌+◌, ◌*◌, ◌-◌}
use Rattle.event.specs.Laws.{same-eq}
use Rattle.writer.proofs.Links.{begins, goes_on, falls}
use Rattle.writer.proofs.notes.look_up.Goals as goal

pub bounds-heads-slot : goal.bounds-heads-slot
bounds-heads-slot c = omega (arith, c.requires.slot_value.1)

pub overflow_cast-next : goal.overflow_cast-next
overflow_cast-next c = omega (arith, c.type_inv.heads c.args.slot)

pub loop-next-init : goal.loop-next-init
loop-next-init c = begins c.args.first.now c.args.second.now c.args.notes.now c.args.heads.now c.args.name.now c.requires.linked c.args.slot c.requires.slot_value.0 c.requires.slot_value.1

pub is_noted-requires : goal.is_noted-requires
is_noted-requires c =
    record { k_in_bounds = omega (arith, c.loop-next.invariant.below); name_value = c.requires.name_value }

pub overflow_mul-result : goal.overflow_mul-result
overflow_mul-result c = omega (arith, c.loop-next.invariant.below)

pub overflow_add-result : goal.overflow_add-result
overflow_add-result c = omega (arith, c.loop-next.invariant.below)

pub offset_bounds-notes-k : goal.offset_bounds-notes-k
offset_bounds-notes-k c = omega (arith, c.loop-next.invariant.below)

pub bounds-notes-k : goal.bounds-notes-k
bounds-notes-k c = omega (arith, c.loop-next.invariant.below)

pub returns-then-is_noted : goal.returns-then-is_noted
returns-then-is_noted c =
    let a = c.args in
    let l = c.loop-next in
    (l.next - 1, omega (arith, l.invariant.below), same-eq _ _ (sym c.is_noted.ensures ∙ c.if-is_noted.true), refl)

pub overflow_mul-next : goal.overflow_mul-next
overflow_mul-next c = omega (arith, c.loop-next.invariant.below)

pub overflow_add-next : goal.overflow_add-next
overflow_add-next c = omega (arith, c.loop-next.invariant.below)

pub offset_bounds-notes-k-in-loop-next : goal.offset_bounds-notes-k-in-loop-next
offset_bounds-notes-k-in-loop-next c = omega (arith, c.loop-next.invariant.below)

pub bounds-notes-k-in-loop-next : goal.bounds-notes-k-in-loop-next
bounds-notes-k-in-loop-next c = omega (arith, c.loop-next.invariant.below)

pub overflow_cast-next-in-loop-next : goal.overflow_cast-next-in-loop-next
overflow_cast-next-in-loop-next c = omega (arith, c.type_inv.notes (5 * (c.loop-next.next - 1) + 4))

pub loop-next-smaller : goal.loop-next-smaller
loop-next-smaller c =
    let a = c.args in
    let l = c.loop-next in
    falls a.first.now a.second.now a.notes.now a.heads.now a.name.now c.requires.linked l.next (omega arith) l.invariant

pub loop-next-preserved : goal.loop-next-preserved
loop-next-preserved c =
    let a = c.args in
    let l = c.loop-next in
    goes_on a.first.now a.second.now a.notes.now a.heads.now a.name.now c.requires.linked l.next (omega arith) l.invariant (sym c.is_noted.ensures ∙ c.if-is_noted.false)

pub returns : goal.returns
returns c = λ j h e. c.loop-next.invariant.others j (omega arith) h e
