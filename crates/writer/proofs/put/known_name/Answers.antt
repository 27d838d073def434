use native.Mathlib.Omega.{arith}
use mathlib.Core.Path.{sym, ◌∙◌}
use lib.ListN.{length}
use Rattle.writer.specs.Notes.{LookSays}
use Rattle.std.specs.Prelude.{Some, None}
use Rattle.slots.specs.Laws.{slot-below}
use Rattle.writer.proofs.Noting.{name, told-bare, told_at, told-late, told-new}
use Rattle.writer.proofs.put.known_name.Goals as goal

pub overflow_cast-heads : goal.overflow_cast-heads
overflow_cast-heads c = omega (arith, c.requires.slots.few-slots)

pub look_up-requires : goal.look_up-requires
look_up-requires c =
    let a = c.args in
    let f = a.first.now in
    let s = a.second.now in
    let w = a.w.now in
    record { name_value = c.name_in-name.ensures.bytes; slot_value = (c.slot_of-slot.ensures, rw c.slot_of-slot.ensures (slot-below (length a.heads.now) _ c.requires.slots.some-slots)); linked = c.requires.linked }

pub returns-then-i-names : goal.returns-then-i-names
returns-then-i-names c =
    let a = c.args in
    let f = a.first.now in
    let s = a.second.now in
    let w = a.w.now in
    let says : LookSays f s a.notes.now (name f s w a.names a.notes.now a.heads.now) (Some c.in-Some.i) = rw (c.in-Some.is, c.name_in-name.ensures.bytes) at c.look_up.ensures in
    told_at f s w a.names a.notes.now a.heads.now (sym c.has_name.ensures ∙ c.if-has_name.true) _ says c.if-i-names.true

pub returns-else-i-names : goal.returns-else-i-names
returns-else-i-names c =
    let a = c.args in
    let f = a.first.now in
    let s = a.second.now in
    let w = a.w.now in
    let says : LookSays f s a.notes.now (name f s w a.names a.notes.now a.heads.now) (Some c.in-Some.i) = rw (c.in-Some.is, c.name_in-name.ensures.bytes) at c.look_up.ensures in
    told-late f s w a.names a.notes.now a.heads.now (sym c.has_name.ensures ∙ c.if-has_name.true) _ says c.if-i-names.false

pub returns-in_default : goal.returns-in_default
returns-in_default c =
    let a = c.args in
    let f = a.first.now in
    let s = a.second.now in
    let w = a.w.now in
    told-new f s w a.names a.notes.now a.heads.now (sym c.has_name.ensures ∙ c.if-has_name.true) (rw (c.in_default.is, c.name_in-name.ensures.bytes) at c.look_up.ensures)

pub returns-else-has_name : goal.returns-else-has_name
returns-else-has_name c =
    let a = c.args in
    let f = a.first.now in
    let s = a.second.now in
    let w = a.w.now in
    told-bare f s w a.names a.notes.now a.heads.now (sym c.has_name.ensures ∙ c.if-has_name.false)
