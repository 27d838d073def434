use native.Mathlib.Omega.{arith}
use mathlib.Core.Path.{refl, sym, ◌∙◌}
use lib.ListN.{length}
use lib.Seq.{length-take-le}
use Rattle.event.specs.Row.{row_at}
use Rattle.slots.specs.Laws.{slot-below}
use Rattle.writer.proofs.Keeps.{name-is}
use Rattle.writer.proofs.Measures.{says_row, says-noted, says-bare}
use Rattle.writer.proofs.measure.name_size.Goals as goal

pub overflow_cast-heads : goal.overflow_cast-heads
overflow_cast-heads c = omega (arith, c.requires.slots.few-slots)

pub slice_bounds-look_up-end-then-has_name : goal.slice_bounds-look_up-end-then-has_name
slice_bounds-look_up-end-then-has_name c = sym (length-take-le c.args.used c.args.notes.now c.requires.used_in_bounds)

pub look_up-requires : goal.look_up-requires
look_up-requires c =
    let a = c.args in
    let p = c.requires in
    let k = p.kept in
    let f = a.first.now in
    let s = a.second.now in
    let w = a.w.now in
    record { name_value = c.name_in-name.ensures.bytes; slot_value = (c.slot_of-slot.ensures, rw c.slot_of-slot.ensures (slot-below (length a.heads.now) _ p.slots.some-slots)); linked = k.3.linked }

pub unnoted_size-requires : goal.unnoted_size-requires
unnoted_size-requires c =
    let a = c.args in
    let p = c.requires in
    let k = p.kept in
    let f = a.first.now in
    let s = a.second.now in
    let w = a.w.now in
    let unnoted = rw c.in-None.is at c.look_up.ensures in
    record { maybe_indexed = c.requires.maybe_indexed; name_value = c.name_in-name.ensures.bytes; kept_in_bounds = p.kept_in_bounds; used_in_bounds = p.used_in_bounds; slot_value = (c.slot_of-slot.ensures, rw c.slot_of-slot.ensures (slot-below (length a.heads.now) _ p.slots.some-slots)); kept = k; name_len_bound = c.name_in-name.ensures.short; unnoted = unnoted }

pub returns-in-Some : goal.returns-in-Some
unfolding row_at
returns-in-Some c =
    let a = c.args in
    let p = c.requires in
    let k = p.kept in
    let f = a.first.now in
    let s = a.second.now in
    let w = a.w.now in
    let says = rw c.in-Some.is at c.look_up.ensures in
    λ pool e t. says-noted f s a.output.now a.pool.now a.kept pool (row_at f s w) _ a.notes.now a.used (sym c.has_name.ensures ∙ c.if-has_name.true) (name-is f s w a.names (sym c.has_name.ensures ∙ c.if-has_name.true) ∙ sym c.name_in-name.ensures.bytes) a.heads.now _ a.names e p.used_in_bounds t says

pub returns-in-None : goal.returns-in-None
unfolding row_at
returns-in-None c =
    let a = c.args in
    let p = c.requires in
    let k = p.kept in
    let f = a.first.now in
    let s = a.second.now in
    let w = a.w.now in
    λ pool e t. says_row f s a.output.now a.pool.now a.kept pool (row_at f s w) _ a.notes.now a.used (sym c.has_name.ensures ∙ c.if-has_name.true) (name-is f s w a.names (sym c.has_name.ensures ∙ c.if-has_name.true) ∙ sym c.name_in-name.ensures.bytes) c.unnoted_size.new.notes c.unnoted_size.new.heads c.unnoted_size.result (c.unnoted_size.ensures pool e t)

pub returns : goal.returns
unfolding row_at
returns c =
    let a = c.args in
    let p = c.requires in
    let k = p.kept in
    let f = a.first.now in
    let s = a.second.now in
    let w = a.w.now in
    λ pool e t. says-bare f s a.output.now a.pool.now a.kept pool (row_at f s w) a.notes.now a.heads.now a.used a.names (sym c.has_name.ensures ∙ c.if-has_name.false) e p.used_in_bounds t
