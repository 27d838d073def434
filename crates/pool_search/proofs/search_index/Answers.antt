use native.Mathlib.Omega.{arith}
use mathlib.Core.Path.{◌≡◌, sym, ◌∙◌}
use Prim.Native.Nat.{◌+◌, ◌*◌, ◌-◌}
use Rattle.slots.specs.Laws.{slot-below}
use Rattle.pool_search.proofs.Seeking.{seek-begins, seek-goes-on, seek-falls, seek_found, seek-bad, seek-nowhere}
use Rattle.pool_search.proofs.search_index.Goals as goal

pub offset_bounds-index-slot_of : goal.offset_bounds-index-slot_of
offset_bounds-index-slot_of c =
    let a = c.args in
    omega (arith, slot-below 16384 a.name.now (omega arith), c.slot_of.ensures)

pub bounds-index-slot_of : goal.bounds-index-slot_of
bounds-index-slot_of c =
    let a = c.args in
    omega (arith, slot-below 16384 a.name.now (omega arith), c.slot_of.ensures, c.requires.index_len)

pub overflow_cast-next : goal.overflow_cast-next
overflow_cast-next c = omega (arith, c.type_inv.index c.slot_of.result)

pub loop-next-init : goal.loop-next-init
loop-next-init c =
    let a = c.args in
    let s = c.slot_of in
    (omega (arith, c.type_inv.index s.result), λ x. seek-begins a.output.now a.name.now a.pool.now a.names a.index.now x s.result s.ensures (omega (arith, slot-below 16384 a.name.now (omega arith), s.ensures)))

pub overflow_sub-i : goal.overflow_sub-i
overflow_sub-i c = c.loop-next.invariant.0

pub returns-then-names-i : goal.returns-then-names-i
returns-then-names-i c =
    let l = c.loop-next in
    λ x. absurd (omega (arith, ((l.invariant.1 x).here (omega arith)).0, x.inside.below))

pub bounds-pool-i : goal.bounds-pool-i
bounds-pool-i c = omega (arith, c.requires.names_in_bounds)

pub overflow_cast-start : goal.overflow_cast-start
overflow_cast-start c = omega (arith, c.type_inv.pool (2 * (65535 - c.loop-next.next)))

pub bounds-pool-i-in-loop-next : goal.bounds-pool-i-in-loop-next
bounds-pool-i-in-loop-next c = omega (arith, c.requires.names_in_bounds)

pub overflow_cast-len : goal.overflow_cast-len
overflow_cast-len c = omega (arith, c.type_inv.pool (2 * (65535 - c.loop-next.next) + 1))

pub overflow_add-start : goal.overflow_add-start
overflow_add-start c =
    let i = 65535 - c.loop-next.next in
    omega (arith, c.type_inv.pool (2 * i), c.type_inv.pool (2 * i + 1))

pub returns-then-output-start : goal.returns-then-output-start
returns-then-output-start c =
    let l = c.loop-next in
    λ x. absurd (omega (arith, x.inside.each (65535 - l.next) ((l.invariant.1 x).here (omega arith)).0))

pub spans_name-requires : goal.spans_name-requires
spans_name-requires c = c.if-output-start.false

pub returns-then-spans_name : goal.returns-then-spans_name
returns-then-spans_name c =
    let a = c.args in
    let l = c.loop-next in
    λ x. seek_found a.output.now a.name.now a.pool.now a.names a.index.now x l.next (omega arith) (l.invariant.1 x) (sym c.spans_name.ensures ∙ c.if-spans_name.true)

pub bounds-index-i : goal.bounds-index-i
bounds-index-i c = omega (arith, c.requires.index_len)

pub overflow_cast-after : goal.overflow_cast-after
overflow_cast-after c = omega (arith, c.type_inv.index (16385 + (65535 - c.loop-next.next)))

pub returns-then-next-after : goal.returns-then-next-after
returns-then-next-after c =
    let a = c.args in
    let l = c.loop-next in
    λ x. absurd (omega (arith, seek-falls a.output.now a.name.now a.pool.now a.names a.index.now x l.next (omega arith) (l.invariant.1 x)))

pub loop-next-preserved : goal.loop-next-preserved
loop-next-preserved c =
    let a = c.args in
    let l = c.loop-next in
    (omega (arith, l.invariant.0), λ x. seek-goes-on a.output.now a.name.now a.pool.now a.names a.index.now x l.next (omega arith) (l.invariant.1 x) (sym c.spans_name.ensures ∙ c.if-spans_name.false))

pub bounds-index-16384 : goal.bounds-index-16384
bounds-index-16384 c = omega (arith, c.requires.index_len)

pub overflow_cast-index : goal.overflow_cast-index
overflow_cast-index c = omega (arith, c.type_inv.index 16384)

pub returns-then-index-names : goal.returns-then-index-names
returns-then-index-names c =
    let a = c.args in
    let l = c.loop-next in
    let z : l.next ≡ 0 = omega arith in
    λ x. seek-bad a.output.now a.name.now a.pool.now a.names a.index.now x (rw z at (l.invariant.1 x)) c.if-index-names.true

pub returns : goal.returns
returns c =
    let a = c.args in
    let l = c.loop-next in
    let z : l.next ≡ 0 = omega arith in
    λ x. seek-nowhere a.output.now a.name.now a.pool.now a.names a.index.now x (rw z at (l.invariant.1 x)) c.if-index-names.false
