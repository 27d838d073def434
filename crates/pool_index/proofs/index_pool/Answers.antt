use native.Mathlib.Omega.{arith}
use mathlib.Core.Path.{◌≡◌, refl, ◌∙◌}
use Prim.Native.Nat.{◌+◌, ◌-◌, ◌≤◌}
use lib.ListN.{length-set}
use Rattle.slots.specs.Laws.{slot-below}
use Rattle.pool_index.specs.Index.{pair_name}
use Rattle.pool_index.proofs.Indexing.{chained-none, chained_more, indexed}
use Rattle.pool_index.proofs.index_pool.Goals as goal

pub inside-bound-requires : goal.inside-bound-requires
inside-bound-requires c = c.requires.names_in_bounds.0

pub loop-i-init : goal.loop-i-init
loop-i-init c =
    let a = c.args in
    let p = c.requires in
    let s = c.inside-bound in
    let few : s.result ≤ 65535 = omega (arith, s.ensures.below, p.names_in_bounds.1) in
    (omega arith, refl, λ f. chained-none a.output.now a.pool.now s.result few a.index.now p.index_len f)

pub pair_slot-slot-requires : goal.pair_slot-slot-requires
pair_slot-slot-requires c =
    let a = c.args in
    let p = c.requires in
    let l = c.loop-i in
    let s = c.inside-bound.ensures in
    record {
      i_in_bounds = omega (arith, s.below, p.names_in_bounds.0, l.invariant.0);
      i_in_bounds_2 = s.each (l.i - 1) (omega (arith, l.invariant.0));
    }

pub index_pair-requires : goal.index_pair-requires
index_pair-requires c =
    let a = c.args in
    let p = c.requires in
    let l = c.loop-i in
    let s = c.inside-bound in
    let few : s.result ≤ 65535 = omega (arith, s.ensures.below, p.names_in_bounds.1) in
    record { index_len = l.invariant.1 ∙ p.index_len; slot_bound = (omega (arith, slot-below 16384 (pair_name a.output.now a.pool.now (l.i - 1)) (omega arith), c.pair_slot-slot.ensures), omega (arith, few, l.invariant.0)) }

pub loop-i-preserved : goal.loop-i-preserved
loop-i-preserved c =
    let a = c.args in
    let p = c.requires in
    let l = c.loop-i in
    let s = c.inside-bound in
    let few : s.result ≤ 65535 = omega (arith, s.ensures.below, p.names_in_bounds.1) in
    let slot = c.pair_slot-slot in
    let e : l.i - 1 + 1 ≡ l.i = omega arith in
    (omega (arith, l.invariant.0), rw (c.index_pair.ensures, length-set, length-set) l.invariant.1, λ f. rw c.index_pair.ensures (chained_more a.output.now a.pool.now s.result few l.index (l.i - 1) (omega (arith, l.invariant.0)) (rw e (l.invariant.2 f)) slot.result slot.ensures (omega (arith, slot-below 16384 (pair_name a.output.now a.pool.now (l.i - 1)) (omega arith), c.pair_slot-slot.ensures))))

pub overflow_cast-index : goal.overflow_cast-index
overflow_cast-index c =
    let a = c.args in
    let p = c.requires in
    omega (arith, c.inside-bound.ensures.below, p.names_in_bounds.1)

pub bounds-index-16384 : goal.bounds-index-16384
bounds-index-16384 c = omega (arith, c.loop-i.invariant.1, c.requires.index_len)

pub shape_of-index : goal.shape_of-index
shape_of-index c = rw length-set c.loop-i.invariant.1

pub returns : goal.returns
returns c =
    let a = c.args in
    let p = c.requires in
    let l = c.loop-i in
    let s = c.inside-bound in
    let few : s.result ≤ 65535 = omega (arith, s.ensures.below, p.names_in_bounds.1) in
    let z : l.i ≡ 0 = omega arith in
    λ f. indexed a.output.now a.pool.now s.result few a.names p.names_in_bounds.1 s.ensures l.index (rw z at (l.invariant.2 f))
