use Rattle.std.proofs.Common.{◌≡◌, sym, ◌∙◌, suc, ◌+◌, ◌*◌, ◌-◌, ◌/◌, length, arith}
use Rattle.names.specs.Hash.{many_bytes}
use Rattle.names.proofs.Hashing.{eights-turn, eights-end}
use Rattle.names.proofs.many_bytes.Goals as goal

pub loop-k-preserved : goal.loop-k-preserved
loop-k-preserved c =
    let n = c.args.name.now in
    let l = c.loop-k in
    let turns = (length n - 1) / 8 in
    let left : turns - l.k ≡ suc (turns - (l.k + 1)) = omega arith in
    let next : 8 * l.k + 8 ≡ 8 * (l.k + 1) = omega arith in
    let turn = eights-turn (turns - (l.k + 1)) l.hash n (8 * l.k) in
    let e = rw (c.four_at.ensures, c.four_at-in-loop-k.ensures) at c.mix-hash.ensures in
    rw e (sym (rw next at turn) ∙ rw left at l.invariant)

pub returns : goal.returns
unfolding many_bytes
returns c =
    let n = c.args.name.now in
    let l = c.loop-k in
    let none_left : (length n - 1) / 8 - l.k ≡ 0 = omega arith in
    let all = sym (eights-end l.hash n (8 * l.k)) ∙ rw none_left at l.invariant in
    c.mix.ensures ∙ rw (c.four_at-2.ensures, c.four_at-3.ensures, all)
