use Rattle.std.proofs.Common.{arith, inl, inr}
use Rattle.std.proofs.Math.ListN.{length-take}
use Rattle.stream_read.proofs.Whole.{all-fed, done-ordered}
use Rattle.stream_read.proofs.read_by.Goals as goal

pub returns-then-count-eq0 : goal.returns-then-count-eq0
returns-then-count-eq0 g c =
    let read = c.in_ok-count.ensures.bytes in
    let r = c.room-most in
    let e = c.in_ok-finish.ensures in
    let o = r.ensures.exact (done-ordered _ _ _ _ e) in
    inl (rw c.if-count-eq0.true at read.0, e, λ h. read.1 c.if-count-eq0.true (omega (arith, o, c.read.auto.buf, c.requires, h, length-take r.result c.args.chunk.now)))

pub returns : goal.returns
returns g c =
    let n = c.in_ok-count in
    let r = c.room-most in
    let read = c.read.new.buf in
    inr (
      _,
      n.ensures.bytes.0,
      grind (arith, n.ensures.bound.1),
      all-fed _ _ _ _ c.in_ok-fed.fed c.in_ok-fed.ensures
          (λ o. omega (arith, r.ensures.exact o, c.read.auto.buf, length-take n.count read, length-take r.result c.args.chunk.now)),
    )
