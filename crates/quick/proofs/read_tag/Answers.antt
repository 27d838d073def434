use Rattle.std.proofs.Common.{refl, arith}
use Rattle.wire.specs.Token.{command}
use Rattle.quick.proofs.Quickly.{quick-long, quick-fits, quick-taken}
use Rattle.quick.proofs.read_tag.Goals as goal

pub end_tag-requires : goal.end_tag-requires
unfolding command
end_tag-requires c =
    let p = c.requires in
    record { in_bounds = omega (arith, c.if-s-lt3.false); s_value = c.if-kind-eq-END_TAG.true }

pub start_tag-requires : goal.start_tag-requires
unfolding command
start_tag-requires c =
    let p = c.requires in
    record {
      in_bounds = (omega (arith, c.if-s-lt3.false), p.s_bound);
      s_value = c.if-kind-ne-START_TAG.false;
      in_bounds_2 = omega arith;
    }

pub slice_bounds-put_rows-end : goal.slice_bounds-put_rows-end
slice_bounds-put_rows-end c = quick-long _ _ _ _ _ _ _ _ c.in_ok-taken.ensures refl

pub put_rows-requires : goal.put_rows-requires
put_rows-requires c = (quick-fits _ _ _ _ _ _ _ _ c.in_ok-taken.ensures refl, omega (arith, c.if-rows-taken.false))

pub returns : goal.returns
returns c = quick-taken _ _ _ _ _ _ _ _ c.in_ok-taken.ensures refl _ _ c.if-rows-taken.false c.put_rows.ensures
