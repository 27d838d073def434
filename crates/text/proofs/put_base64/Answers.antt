use Rattle.std.proofs.Common.{[], refl, arith}
use Rattle.text.specs.Numerals.{base64}
use Rattle.text.specs.PutLaws.{put-none}
use Rattle.text.specs.Laws.{begun_more, begun_all}
use Rattle.text.proofs.Steps.{quad-more}
use Rattle.text.proofs.put_base64.Goals as goal

pub loop-rest-init : goal.loop-rest-init
loop-rest-init c = record { so_far = []; whole = refl; there = put-none c.args.out.now c.args.at _ c.after-place.ensures }

pub loop-rest-preserved : goal.loop-rest-preserved
loop-rest-preserved c =
    let l = c.loop-rest in
    begun_more base64 c.args.s.now c.args.out.now c.args.at l.rest.now _ l.out _ _ l.place _ l.invariant (quad-more l.rest.now (omega arith)) (rw c.quad.ensures at c.put-place.ensures)

pub returns : goal.returns
returns c =
    let l = c.loop-rest in
    begun_all base64 c.args.s.now c.args.out.now c.args.at l.rest.now l.out _ l.place _ l.invariant c.put_rest.ensures
