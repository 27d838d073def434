use Rattle.std.proofs.Common.{refl, ◌∙◌, arith}
use Rattle.xml_spec.specs.Rows.{rows_xml}
use Rattle.xml.proofs.Laws.{no-rows}
use Rattle.xml.proofs.Turns.{put-turn, put-done, put-length, put-within}
use Rattle.xml.proofs.put_rows.Goals as goal

pub loop-row-preserved : goal.loop-row-preserved
loop-row-preserved c =
    let p = c.in-Some.ensures.cases in
    let f = c.args.first.now in
    let s = c.args.second.now in
    let l = c.loop-row in
    let n = put-length _ _ _ _ _ c.put-at.ensures in
    let turn = put-turn f s l.rest.now _ _ _ _ _ _ _ (omega arith) p.0 p.1 (c.ends.ensures f s) c.put-at.ensures in
    record {
      whole = omega (arith, l.invariant.whole);
      within = rw n (put-within _ _ _ _ _ c.put-at.ensures);
      long = n ∙ l.invariant.long;
      left = λ o e q. l.invariant.left o e (turn o e q);
    }

pub returns : goal.returns
unfolding rows_xml
returns c =
    let l = c.loop-row in
    l.invariant.left _ _ (rw (no-rows c.args.first.now c.args.second.now l.rest.now c.in_default.ensures.cases) (put-done l.out l.at l.invariant.within))
