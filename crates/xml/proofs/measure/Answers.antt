use Rattle.std.proofs.Common.{refl, sym, ap, ◌∙◌, arith}
use Rattle.xml_spec.specs.Rows.{rows_refusal}
use Rattle.xml.proofs.Laws.{no-rows}
use Rattle.xml.proofs.Turns.{rows-split, refused-on}
use Rattle.xml.proofs.measure.Goals as goal

pub returns-in_err-tally : goal.returns-in_err-tally
returns-in_err-tally c =
    let p = c.in-Some.ensures.cases in
    let f = c.args.first.now in
    let s = c.args.second.now in
    let t = c.loop-row.tally in
    let same = rows-split f s c.loop-row.rest.now _ _ (omega arith) p.0 p.1 in
    refused-on _ c.in_err-tally.field-0.0 _ c.from_residual.ensures.1
    (sym (c.in_err-tally.ensures _ (c.ends.ensures f s)) ∙ sym (ap (rows_refusal c.args.room t.at t.legal) same) ∙ c.loop-row.invariant.left)

pub loop-row-preserved : goal.loop-row-preserved
loop-row-preserved c =
    let p = c.in-Some.ensures.cases in
    let f = c.args.first.now in
    let s = c.args.second.now in
    let t = c.loop-row.tally in
    let same = rows-split f s c.loop-row.rest.now _ _ (omega arith) p.0 p.1 in
    record {
      whole = omega (arith, c.loop-row.invariant.whole);
      left = sym (c.in_ok-tally.ensures _ (c.ends.ensures f s)) ∙ sym (ap (rows_refusal c.args.room t.at t.legal) same) ∙ c.loop-row.invariant.left;
    }

pub returns : goal.returns
unfolding rows_refusal
returns c = rw (no-rows c.args.first.now c.args.second.now c.loop-row.rest.now c.in_default.ensures.cases) at c.loop-row.invariant.left
