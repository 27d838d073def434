-- `xml_chars::has_illegal` meets its contract: place after place at the end.
use Rattle.std.proofs.Common.{not, sym, ◌∙◌, ap, arith}
use Rattle.xml_chars.proofs.Places.{passes, stops, ends}
use Rattle.xml_chars.proofs.has_illegal.Goals as goal

pub returns-then-illegal_at : goal.returns-then-illegal_at
returns-then-illegal_at c =
    let l = c.loop-k in
    sym (ap not (l.invariant ∙ stops c.args.s.now l.k (omega arith) (sym c.illegal_at.ensures ∙ c.if-illegal_at.true)))

pub loop-k-preserved : goal.loop-k-preserved
loop-k-preserved c = let l = c.loop-k in l.invariant ∙ passes c.args.s.now l.k (omega arith) (sym c.illegal_at.ensures ∙ c.if-illegal_at.false)

pub returns : goal.returns
returns c = sym (ap not (c.loop-k.invariant ∙ ends c.args.s.now c.loop-k.k (omega arith)))
