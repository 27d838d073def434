use Rattle.std.proofs.Common.{arith, get_or}
use Rattle.event.specs.Laws.{span-short}
use Rattle.listing.specs.Text.{field}
use Rattle.listing.proofs.name_of.Goals as goal

pub returns-then-has_name-clause-short : goal.returns-then-has_name-clause-short
returns-then-has_name-clause-short c =
    let w = c.args.w.now in
    rw c.span.ensures.bytes (omega (arith, span-short c.args.first.now c.args.second.now (get_or w 1 0) (get_or w 2 0) (get_or w 3 0), c.fits-w 3))

pub returns-clause-shown : goal.returns-clause-shown
unfolding field
returns-clause-shown c = rw (← c.has_name.ensures, c.if-has_name.false)
