use Rattle.std.proofs.Common.{ℕ, ◌<◌, rules, arith, get_or}
use Rattle.event.specs.Laws.{span-short}
use Rattle.writer.proofs.sizes.value_in.Goals as goal

pub returns-clause-short : goal.returns-clause-short
returns-clause-short c =
    let a = c.args in
    let b : get_or a.w.now 7 0 < 4294967296 = search rules in
    rw c.span.ensures.bytes (omega (arith, span-short a.first.now a.second.now (get_or a.w.now 5 0) (get_or a.w.now 6 0) (get_or a.w.now 7 0), b))
