-- `utf8::walk` meets its contract: character after character.
use Rattle.utf8.proofs.Chars.{reaches, halts}
use Rattle.utf8.proofs.walk.Goals as goal

pub returns-in_err-k : goal.returns-in_err-k
returns-in_err-k c = rw c.from_residual.ensures (halts c.args.s.now c.loop-k.k c.loop-k.invariant.1 c.in_err-k.ensures)

pub loop-k-preserved : goal.loop-k-preserved
loop-k-preserved c =
    let n = c.in_ok-k.ensures in
    (n.inside, reaches _ _ c.loop-k.invariant.1 _ n)
