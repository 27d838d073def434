use native.Mathlib.Omega.{arith}
use mathlib.Core.Path.{sym}
use lib.ListN.{length-take}
use lib.Seq.{length-take-le}
use Rattle.text.proofs.Steps.{hex-none, hex-cut, hex-done}
use Rattle.text.proofs.put_hex.Goals as goal

pub returns-then-out-at : goal.returns-then-out-at
returns-then-out-at c = hex-none c.args.out.now c.args.s.now c.args.at c.if-out-at.true

pub slice_bounds-put_pairs-end : goal.slice_bounds-put_pairs-end
slice_bounds-put_pairs-end c = sym (length-take-le c.min-n.result c.args.s.now (omega (arith, c.min-n.ensures)))

pub put_pairs-requires : goal.put_pairs-requires
put_pairs-requires c = omega (arith, length-take c.min-n.result c.args.s.now, c.min-n.ensures)

pub digit-requires : goal.digit-requires
digit-requires c = omega (arith, c.type_inv.s c.min-n.result)

pub returns-then-n-s : goal.returns-then-n-s
returns-then-n-s c = hex-cut c.args.out.now _ _ c.args.s.now c.args.at c.min-n.result _ _ c.if-n-s.true (omega (arith, c.if-out-at.false, c.min-n.ensures)) (omega (arith, c.if-out-at.false, c.min-n.ensures)) c.put_pairs.ensures c.digit.ensures c.put_byte.ensures

pub returns : goal.returns
returns c = hex-done c.args.out.now _ c.args.s.now c.args.at c.min-n.result (omega (arith, c.min-n.ensures)) (omega (arith, c.if-out-at.false, c.min-n.ensures)) c.put_pairs.ensures
