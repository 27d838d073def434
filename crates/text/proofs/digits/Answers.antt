use native.Mathlib.Omega.{arith}
use mathlib.Core.List.{append-nil}
use mathlib.Core.Path.{refl, ◌∙◌}
use Prim.Native.Nat.{◌%◌, ◌<◌}
use native.Mathlib.Nat.{mod-lt, div-lt_self}
use lib.ListN.{length-set}
use Rattle.text.specs.Numerals.{numeral}
use Rattle.text.proofs.Steps.{room, digit-more, digits-all}
use Rattle.text.proofs.digits.Goals as goal

pub loop-left-init : goal.loop-left-init
loop-left-init g c = record { size = refl; inside = omega arith; few = omega arith; whole = append-nil (numeral g.row.BASE c.args.n) }

pub overflow_cast-left : goal.overflow_cast-left
overflow_cast-left g c = let l : c.loop-left.left % g.row.BASE < g.row.BASE = mod-lt c.loop-left.left (omega arith) in omega arith

pub digit-requires : goal.digit-requires
digit-requires g c = let l : c.loop-left.left % g.row.BASE < g.row.BASE = mod-lt c.loop-left.left (omega arith) in omega arith

pub overflow_sub-start : goal.overflow_sub-start
overflow_sub-start g c = room c.loop-left.start c.loop-left.left (omega arith) c.loop-left.invariant.few

pub loop-left-smaller : goal.loop-left-smaller
loop-left-smaller g c = div-lt_self (omega arith) (omega arith)

pub loop-left-preserved : goal.loop-left-preserved
loop-left-preserved g c = digit-more g.row.BASE c.args.n c.loop-left.left c.loop-left.start _ c.loop-left.bytes (omega arith) c.loop-left-test.true c.digit.ensures c.loop-left.invariant

pub returns : goal.returns
returns g c = (digits-all g.row.BASE c.args.n c.loop-left.left c.loop-left.start _ c.loop-left.bytes (omega arith) c.digit-2.ensures c.loop-left.invariant, c.loop-left.invariant.inside, length-set c.loop-left.bytes c.loop-left.start _ ∙ c.loop-left.invariant.size)
