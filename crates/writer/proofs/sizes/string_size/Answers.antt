use native.Mathlib.Omega.{arith}
use borrow.Author.Tests.{eq-eqb, ne_eqb}
use Rattle.event.specs.Span.{span}
use Rattle.writer.proofs.Values.{string-none}
use Rattle.writer.proofs.sizes.string_size.Goals as goal

pub returns-then-w-eq0 : goal.returns-then-w-eq0
unfolding span
returns-then-w-eq0 c = rw (eq-eqb _ _ c.if-w-eq0.true) c.part_size.ensures

pub returns-then-w-eq1 : goal.returns-then-w-eq1
unfolding span
returns-then-w-eq1 c = rw (ne_eqb _ _ c.if-w-eq0.false, eq-eqb _ _ c.if-w-eq1.true) c.part_size-then-w-eq1.ensures

pub returns : goal.returns
unfolding span
returns c = rw (ne_eqb _ _ c.if-w-eq0.false, ne_eqb _ _ c.if-w-eq1.false) string-none
