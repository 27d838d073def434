use borrow.Author.Tests.{lt-ltb, le-ltb, eq-eqb, ne_eqb}
use Rattle.text.specs.Numerals.{letter}
use Rattle.text.proofs.letter.Goals as goal

pub returns-then-d-lt26 : goal.returns-then-d-lt26
unfolding letter
returns-then-d-lt26 c = rw (lt-ltb _ _ c.if-d-lt26.true)

pub returns-then-d-lt52 : goal.returns-then-d-lt52
unfolding letter
returns-then-d-lt52 c = rw (le-ltb _ _ c.if-d-lt26.false, lt-ltb _ _ c.if-d-lt52.true)

pub returns-then-d-lt62 : goal.returns-then-d-lt62
unfolding letter
returns-then-d-lt62 c = rw (le-ltb _ _ c.if-d-lt26.false, le-ltb _ _ c.if-d-lt52.false, lt-ltb _ _ c.if-d-lt62.true)

pub returns-then-d-eq62 : goal.returns-then-d-eq62
unfolding letter
returns-then-d-eq62 c = rw (le-ltb _ _ c.if-d-lt26.false, le-ltb _ _ c.if-d-lt52.false, le-ltb _ _ c.if-d-lt62.false, eq-eqb _ _ c.if-d-eq62.true)

pub returns-else-d-eq62 : goal.returns-else-d-eq62
unfolding letter
returns-else-d-eq62 c = rw (le-ltb _ _ c.if-d-lt26.false, le-ltb _ _ c.if-d-lt52.false, le-ltb _ _ c.if-d-lt62.false, ne_eqb _ _ c.if-d-eq62.false)
