-- `utf8::character` meets its contract: a law of `Chars` for each return.
-- Assumes nothing.
use Rattle.std.proofs.Common.{sym, ◌∙◌, arith}
use Rattle.utf8.proofs.Chars.{inside, one-octet, two-octets, three-octets, four-octets}
use Rattle.utf8.proofs.Chars.{no-first, no_second, barred-second, no_third, no-fourth, too-high}
use Rattle.utf8.proofs.character.Goals as goal

pub returns-then-x-lt128 : goal.returns-then-x-lt128
returns-then-x-lt128 c = one-octet _ _ (omega arith) c.if-x-lt128.true

pub returns-then-x-lt194 : goal.returns-then-x-lt194
returns-then-x-lt194 c = no-first c.args.s.now c.args.i (omega arith) (omega arith) c.if-x-lt194.true

pub returns-then-not-tail_at : goal.returns-then-not-tail_at
returns-then-not-tail_at c = no_second c.args.s.now c.args.i (omega arith) (omega arith) (sym c.tail_at.ensures ∙ c.if-not-tail_at.true)

pub returns-then-x-lt224 : goal.returns-then-x-lt224
returns-then-x-lt224 c = two-octets _ _ (omega arith) (omega arith) c.if-x-lt224.true (sym c.tail_at.ensures ∙ c.if-not-tail_at.false)

pub bounds-s-i-2 : goal.bounds-s-i-2
bounds-s-i-2 c = inside c.args.s.now _ (sym c.tail_at.ensures ∙ c.if-not-tail_at.false)

pub returns-then-barred : goal.returns-then-barred
returns-then-barred c = barred-second c.args.s.now c.args.i (omega arith) (omega arith) (sym c.barred.ensures ∙ c.if-barred.true)

pub returns-then-not-tail_at-2 : goal.returns-then-not-tail_at-2
returns-then-not-tail_at-2 c = no_third c.args.s.now c.args.i (omega arith) (omega arith) (omega arith) (sym c.tail_at-2.ensures ∙ c.if-not-tail_at-2.true)

pub returns-then-x-lt240 : goal.returns-then-x-lt240
returns-then-x-lt240 c =
    three-octets _ _ (omega arith) (omega arith) (omega arith) (sym c.tail_at.ensures ∙ c.if-not-tail_at.false)
    (sym c.barred.ensures ∙ c.if-barred.false) (omega arith) c.if-x-lt240.true
    (sym c.tail_at-2.ensures ∙ c.if-not-tail_at-2.false)

pub returns-then-x-ge245 : goal.returns-then-x-ge245
returns-then-x-ge245 c = too-high c.args.s.now c.args.i (omega arith) (omega arith) c.if-x-ge245.true

pub returns-then-not-tail_at-3 : goal.returns-then-not-tail_at-3
returns-then-not-tail_at-3 c = no-fourth c.args.s.now c.args.i (omega arith) (omega arith) (omega arith) (sym c.tail_at-3.ensures ∙ c.if-not-tail_at-3.true)

pub returns : goal.returns
returns c =
    four-octets _ _ (omega arith) (omega arith) (omega arith) (sym c.tail_at.ensures ∙ c.if-not-tail_at.false)
    (sym c.barred.ensures ∙ c.if-barred.false) (omega arith)
    (sym c.tail_at-2.ensures ∙ c.if-not-tail_at-2.false)
    (sym c.tail_at-3.ensures ∙ c.if-not-tail_at-3.false)
