-- `xml_chars::fault` meets its contract: by those of the functions that it calls, of the part from 0 on.
use mathlib.Core.Bool.{true, false}
use mathlib.Core.Path.{sym, ◌∙◌}
use borrow.Author.Tests.{not-true, not-false}
use Rattle.xml_chars.proofs.Plain.{whole, not-utf8, by-places, all_printable}
use Rattle.xml_chars.proofs.fault.Goals as goal

pub returns-then-all_pass_test-clause-fault : goal.returns-then-all_pass_test-clause-fault
returns-then-all_pass_test-clause-fault c = sym (all_printable c.args.s.now c.if-all_pass_test.ensures)

pub returns-then-not-is_utf8-clause-fault : goal.returns-then-not-is_utf8-clause-fault
returns-then-not-is_utf8-clause-fault c =
    let s = c.args.s.now in
    let utf8 = rw (whole s) at c.is_utf8.ensures in
    sym (not-utf8 s (sym utf8 ∙ c.if-not-is_utf8.true))

pub returns-then-has_illegal-clause-fault : goal.returns-then-has_illegal-clause-fault
returns-then-has_illegal-clause-fault c =
    let s = c.args.s.now in
    let utf8 = rw (whole s) at c.is_utf8.ensures in
    let illegal = rw (whole s) at c.has_illegal.ensures in
    sym (by-places s false (sym utf8 ∙ c.if-not-is_utf8.false) (not-true _ (sym illegal ∙ c.if-has_illegal.true)))

pub returns-clause-fault : goal.returns-clause-fault
returns-clause-fault c =
    let s = c.args.s.now in
    let utf8 = rw (whole s) at c.is_utf8.ensures in
    let illegal = rw (whole s) at c.has_illegal.ensures in
    sym (by-places s true (sym utf8 ∙ c.if-not-is_utf8.false) (not-false _ (sym illegal ∙ c.if-has_illegal.false)))
