-- `xml_escape::put_escaped` meets its contract: by those of the functions that it calls, of the part from 0 on.
use Rattle.xml_escape.proofs.Turns.{whole, plain-all}
use Rattle.xml_escape.proofs.put_escaped.Goals as goal

pub returns-then-all_pass_test : goal.returns-then-all_pass_test
returns-then-all_pass_test c =
    let s = c.args.s.now in
    let b = rw (whole s) at c.if-all_pass_test.ensures in
    rw (plain-all s b) (rw (whole s) at c.put.ensures)

pub returns : goal.returns
returns c = rw (whole c.args.s.now) at c.put_mixed.ensures
