use Rattle.std.proofs.Common.{sym, ◌∙◌}
use Rattle.xml.proofs.Laws.{turn-broken, turn-more, turn-last, end-says, err-says}
use Rattle.xml.proofs.measure_row.Goals as goal

pub returns-in_err-legal : goal.returns-in_err-legal
returns-in_err-legal c rs e =
    let said = c.in_err-legal.ensures in
    err-says _ _ _ _ _ _ c.from_residual.ensures.1 (turn-broken _ _ _ _ _ said.0 ∙ sym said.1)

pub returns-then-last : goal.returns-then-last
returns-then-last c rs e =
    let said = c.in_ok-legal.ensures in
    end-says _ _ _ _ _ _ c.end_event.ensures (turn-last _ _ _ _ _ _ _ _ said.0 said.1 e c.end.ensures c.if-last.true)

pub returns : goal.returns
returns c rs e =
    let said = c.in_ok-legal.ensures in
    turn-more _ _ _ _ _ _ _ _ said.0 said.1 e c.end.ensures c.if-last.false
