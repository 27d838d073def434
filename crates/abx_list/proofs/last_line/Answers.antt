use Rattle.std.proofs.Common.{refl, Ok}
use Rattle.listing.specs.Laws.{lined-within}
use Rattle.abx_list.proofs.last_line.Goals as goal

pub returns-in_ok-end_line-in-Ok : goal.returns-in_ok-end_line-in-Ok
returns-in_ok-end_line-in-Ok c = lined-within _ c.args.out.now _ (Ok c.in_ok-end_line-in-Ok.field-0) _ c.in_ok-end_line-in-Ok.ensures refl

pub returns-in_ok-refused_line-in-Err-Refused : goal.returns-in_ok-refused_line-in-Err-Refused
returns-in_ok-refused_line-in-Err-Refused c =
    lined-within _ c.args.out.now _ (Ok c.in_ok-refused_line-in-Err-Refused.field-0) _ c.in_ok-refused_line-in-Err-Refused.ensures refl
