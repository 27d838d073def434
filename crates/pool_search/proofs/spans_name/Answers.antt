use Rattle.std.proofs.Common.{◌≡◌, sym, ap, ◌∙◌, length, take, drop, length-drop, length-take-le, ne_eqb, arith}
use Rattle.std.proofs.Math.Nat.{add-sub_cancel_left}
use Rattle.names.specs.Laws.{same_not}
use Rattle.pool_search.proofs.spans_name.Goals as goal

pub returns-else-len-name : goal.returns-else-len-name
returns-else-len-name c =
    let a = c.args in
    let long : length (take a.len (drop a.start a.output.now)) ≡ a.len = length-take-le a.len (drop a.start a.output.now) (omega (arith, length-drop a.start a.output.now)) in
    rw (ne_eqb _ _ c.if-len-name.false) (sym (same_not _ _ (λ e. c.if-len-name.false (sym long ∙ ap length e))))
