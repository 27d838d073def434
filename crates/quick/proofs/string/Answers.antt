use Rattle.std.proofs.Common.{sym, ◌∙◌}
use Rattle.quick.proofs.Flats.{string-flat}
use Rattle.quick.proofs.string.Goals as goal

pub returns : goal.returns
returns c =
    let a = c.args in
    let e = c.in_ok-len.ensures in
    string-flat a.s.now a.at a.base c.in_ok-len.len e.0 e.1.0 (sym c.is_utf8_part.ensures ∙ c.if-not-is_utf8_part.false)
