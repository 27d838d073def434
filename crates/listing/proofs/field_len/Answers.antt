use Rattle.std.proofs.Common.{sym, ap, ◌∙◌, length}
use Rattle.text.specs.Laws.{hex-length}
use Rattle.listing.proofs.Texts.{shown-none, shown-empty, shown-hex}
use Rattle.listing.proofs.field_len.Goals as goal

pub returns-in-None : goal.returns-in-None
returns-in-None c = sym (ap length (shown-none _ c.in-None.is))

pub returns-then-is_empty : goal.returns-then-is_empty
returns-then-is_empty c = sym (ap length (shown-empty _ _ c.in-Some.is c.if-is_empty.ensures))

pub returns-else-is_empty : goal.returns-else-is_empty
returns-else-is_empty c = sym (ap length (shown-hex _ _ c.in-Some.is c.if-is_empty.ensures) ∙ hex-length _)
