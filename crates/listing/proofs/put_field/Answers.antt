use Rattle.std.proofs.Common.{[], ◌∷◌}
use Rattle.listing.specs.Text.{dash, equals}
use Rattle.listing.proofs.Texts.{shown-none, shown-empty, shown-hex}
use Rattle.listing.proofs.Stored.{spaced}
use Rattle.listing.proofs.put_field.Goals as goal

pub returns-in-None : goal.returns-in-None
returns-in-None c = spaced c.args.out.now _ _ c.args.at _ _ (dash ∷ []) _ c.put_byte-place.ensures c.put_byte.ensures (shown-none _ c.in-None.is)

pub returns-then-is_empty : goal.returns-then-is_empty
returns-then-is_empty c = spaced c.args.out.now _ _ c.args.at _ _ (equals ∷ []) _ c.put_byte-place.ensures c.put_byte-then-is_empty.ensures (shown-empty _ _ c.in-Some.is c.if-is_empty.ensures)

pub returns-else-is_empty : goal.returns-else-is_empty
returns-else-is_empty c = spaced c.args.out.now _ _ c.args.at _ _ _ _ c.put_byte-place.ensures c.put_hex.ensures (shown-hex _ _ c.in-Some.is c.if-is_empty.ensures)
