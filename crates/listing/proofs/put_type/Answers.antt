use Rattle.std.proofs.Common.{◌∷◌, [], ◌∙◌}
use Rattle.listing.specs.Text.{dash, decimal}
use Rattle.listing.proofs.Texts.{type-shown, type-hidden}
use Rattle.listing.proofs.Stored.{spaced}
use Rattle.listing.proofs.put_type.Goals as goal

pub returns-then-kind-number : goal.returns-then-kind-number
returns-then-kind-number c = spaced c.args.out.now _ _ c.args.at _ _ (decimal c.args.type_) _ c.put_byte-place.ensures c.put_decimal.ensures (type-shown c.args.kind c.args.type_ (c.if-kind-number.true ∙ c.number.ensures))

pub returns : goal.returns
returns c = spaced c.args.out.now _ _ c.args.at _ _ (dash ∷ []) _ c.put_byte-place.ensures c.put_byte.ensures (type-hidden c.args.kind c.args.type_ (rw c.number.ensures at c.if-kind-number.false))
