use Rattle.listing.proofs.Stored.{columns-put}
use Rattle.listing.proofs.put_columns.Goals as goal

pub returns : goal.returns
returns c = columns-put _ _ _ _ _ _ _ _ _ _ _ _ _ _ _ c.put_decimal-after_kind.ensures c.put_field-after_name.ensures c.put_type-after_type.ensures c.put_field-after_value.ensures c.put_byte.ensures
