use Rattle.std.proofs.Common.{arith}
use Rattle.listing.proofs.Texts.{shown-short, columns-length}
use Rattle.listing.specs.Columns.{shown}
use Rattle.listing.proofs.columns_len.Goals as goal

pub overflow_add-result : goal.overflow_add-result
overflow_add-result c = omega (arith, c.decimal_len-kinds.ensures.1, c.field_len-names.ensures, shown-short c.args.name c.requires.0)

pub overflow_add-result-2 : goal.overflow_add-result-2
overflow_add-result-2 c = omega (arith, c.decimal_len-kinds.ensures.1, c.type_len-types.ensures.1, c.field_len-names.ensures, shown-short c.args.name c.requires.0)

pub overflow_add-result-3 : goal.overflow_add-result-3
overflow_add-result-3 c = omega (arith, c.decimal_len-kinds.ensures.1, c.type_len-types.ensures.1, c.field_len-names.ensures, c.field_len-values.ensures, shown-short c.args.name c.requires.0, shown-short c.args.value c.requires.1)

pub overflow_add-result-4 : goal.overflow_add-result-4
overflow_add-result-4 c = omega (arith, c.decimal_len-kinds.ensures.1, c.type_len-types.ensures.1, c.field_len-names.ensures, c.field_len-values.ensures, shown-short c.args.name c.requires.0, shown-short c.args.value c.requires.1)

pub returns : goal.returns
returns c = omega (arith, c.decimal_len-kinds.ensures.0, c.field_len-names.ensures, c.type_len-types.ensures.0, c.field_len-values.ensures, columns-length c.args.kind c.args.type_ (shown c.args.name) (shown c.args.value))
