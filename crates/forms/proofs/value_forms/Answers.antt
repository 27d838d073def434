use Rattle.std.proofs.Common.{◌∙◌, get_or, arith}
use Rattle.forms.proofs.Rows.{zeros_of_part}
use Rattle.forms.proofs.Shapes.{by-type}
use Rattle.forms.proofs.value_forms.Goals as goal

pub returns : goal.returns
returns c =
    let w = c.args.row.now in
    c.choose.ensures
    ∙ rw (
      c.is_one_of-4.ensures,
      c.choose-pair.ensures,
      c.unused-3.ensures,
      c.is_one_of-3.ensures,
      c.choose-word.ensures,
      c.unused-2.ensures,
      c.is_one_of-2.ensures,
      c.choose-none.ensures,
      c.unused.ensures,
      c.is_one_of.ensures,
      zeros_of_part w 5 3 (omega arith),
      zeros_of_part w 5 2 (omega arith),
      zeros_of_part w 5 1 (omega arith),
    )
    (by-type c.args.valued w (get_or w 4 0))
