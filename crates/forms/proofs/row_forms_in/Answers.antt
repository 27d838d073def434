use Rattle.std.proofs.Common.{◌∙◌, arith}
use Rattle.std.proofs.Math.Bool.{and_assoc}
use Rattle.forms.proofs.ByKind.{document-forms, tag-forms, text-forms}
use Rattle.forms.proofs.Rows.{zeros_of_part}
use Rattle.forms.proofs.row_forms_in.Goals as goal

pub returns-in-0 : goal.returns-in-0
returns-in-0 c =
    let a = c.args in
    c.unused.ensures ∙ zeros_of_part a.row.now 1 7 (omega arith) ∙ document-forms a.stores.first.now a.stores.second.now a.inside a.row.now (omega arith)

pub returns-in-2 : goal.returns-in-2
returns-in-2 c =
    let a = c.args in
    rw (c.span_in.ensures, c.of_name-in-2.ensures.source, c.of_name-in-2.ensures.start, c.of_name-in-2.ensures.len, c.unused-in-2.ensures, zeros_of_part a.row.now 4 4 (omega arith))
    (tag-forms a.stores.first.now a.stores.second.now a.inside a.row.now (omega arith) (omega arith))

pub returns-in-4-to-10 : goal.returns-in-4-to-10
returns-in-4-to-10 c =
    let a = c.args in
    rw (
      and_assoc,
      c.span_in-valued-in-4-to-10.ensures,
      c.of_value-in-4-to-10.ensures.source,
      c.of_value-in-4-to-10.ensures.start,
      c.of_value-in-4-to-10.ensures.len,
      c.unused-in-4-to-10.ensures,
      zeros_of_part a.row.now 1 3 (omega arith),
    )
    (text-forms a.stores.first.now a.stores.second.now a.inside a.row.now (omega arith) (omega arith))
