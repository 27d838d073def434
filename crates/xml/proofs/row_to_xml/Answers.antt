use Rattle.std.proofs.Common.{sym, ◌∙◌, arith, lt-ltb, le-ltb}
use Rattle.xml_spec.specs.ToXml.{unless}
use Rattle.xml_spec.specs.Rows.{row_refusal, row_to_xml}
use Rattle.xml.proofs.Calls.{row-there, row-alone-is}
use Rattle.xml.proofs.row_to_xml.Goals as goal

pub returns-then-output-gt-MAX_STORE : goal.returns-then-output-gt-MAX_STORE
unfolding row_to_xml row_refusal unless
returns-then-output-gt-MAX_STORE c = rw (lt-ltb _ _ c.if-output-gt-MAX_STORE.true)

pub returns-then-not-row_forms_at : goal.returns-then-not-row_forms_at
unfolding row_to_xml row_refusal unless
returns-then-not-row_forms_at c = rw (le-ltb _ _ c.if-output-gt-MAX_STORE.false, sym c.row_forms_at.ensures ∙ c.if-not-row_forms_at.true)

pub overflow_mul-row : goal.overflow_mul-row
overflow_mul-row c = omega (arith, row-there c.args.first.now c.args.second.now c.args.rows.now c.args.row (sym c.row_forms_at.ensures ∙ c.if-not-row_forms_at.false), c.well_formed)

pub split_at-requires : goal.split_at-requires
split_at-requires c = omega (arith, row-there c.args.first.now c.args.second.now c.args.rows.now c.args.row (sym c.row_forms_at.ensures ∙ c.if-not-row_forms_at.false))

pub unwrap-requires : goal.unwrap-requires
unwrap-requires c =
    c.split_first_chunk.ensures.variant.1
    (omega (arith, row-there c.args.first.now c.args.second.now c.args.rows.now c.args.row (sym c.row_forms_at.ensures ∙ c.if-not-row_forms_at.false), c.split_at.ensures.back_len))

pub returns : goal.returns
returns c =
    let f = c.args.first.now in
    let s = c.args.second.now in
    let p = rw c.unwrap.ensures at c.split_first_chunk.ensures.cases in
    c.print_row.ensures
    ∙ row-alone-is f s c.args.rows.now c.args.row c.args.output.now _ _ _ (sym c.row_forms_at.ensures ∙ c.if-not-row_forms_at.false) c.if-output-gt-MAX_STORE.false
    (rw c.split_at.ensures.back at p.0) (rw c.split_at.ensures.back at p.1) (c.ends.ensures f s)
