use Rattle.std.proofs.Common.{sym, ◌∙◌, lt-ltb, le-ltb}
use Rattle.xml_spec.specs.ToXml.{refusal, unless, to_xml}
use Rattle.xml.proofs.Calls.{handed-on, whole-rows, list-refused, list-printed}
use Rattle.xml.proofs.to_xml.Goals as goal

pub returns-then-output-gt-MAX_STORE : goal.returns-then-output-gt-MAX_STORE
unfolding to_xml refusal unless
returns-then-output-gt-MAX_STORE c = rw (lt-ltb _ _ c.if-output-gt-MAX_STORE.true)

pub returns-then-not-list_forms : goal.returns-then-not-list_forms
unfolding to_xml refusal unless
returns-then-not-list_forms c = rw (le-ltb _ _ c.if-output-gt-MAX_STORE.false, sym c.list_forms.ensures ∙ c.if-not-list_forms.true)

pub measure-requires : goal.measure-requires
measure-requires c = (whole-rows c.args.first.now c.args.second.now c.args.rows.now (sym c.list_forms.ensures ∙ c.if-not-list_forms.false), c.if-output-gt-MAX_STORE.false)

pub returns-in_err-measure : goal.returns-in_err-measure
returns-in_err-measure c =
    handed-on _ _ c.in_err-measure.field-0.0 _ c.from_residual.ensures.1
    (list-refused c.args.first.now c.args.second.now c.args.rows.now c.args.output.now (sym c.list_forms.ensures ∙ c.if-not-list_forms.false) c.if-output-gt-MAX_STORE.false c.in_err-measure.field-0.0 c.in_err-measure.ensures)

pub put_rows-requires : goal.put_rows-requires
put_rows-requires c = whole-rows c.args.first.now c.args.second.now c.args.rows.now (sym c.list_forms.ensures ∙ c.if-not-list_forms.false)

pub returns : goal.returns
returns c = list-printed c.args.first.now c.args.second.now c.args.rows.now c.args.output.now (sym c.list_forms.ensures ∙ c.if-not-list_forms.false) c.if-output-gt-MAX_STORE.false _ _ c.in_ok-measure.ensures c.put_rows.ensures.text c.put_rows.ensures.place
