use Rattle.std.proofs.Common.{sym, ap, ◌∙◌, arith, length-append}
use Rattle.wire.proofs.Arms.{documents, others}
use Rattle.wire.specs.Commands.{command_number}
use Rattle.event.specs.Row.{has_name}
use Rattle.xml_row.proofs.Laws.{row-none, row-attribute, row-text, start-length, end-length, after_two}
use Rattle.xml_row.proofs.end.Goals as goal

pub returns-in-StartDocument : goal.returns-in-StartDocument
returns-in-StartDocument c =
    let k = documents _ c.in-StartDocument.is in
    let n = c.from.ensures.0 in
    rw (row-none c.args.first.now c.args.second.now c.args.w.now _ (omega arith)) c.after.ensures

pub returns-in-StartTag : goal.returns-in-StartTag
returns-in-StartTag c = rw (start-length c.args.first.now c.args.second.now c.args.w.now _ (sym c.from.ensures.0 ∙ ap command_number c.in-StartTag.is), ← c.name_in.ensures) (after_two _ _ _ _ _ _ (after_two _ _ _ _ _ _ c.after-name.ensures c.after-in-StartTag.ensures) c.closing_end.ensures)

pub returns-in-EndTag : goal.returns-in-EndTag
returns-in-EndTag c = rw (end-length c.args.first.now c.args.second.now c.args.w.now _ (sym c.from.ensures.0 ∙ ap command_number c.in-EndTag.is), ← c.name_in-in-EndTag.ensures) (after_two _ _ _ _ _ _ c.after-name-in-EndTag.ensures c.after-in-EndTag.ensures)

pub attribute_end-attribute-requires : goal.attribute_end-attribute-requires
unfolding has_name
attribute_end-attribute-requires c = rw (sym c.from.ensures.0 ∙ ap command_number c.in-Attribute.is)

pub returns-in-Attribute : goal.returns-in-Attribute
returns-in-Attribute c = rw (row-attribute c.args.first.now c.args.second.now c.args.w.now _ (sym c.from.ensures.0 ∙ ap command_number c.in-Attribute.is), length-append _ _) (after_two _ _ _ _ _ _ c.attribute_end-attribute.ensures c.closing_end-in-Attribute.ensures)

pub returns-in_default : goal.returns-in_default
returns-in_default c =
    let d = c.in_default in
    let o = others _ _ c.from.ensures.1 d.not-StartDocument d.not-EndDocument d.not-StartTag d.not-EndTag d.not-Attribute in
    rw (row-text c.args.first.now c.args.second.now c.args.w.now _ o.0 o.1, ← c.text_in.ensures) c.text_end.ensures
