use Rattle.std.proofs.Common.{sym, ap, ◌∙◌, arith}
use Rattle.wire.proofs.Arms.{documents, others}
use Rattle.wire.specs.Commands.{command_number}
use Rattle.event.specs.Row.{has_name}
use Rattle.text.specs.PutLaws.{put-none, put_both}
use Rattle.xml_row.proofs.Laws.{row-none, row-start, row-end, row-attribute, row-text}
use Rattle.xml_row.proofs.put.Goals as goal

pub returns-in-StartDocument : goal.returns-in-StartDocument
returns-in-StartDocument c =
    let k = documents _ c.in-StartDocument.is in
    let n = c.from.ensures.0 in
    rw (row-none c.args.first.now c.args.second.now c.args.w.now _ (omega arith)) (put-none _ _ _ c.after.ensures)

pub returns-in-StartTag : goal.returns-in-StartTag
returns-in-StartTag c = rw (row-start c.args.first.now c.args.second.now c.args.w.now _ (sym c.from.ensures.0 ∙ ap command_number c.in-StartTag.is), ← c.name_in.ensures) (put_both _ _ _ _ _ _ _ _ (put_both _ _ _ _ _ _ _ _ c.put_byte-start.ensures c.put-end.ensures) c.put_closing.ensures)

pub returns-in-EndTag : goal.returns-in-EndTag
returns-in-EndTag c = rw (row-end c.args.first.now c.args.second.now c.args.w.now _ (sym c.from.ensures.0 ∙ ap command_number c.in-EndTag.is), ← c.name_in-in-EndTag.ensures) (put_both _ _ _ _ _ _ _ _ (put_both _ _ _ _ _ _ _ _ c.put_two-start.ensures c.put-end-in-EndTag.ensures) c.put_byte.ensures)

pub put_attribute-end-requires : goal.put_attribute-end-requires
unfolding has_name
put_attribute-end-requires c = rw (sym c.from.ensures.0 ∙ ap command_number c.in-Attribute.is)

pub returns-in-Attribute : goal.returns-in-Attribute
returns-in-Attribute c = rw (row-attribute c.args.first.now c.args.second.now c.args.w.now _ (sym c.from.ensures.0 ∙ ap command_number c.in-Attribute.is)) (put_both _ _ _ _ _ _ _ _ c.put_attribute-end.ensures c.put_closing-in-Attribute.ensures)

pub returns-in_default : goal.returns-in_default
returns-in_default c =
    let d = c.in_default in
    let o = others _ _ c.from.ensures.1 d.not-StartDocument d.not-EndDocument d.not-StartTag d.not-EndTag d.not-Attribute in
    rw (row-text c.args.first.now c.args.second.now c.args.w.now _ o.0 o.1, ← c.text_in.ensures) c.put_text.ensures
