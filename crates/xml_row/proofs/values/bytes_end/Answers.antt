use Rattle.std.proofs.Common.{sym, ap, ◌∙◌}
use Rattle.wire.specs.Commands.{type_number}
use Rattle.text.specs.Laws.{hex-length, base64-length}
use Rattle.xml_spec.specs.Xml.{value_xml}
use Rattle.xml_row.proofs.Laws.{after_two, twice}
use Rattle.xml_row.proofs.values.bytes_end.Goals as goal

pub returns-in-BytesHex : goal.returns-in-BytesHex
unfolding value_xml
returns-in-BytesHex c = rw (sym c.from.ensures.0 ∙ ap type_number c.in-BytesHex.is, hex-length c.args.s.now, ← twice _) (after_two _ _ _ _ _ _ c.after.ensures c.after-in-BytesHex.ensures)

pub returns-in-BytesBase64 : goal.returns-in-BytesBase64
unfolding value_xml
returns-in-BytesBase64 c = rw (sym c.from.ensures.0 ∙ ap type_number c.in-BytesBase64.is, base64-length c.args.s.now) c.base64_end.ensures
