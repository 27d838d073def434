use Rattle.std.proofs.Common.{arith}
use Rattle.std.proofs.lemmas.Grind.{common_steps}
use Rattle.wire.specs.Header.{be32}
use Rattle.text.specs.Laws.{hex-append}
use Rattle.text.specs.PutLaws.{put_both}
use Rattle.xml_spec.specs.Xml.{value_xml}
use Rattle.xml_row.proofs.values.put_pair.Goals as goal

pub returns-in_default : goal.returns-in_default
unfolding value_xml
returns-in_default c =
    let both = put_both _ _ _ _ _ _ _ _ c.put_hex-half.ensures c.put_hex.ensures in
    let h = hex-append (be32 c.args.a) (be32 c.args.b) in
    grind (arith, common_steps, both, h)
