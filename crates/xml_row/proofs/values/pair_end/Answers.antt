use Rattle.std.proofs.Common.{arith, ◌++◌}
use Rattle.std.proofs.lemmas.Grind.{common_steps}
use Rattle.wire.specs.Header.{be32}
use Rattle.text.specs.Laws.{hex-length}
use Rattle.xml_spec.specs.Xml.{value_xml}
use Rattle.xml_row.proofs.values.pair_end.Goals as goal

pub returns-in_default : goal.returns-in_default
unfolding value_xml be32
returns-in_default c = let n = hex-length (be32 c.args.a ++ be32 c.args.b) in grind (arith, common_steps, n)
