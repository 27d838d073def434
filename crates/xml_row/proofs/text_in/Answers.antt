use Rattle.std.proofs.Common.{sym, ◌∙◌, inl, inr}
use Rattle.event.specs.declared.Shape.TheVariants as Shape
use Rattle.event.specs.Row.{value_at}
use Rattle.xml_row.proofs.Laws.{bytes-value, no-text}
use Rattle.xml_row.proofs.text_in.Goals as goal

pub returns-in-String : goal.returns-in-String
returns-in-String c = rw (bytes-value c.args.first.now c.args.second.now c.args.w.now _ c.in-String.is (sym c.shape_of.ensures)) c.value_in.ensures

pub returns-in-Nothing : goal.returns-in-Nothing
returns-in-Nothing c = rw (no-text c.args.first.now c.args.second.now c.args.w.now _ c.in-Nothing.is (sym c.shape_of.ensures))
