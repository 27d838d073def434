use Rattle.std.proofs.Common.{sym, ◌∙◌}
use Rattle.event.specs.declared.Shape.TheVariants as Shape
use Rattle.event.specs.Row.{value_at}
use Rattle.xml_row.proofs.Laws.{value_of, no-value, bytes-value}
use Rattle.xml_row.proofs.values.value_end.Goals as goal

pub returns-in-Nothing : goal.returns-in-Nothing
returns-in-Nothing c = rw (no-value c.args.first.now c.args.second.now c.args.w.now _ c.in-Nothing.is (sym c.shape_of.ensures)) c.mark_end.ensures

pub returns-in-String : goal.returns-in-String
returns-in-String c = rw (bytes-value c.args.first.now c.args.second.now c.args.w.now _ c.in-String.is (sym c.shape_of.ensures), ← c.value_in.ensures) c.bytes_end.ensures

pub returns-in-Word : goal.returns-in-Word
unfolding value_at
returns-in-Word c = rw (value_of c.args.first.now c.args.second.now c.args.w.now Shape.Word (sym c.shape_of.ensures ∙ c.in-Word.is)) c.word_end.ensures

pub returns-in-Pair : goal.returns-in-Pair
unfolding value_at
returns-in-Pair c = rw (value_of c.args.first.now c.args.second.now c.args.w.now Shape.Pair (sym c.shape_of.ensures ∙ c.in-Pair.is)) c.pair_end.ensures
