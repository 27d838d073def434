use Rattle.std.proofs.Common.{List, ◌≡◌, ℕ, ◌%◌, ◌≤◌, length}
use Rattle.writer_spec.specs.Writer.{rows_in}
use Rattle.text.specs.Put.{Put}
use Rattle.xml_spec.specs.Rows.{rows_xml}
use Rattle.xml.proofs.put_rows.Given as goal

abbrev pub invariant-loop-row : goal.invariant-loop-row
invariant-loop-row l = record {
  whole : length l.rest % 8 ≡ 0;
  within : l.at ≤ length l.out;
  long : length l.out ≡ length l.initial.out;
  left : (o : List ℕ) (e : ℕ) → Put l.out l.at (rows_xml (rows_in l.first l.second l.rest)) o e → Put l.initial.out 0 (rows_xml (rows_in l.first l.second l.rows)) o e;
}

abbrev pub decreases-loop-row : goal.decreases-loop-row
decreases-loop-row l = length l.rest
