use Rattle.std.proofs.Common.{true, ◌≡◌, ◌%◌, length}
use Rattle.writer_spec.specs.Writer.{rows_in}
use Rattle.xml_spec.specs.Rows.{rows_refusal}
use Rattle.xml.proofs.measure.Given as goal

abbrev pub invariant-loop-row : goal.invariant-loop-row
invariant-loop-row l = record {
  whole : length l.rest % 8 ≡ 0;
  left : rows_refusal l.room l.tally.at l.tally.legal (rows_in l.first l.second l.rest) ≡ rows_refusal l.room 0 true (rows_in l.first l.second l.rows);
}

abbrev pub decreases-loop-row : goal.decreases-loop-row
decreases-loop-row l = length l.rest
