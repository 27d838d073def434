use Rattle.std.proofs.Common.{◌≡◌, ◌*◌, ◌-◌, ◌/◌, length, drop}
use Rattle.event.specs.Words.{rows_form, list_forms}
use Rattle.forms.proofs.list_forms.Given as goal

abbrev pub invariant-loop-row : goal.invariant-loop-row
invariant-loop-row l = rows_form l.first l.second l.inside (length l.rows / 8 - l.row-index) (drop (l.row-index * 8) l.rows) ≡ list_forms l.first l.second l.rows
