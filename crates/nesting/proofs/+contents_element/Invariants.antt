use Rattle.std.proofs.Common.{◌+◌, ◌*◌, ◌≤◌, length}
use Rattle.nesting.specs.Reading.{Passes}
use Rattle.nesting.proofs.+contents_element.Given as goal

-- twice the rows left to read; an element counts one more than contents of the same rows, since it calls them there
abbrev pub decreases-contents : goal.decreases-contents
decreases-contents l = 2 * length l.rows.now

abbrev pub decreases-element : goal.decreases-element
decreases-element l = 2 * length l.rows.now + 1

abbrev pub invariant-contents-loop-row : goal.invariant-contents-loop-row
invariant-contents-loop-row l = (length l.rest ≤ length l.rows) × Passes l.stores.first.now l.stores.second.now l.rows l.opened l.rest

abbrev pub decreases-contents-loop-row : goal.decreases-contents-loop-row
decreases-contents-loop-row l = length l.rest
