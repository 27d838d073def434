use Rattle.std.proofs.Common.{◌≡◌, ◌-◌, ◌≤◌, ◌<◌, length}
use Rattle.grammar.specs.Turn.{rest}
use Rattle.grammar.specs.Trusted.{always}
use Rattle.scanner.specs.Select.{takes_all, takes_one, grown}
use Rattle.scanner.proofs.Choosing.{Taking, asked_of, stored}
use Rattle.scanner.proofs.select.take_rest.Given as goal

abbrev pub invariant-loop-row : goal.invariant-loop-row
invariant-loop-row l =
    (l.at ≤ length l.s) × (0 < l.at) × (l.count ≤ l.at) × (length l.row ≡ 8)
    × Taking l.start.at l.s l.start.document.now l.wanted.name.now (takes_all l.wanted.query) (takes_one l.wanted.query) l.still l.to (grown l.start.at l.start.names l.initial.table (rest always l.s l.start.names l.initial.at))
    (length (asked_of l.start.at l.s l.start.document.now l.wanted.name.now (takes_all l.wanted.query) (takes_one l.wanted.query) l.still l.to l.start.names (rest always l.s l.start.names l.initial.at) l.look l.initial.table l.initial.rows))
    (stored l.start.at l.s l.start.document.now l.wanted.name.now (takes_all l.wanted.query) (takes_one l.wanted.query) l.still l.to 0 (asked_of l.start.at l.s l.start.document.now l.wanted.name.now (takes_all l.wanted.query) (takes_one l.wanted.query) l.still l.to l.start.names (rest always l.s l.start.names l.initial.at) l.look l.initial.table l.initial.rows) l.initial.rows)
    l.names (rest always l.s l.names l.at) l.looking l.count l.table l.rows

abbrev pub decreases-loop-row : goal.decreases-loop-row
decreases-loop-row l = length l.s - l.at
