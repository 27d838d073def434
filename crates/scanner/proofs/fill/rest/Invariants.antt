use Rattle.std.proofs.Common.{◌+◌, ◌*◌, ◌-◌, ◌≤◌, length}
use Rattle.grammar.specs.Turn.{rest}
use Rattle.grammar.specs.Trusted.{always}
use Rattle.scanner.specs.Fill.{Walked}
use Rattle.scanner.proofs.fill.rest.Given as goal

abbrev pub invariant-loop-home : goal.invariant-loop-home
invariant-loop-home l =
    (l.at ≤ length l.s) × ((l.to ≤ length l.initial.rows) × (l.to + 8 * l.initial.at ≤ l.first + 8 * l.at))
    × Walked l.home l.s l.initial.kept (rest always l.s l.initial.kept.names l.initial.at) l.initial.table l.table l.initial.store l.store l.initial.rows l.rows l.first l.to (rest always l.s l.kept.names l.at) l.kept

abbrev pub decreases-loop-home : goal.decreases-loop-home
decreases-loop-home l = length l.s - l.at
