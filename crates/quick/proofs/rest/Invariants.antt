use Rattle.std.proofs.Common.{◌≡◌, ◌-◌, ◌≤◌, ◌<◌, length}
use Rattle.grammar.specs.Scan.{sound}
use Rattle.grammar.specs.Turn.{rest}
use Rattle.quick.proofs.Turns.{Left}
use Rattle.quick.proofs.rest.Given as goal

abbrev pub invariant-loop-at : goal.invariant-loop-at
invariant-loop-at l =
    (0 < l.at) × (l.at ≤ length l.s) × (l.rows ≤ 10) × (length l.words ≡ length l.initial.words)
    × Left l.pool.names l.pool.source l.base l.pool.table.now (rest (sound l.pool.names l.pool.table.now l.pool.stored) l.s l.pool.names l.from) (rest (sound l.pool.names l.pool.table.now l.pool.stored) l.s l.pool.names l.at) 1 l.rows l.initial.words l.words

abbrev pub decreases-loop-at : goal.decreases-loop-at
decreases-loop-at l = length l.s - l.at
