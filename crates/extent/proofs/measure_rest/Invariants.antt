use Rattle.std.proofs.Common.{◌-◌, ◌≤◌, length}
use Rattle.grammar.specs.Turn.{rest}
use Rattle.extent.specs.Answers.{sound_of}
use Rattle.extent.specs.Tally.{Bounded}
use Rattle.extent.proofs.Measuring.{Remains, Measuring}
use Rattle.extent.proofs.measure_rest.Given as goal

abbrev pub invariant-loop-at : goal.invariant-loop-at
invariant-loop-at l =
    (l.at ≤ length l.s) × Bounded l.at l.tally
    × Measuring l.finished l.s (Remains l.finished l.s (sound_of l.pool) l.initial.tally l.initial.at) (rest (sound_of l.pool) l.s l.tally.names l.at) l.tally

abbrev pub decreases-loop-at : goal.decreases-loop-at
decreases-loop-at l = length l.s - l.at
