use Rattle.std.proofs.Common.{◌≤◌}
use Rattle.vectors.proofs.show_chunks.Given as goal

abbrev pub invariant-loop-turn : goal.invariant-loop-turn
invariant-loop-turn l = l.events ≤ l.turn
