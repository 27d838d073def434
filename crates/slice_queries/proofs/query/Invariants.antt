use Rattle.std.proofs.Common.{◌-◌, length}
use Rattle.scanner.specs.Select.{query_of}
use Rattle.slice.specs.Answers.{reached_of}
use Rattle.slice_queries.proofs.Turning.{Walked}
use Rattle.slice_queries.proofs.query.Given as goal

abbrev pub invariant-loop-picked : goal.invariant-loop-picked
invariant-loop-picked l =
    Walked (query_of l.wanted l.element l.name) l.document (reached_of l.initial.pool l.initial.rows l.initial.reached) (reached_of l.pool l.rows l.reached)

abbrev pub decreases-loop-picked : goal.decreases-loop-picked
decreases-loop-picked l = length l.document - l.reached.place.at
