-- What the code's places and answers say, in the terms of the slice reader's definition.
use Rattle.std.specs.Prelude.{List, ℕ, Option, Some, None, Result, Ok, Err}
use Rattle.wire.specs.declared.Refusal.{Refusal}
use Rattle.wire.specs.Answers.{number_of, detail_of}
use Rattle.slice_spec.specs.Slice.{Place, Left, Answer, gives, end}
use Rattle.slice_spec.specs.Slice as Defined
use Rattle.slice_spec.specs.Queries.{Ending, found, done, Step, on, stop, Progress, ends}
use Rattle.slice_spec.specs.Queries as Asked
use Rattle.slice.specs.declared.Place as Coded
use Rattle.slice.specs.declared.Event.{Event}
use Rattle.slice.specs.declared.queries.Reached.{Reached}
use Rattle.slice.specs.declared.queries.Queried.{Queried}
use Rattle.slice.specs.declared.queries.Stopped.{Stopped}
use Rattle.slice.specs.declared.queries.End.{End}

abbrev pub place_of : Coded.Place → Place
place_of p = record { at = p.at; names = p.names }

abbrev pub created_of : Result Coded.Place Refusal → Defined.Created
created_of (Ok p) = Defined.created (place_of p)
created_of (Err r) = Defined.Created.refused (number_of r) (detail_of r)

abbrev left : Coded.Place → List ℕ → List ℕ → Answer → Left
left p table rows a = record { answer = a; place = place_of p; table = table; rows = rows }

-- an end and a refusal carry no place, and leave that which the call was given
abbrev pub next_of : Coded.Place → List ℕ → List ℕ → Result (Option Event) Refusal → Left
next_of old table rows (Ok (Some e)) = left e.place table rows (gives e.rows)
next_of old table rows (Ok None) = left old table rows end
next_of old table rows (Err r) = left old table rows (Answer.refused (number_of r) (detail_of r))

-- ---- queries

abbrev pub ending_of : End → Ending
ending_of End.Found = found
ending_of End.Done = done

-- whether a query goes on after an event, or how it ends
abbrev pub step_of : Result (Option End) Refusal → Step
step_of (Ok None) = on
step_of (Ok (Some e)) = stop (ending_of e)
step_of (Err r) = stop (Ending.refused (number_of r) (detail_of r))

-- how far a query came, with the lent words as they are then
abbrev pub reached_of : List ℕ → List ℕ → Reached → Progress
reached_of table rows r = record { place = place_of r.place; table = table; rows = rows; events = r.events; written = r.rows }

abbrev pub left_of : List ℕ → List ℕ → Result Queried Stopped → Asked.Left
left_of table rows (Ok (Queried.Found r)) = ends (reached_of table rows r) found
left_of table rows (Ok (Queried.Done r)) = ends (reached_of table rows r) done
left_of table rows (Err s) = ends (reached_of table rows s.reached) (Ending.refused (number_of s.refusal) (detail_of s.refusal))
