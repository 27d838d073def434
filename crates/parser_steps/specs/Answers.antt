-- What the code's answers say, in the terms of the parser's definition.
use Rattle.std.specs.Prelude.{List, ℕ, Option, Some, None, Result, Ok, Err}
use Rattle.wire.specs.declared.Refusal.{Refusal}
use Rattle.wire.specs.Answers.{number_of, detail_of}
use Rattle.event.specs.Span.{Pointer}
use Rattle.slice_spec.specs.Slice.{Answer, gives, end}
use Rattle.slice_spec.specs.Queries.{Ending, found, done}
use Rattle.slice_spec.specs.Parser.{Parser, Left}
use Rattle.slice_spec.specs.Parser as Defined
use Rattle.slice.specs.Answers.{place_of}
use Rattle.slice.specs.declared.Place.{Place}
use Rattle.slice.specs.declared.queries.Queried.{Queried}
use Rattle.slice.specs.declared.queries.Stopped.{Stopped}
use Rattle.parser_steps.specs.declared.Opened.{Opened}
use Rattle.parser_steps.specs.declared.Asked.{Asked}
use Rattle.parser_steps.specs.declared.Refused.{Refused}
use Rattle.parser_steps.specs.declared.Sought.{Sought}

-- a refused `new` by its number and detail, 0 if it was not refused
abbrev pub number_by : Option Refusal → ℕ
number_by None = 0
number_by (Some r) = number_of r

abbrev pub detail_by : Option Refusal → ℕ
detail_by None = 0
detail_by (Some r) = detail_of r

-- a parser by its fields
abbrev pub parser_at : List ℕ → Pointer → Place → Option Refusal → Parser
parser_at document lies place refusal =
    record { document = document; lies = lies; place = place_of place; number = number_by refusal; detail = detail_by refusal }

abbrev pub opened_of : List ℕ → Pointer → Opened → Parser
opened_of document lies o = parser_at document lies o.place o.refusal

abbrev pub answer_of : Result (Option ℕ) Refusal → Answer
answer_of (Ok (Some n)) = gives n
answer_of (Ok None) = end
answer_of (Err r) = Answer.refused (number_of r) (detail_of r)

abbrev pub left_by : Parser → List ℕ → List ℕ → Result (Option ℕ) Refusal → Left
left_by p table rows a = record { answer = answer_of a; parser = p; table = table; rows = rows }

-- ---- queries

-- what the slice reader answered, its place apart
abbrev pub sought_of : Result Queried Stopped → Sought
sought_of (Ok (Queried.Found r)) = record { place = r.place; answer = Ok (Asked.Found r.events r.rows) }
sought_of (Ok (Queried.Done r)) = record { place = r.place; answer = Ok (Asked.Done r.events r.rows) }
sought_of (Err s) =
    record { place = s.reached.place; answer = Err (record { refusal = s.refusal; events = s.reached.events; rows = s.reached.rows }) }

abbrev pub refused_at : Place → Refusal → Sought
refused_at place refusal = record { place = place; answer = Err (record { refusal = refusal; events = 0; rows = 0 }) }

abbrev asked : Parser → List ℕ → List ℕ → Ending → ℕ → ℕ → Defined.Asked
asked p table rows e events written =
    record { ending = e; events = events; written = written; parser = p; table = table; rows = rows }

abbrev pub asked_by : Parser → List ℕ → List ℕ → Result Asked Refused → Defined.Asked
asked_by p table rows (Ok (Asked.Found events written)) = asked p table rows found events written
asked_by p table rows (Ok (Asked.Done events written)) = asked p table rows done events written
asked_by p table rows (Err r) = asked p table rows (Ending.refused (number_of r.refusal) (detail_of r.refusal)) r.events r.rows
