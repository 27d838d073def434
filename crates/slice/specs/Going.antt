-- A query on its way: where it stands after an event, and what is still to come.
use Rattle.std.specs.Prelude.{Bool, true, false, Option, Some, Result, Ok, List, ◌≡◌, ℕ, ◌+◌, ◌≤◌, ◌<◌, length}
use Rattle.wire.specs.declared.Refusal.{Refusal}
use Rattle.scanner.specs.declared.select.Picked.{Picked}
use Rattle.slice_spec.specs.Queries.{Query, Ending, done, Step, on, stop, Progress, Left, query_f}
use Rattle.slice_spec.specs.Turns.{Turn, passed, halted, turn_or_refuse, after_by, by_turn}
use Rattle.slice.specs.Answers.{step_of, reached_of}
use Rattle.slice.specs.declared.queries.Reached.{Reached}
use Rattle.slice.specs.declared.queries.Passed as Coded

-- ---- one event

-- what an event adds has room in words
pub record Fits (r : Reached) (e : Picked) : Type 0 where
  pub at : r.place.at + e.len < 18_446_744_073_709_551_616
  pub names : r.place.names + e.added < 18_446_744_073_709_551_616
  pub events : r.events + 1 < 18_446_744_073_709_551_616
  pub rows : r.rows + e.rows < 18_446_744_073_709_551_616

-- so does that which was picked
pub record Addable (r : Reached) (p : Result (Option Picked) Refusal) : Type 0 where
  pub fits : (e : Picked) → p ≡ Ok (Some e) → Fits r e

-- whether a query goes on, and where it stands
pub record Stepped : Type 0 where
  pub step : Step
  pub progress : Progress

abbrev pub passed_of : List ℕ → List ℕ → Coded.Passed → Stepped
passed_of table rows p = record { step = step_of p.end; progress = reached_of table rows p.reached }

unfoldable pub step_by : Query → Turn → Stepped
step_by q (passed kind n g) = record { step = after_by q kind n; progress = g }
step_by q (halted e g) = record { step = stop e; progress = g }

abbrev pub stops : Step → Bool
stops on = false
stops (stop e) = true

abbrev pub end_of : Step → Ending
end_of on = done
end_of (stop e) = e

-- ---- what is still to come

-- as many turns as there are bytes left are enough, and no more events were consumed than bytes passed
pub record Going (q : Query) (document : List ℕ) (answer : Left) (g : Progress) : Type 0 where
  pub fuel : ℕ
  pub ahead : by_turn q (λ g'. query_f fuel q document g') (turn_or_refuse q document g) ≡ answer
  pub enough : length document ≤ g.place.at + fuel + 1
  pub counted : g.events ≤ g.place.at
