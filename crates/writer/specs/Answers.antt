-- What the code's answers say in the terms of the definitions.
use Rattle.std.specs.Prelude.{Bool, cond, List, ℕ, Result, Ok, Err, Some, None}
use Rattle.std.specs.Prelude as Code
use Rattle.std.proofs.Math.Option.{Option, none, some}
use Rattle.wire.specs.Answers.{number_of, detail_of}
use Rattle.wire.specs.declared.Refusal.{Refusal}
use Rattle.event.specs.Words.{list_forms, event_forms}
use Rattle.writer_spec.specs.Writer.{Lent, Reply, wrote, refused, Left}
use Rattle.writer_spec.specs.Writer as Spec
use Rattle.writer.specs.declared.Writer.{Writer}

-- ---- the public calls

abbrev pub lent_of : List ℕ → List ℕ → Lent
lent_of output table = record { output = output; table = table }

abbrev pub state_of : Writer → Spec.Writer
state_of w = record { written = w.written; names = w.names }

abbrev pub reply_of : Result Writer Refusal → Reply
reply_of (Ok w) = wrote (state_of w)
reply_of (Err r) = refused (number_of r) (detail_of r)

-- an answer, and what the output and the table hold at exit
abbrev pub left_of : Result Writer Refusal → List ℕ → List ℕ → Left
left_of r output table = record { reply = reply_of r; lent = lent_of output table }

-- exactly one event, or a list
abbrev pub forms_by : Bool → List ℕ → List ℕ → List ℕ → Bool
forms_by single first second rows = cond single (event_forms first second rows) (list_forms first second rows)

-- ---- measuring

abbrev pub fault_of : Result Unit Refusal → Option (ℕ × ℕ)
fault_of (Ok _) = none
fault_of (Err r) = some (number_of r, detail_of r)

-- so many bytes, or a refusal
pub data Measure : Type 0 where
  takes : ℕ → Measure
  stops : ℕ → ℕ → Measure

abbrev pub measured : Option (ℕ × ℕ) → ℕ → Measure
measured none n = takes n
measured (some (number, detail)) n = stops number detail

abbrev pub size_of : Result ℕ Refusal → Measure
size_of (Ok n) = takes n
size_of (Err r) = stops (number_of r) (detail_of r)

-- ---- a name's search

-- a place in the pool or none, or a refusal
pub data Place : Type 0 where
  placed : Option ℕ → Place
  barred : ℕ → ℕ → Place

abbrev pub placed_by : Option (ℕ × ℕ) → Option ℕ → Place
placed_by none o = placed o
placed_by (some (number, detail)) o = barred number detail

abbrev pub name_found_of : Result (Code.Option ℕ) Refusal → Place
name_found_of (Ok (Some i)) = placed (some i)
name_found_of (Ok None) = placed none
name_found_of (Err r) = barred (number_of r) (detail_of r)

-- ---- writing

abbrev pub known_of : Code.Option ℕ → Option ℕ
known_of (Some i) = some i
known_of None = none
