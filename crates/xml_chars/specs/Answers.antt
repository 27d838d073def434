-- What the code's answer says is wrong with a string: 0, or the number of the refusal.
use Rattle.std.specs.Prelude.{ℕ, Result, Ok, Err}
use Rattle.wire.specs.declared.Refusal.{Refusal}
use Rattle.wire.specs.Answers.{number_of}

abbrev pub fault_of : Result Unit Refusal → ℕ
fault_of (Ok _) = 0
fault_of (Err r) = number_of r
