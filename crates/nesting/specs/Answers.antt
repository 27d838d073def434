-- What the code's answer says, in the terms of the definition.
use Rattle.std.specs.Prelude.{Bool, true, false, Result, Ok, Err}
use Rattle.wire.specs.declared.Refusal.{Refusal}
use Rattle.wire.specs.Answers.{number_of, detail_of}
use Rattle.nesting_spec.specs.Nesting.{Answer, yes, no, refused}

abbrev pub nesting_of : Result Bool Refusal → Answer
nesting_of (Ok true) = yes
nesting_of (Ok false) = no
nesting_of (Err r) = refused (number_of r) (detail_of r)
