-- What the code's answer says.
use Rattle.std.specs.Prelude.{Result, Ok, Err}
use Rattle.wire.specs.Header.{Check, passed, refused}
use Rattle.wire.specs.Answers.{number_of, detail_of}
use Rattle.wire.specs.declared.Refusal.{Refusal}

abbrev pub header_of : Result Unit Refusal → Check
header_of (Ok _) = passed
header_of (Err r) = refused (number_of r) (detail_of r)
