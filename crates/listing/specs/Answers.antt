-- What the code's answer says, in the terms of the definition.
use Rattle.std.specs.Prelude.{List, ℕ, Result, Ok, Err}
use Rattle.wire.specs.Answers.{number_of, detail_of}
use Rattle.wire.specs.declared.Refusal.{Refusal}
use Rattle.listing.specs.Line.{Left, wrote, refused}

abbrev pub lined_of : List ℕ → Result ℕ Refusal → Left
lined_of out (Ok n) = record { reply = wrote n; out = out }
lined_of out (Err r) = record { reply = refused (number_of r) (detail_of r); out = out }
