-- What the code's answer says, in the terms of the definition.
use Rattle.std.specs.Prelude.{List, ℕ, Result, Ok, Err}
use Rattle.wire.specs.Answers.{number_of, detail_of}
use Rattle.wire.specs.declared.Refusal.{Refusal}
use Rattle.xml_spec.specs.ToXml.{Left, wrote, refused}

abbrev pub printed_of : List ℕ → Result ℕ Refusal → Left
printed_of out (Ok n) = record { reply = wrote n; out = out }
printed_of out (Err r) = record { reply = refused (number_of r) (detail_of r); out = out }
