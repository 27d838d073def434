-- What the answers of the code say, in the terms of the grammar.
use Rattle.std.proofs.Math.Option as Grammars
use Rattle.std.specs.Prelude.{Bool, true, false, cond, List, ℕ, length, Option, None, Some, Result, Ok, Err}
use Rattle.wire.specs.declared.Refusal.{Refusal}
use Rattle.wire.specs.declared.Refusal.TheVariants as R
use Rattle.wire.specs.Answers as Wire
use Rattle.grammar.specs.Reader.{Read, got, short, refused}
use Rattle.grammar.specs.Grammar.{Span, Ref, new, known, Items, attributes_f, event}
use Rattle.grammar.specs.Scan.{sound, Measure}
use Rattle.grammar.specs.Scan as Scan
use Rattle.extent.specs.declared.fields.Span as Coded
use Rattle.extent.specs.declared.fields.Name.{Name}
use Rattle.extent.specs.declared.pool.Pool.{Pool}
use Rattle.extent.specs.declared.Measured.{Measured}

-- whether a refusal says that the input ends inside what is read
abbrev pub is_short : Refusal → Bool
is_short R.UnexpectedEof = true
is_short R.StringShort = true
is_short R.BytesShort = true
is_short _ = false

abbrev pub unread_of : {A : Type 0} → Refusal → Read A
unread_of r = cond (is_short r) (short (Wire.number_of r)) (refused (Wire.number_of r) (Wire.detail_of r))

abbrev pub number_of : Result (ℕ × ℕ) Refusal → Read ℕ
number_of (Ok p) = got p.0 p.1
number_of (Err r) = unread_of r

abbrev pub span_of : Coded.Span → Span
span_of t = record { start = t.start; len = t.len }

abbrev pub ref_of : Name → Ref
ref_of (Name.New t) = new (span_of t)
ref_of (Name.Known index) = known index

abbrev pub text_of : Result (Coded.Span × ℕ) Refusal → Read Span
text_of (Ok p) = got (span_of p.0) p.1
text_of (Err r) = unread_of r

abbrev pub name_of : Result (Name × ℕ) Refusal → Read Ref
name_of (Ok p) = got (ref_of p.0) p.1
name_of (Err r) = unread_of r

abbrev pub ref_in : Option Name → Grammars.Option Ref
ref_in None = Grammars.none
ref_in (Some name) = Grammars.some (ref_of name)

abbrev pub named_of : Result (Option Name × ℕ) Refusal → Read (Grammars.Option Ref)
named_of (Ok p) = got (ref_in p.0) p.1
named_of (Err r) = unread_of r

-- the pool's entries that are sound
abbrev pub sound_of : Pool → ℕ → Bool
sound_of pool = sound pool.kept pool.table.now pool.stored

-- the attributes from a place on, and the event, where the pool has so many names
abbrev pub attributes_of : Pool → ℕ → List ℕ → ℕ → Items
attributes_of pool names s at = attributes_f (sound_of pool) (length s) names s at

abbrev pub event_of : Pool → ℕ → List ℕ → Items
event_of pool names s = event (sound_of pool) names s

abbrev pub outcome_of : Result (Option ℕ) Refusal → Scan.Outcome
outcome_of (Ok (Some n)) = Scan.complete n
outcome_of (Ok None) = Scan.incomplete
outcome_of (Err r) = Scan.bad (Wire.number_of r) (Wire.detail_of r)

abbrev pub measured_of : Measured → Measure
measured_of m = record { rows = m.rows; added = m.added; bytes = m.bytes; result = outcome_of m.outcome }
