-- What the contracts of the passes say.
use Rattle.std.specs.Prelude.{Bool, true, false, not, List, ◌∷◌, ◌≡◌, ℕ, length, Result, Ok, Err}
use Rattle.std.proofs.Math.Option.{none, some}
use Rattle.wire.specs.Refusal.{invalid_utf8}
use Rattle.wire.specs.Answers.{number_of, detail_of}
use Rattle.wire.specs.declared.Refusal as Coded
use Rattle.utf8.specs.Utf8.{well_formed}
use Rattle.event.specs.Row.{Row}
use Rattle.writer_spec.specs.Writer.{Refusal, ◌before◌, refuse_if}
use Rattle.xml_spec.specs.Chars.{legal}
use Rattle.xml_spec.specs.ToXml.{of_row, Left, unless}
use Rattle.xml_spec.specs.Rows.{row_xml, end_refusal, rows_refusal}
use Rattle.xml.specs.declared.Tally.{Tally}

abbrev pub refused_by : Coded.Refusal → Refusal
refused_by r = some (number_of r, detail_of r)

abbrev pub refusal_of : Result Unit Coded.Refusal → Refusal
refusal_of (Ok _) = none
refusal_of (Err r) = refused_by r

-- a row's strings are well-formed, and legal or not; or one is not well-formed
abbrev pub StringsSay : Row → Result Bool Coded.Refusal → Type 0
StringsSay r (Ok is_legal) = (of_row well_formed r ≡ true) × (of_row legal r ≡ is_legal)
StringsSay r (Err e) = (of_row well_formed r ≡ false) × (refused_by e ≡ some (invalid_utf8, 0))

-- an event that ends is refused, or the next begins at its end
abbrev pub EndSays : ℕ → Tally → Result Tally Coded.Refusal → Type 0
EndSays room t (Ok n) = (end_refusal room t.at t.legal ≡ none) × (n.at ≡ t.at) × (n.legal ≡ true)
EndSays room t (Err e) = end_refusal room t.at t.legal ≡ refused_by e

-- a row's turn leaves to the rows after it what was left to it, or is refused
abbrev pub TurnSays : ℕ → Tally → Row → List Row → Result Tally Coded.Refusal → Type 0
TurnSays room t r rs (Ok n) = rows_refusal room t.at t.legal (r ∷ rs) ≡ rows_refusal room n.at n.legal rs
TurnSays room t r rs (Err e) = rows_refusal room t.at t.legal (r ∷ rs) ≡ refused_by e

-- the call for a row that forms
abbrev pub row_alone : Bool → Row → List ℕ → Left
row_alone last r out =
    unless (refuse_if (not (of_row well_formed r)) invalid_utf8 before end_refusal (length out) (length (row_xml last r)) (of_row legal r)) out (row_xml last r)
