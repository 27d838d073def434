-- The text writer's call, as a function of what is lent.
use Rattle.std.specs.Prelude.{Bool, true, ◌&&◌, not, cond, List, [], ◌∷◌, ℕ, ◌+◌, length, ltb}
use Rattle.std.proofs.Math.Option.{none, some}
use Rattle.std.proofs.lemmas.List.Edits.{sets}
use Rattle.wire.specs.Refusal.{invalid_utf8, output_full, not_rows, bad_size, illegal_char}
use Rattle.wire.specs.Limits.{max_store}
use Rattle.utf8.specs.Utf8.{well_formed}
use Rattle.event.specs.Row.{Row, Event, shape, has_name}
use Rattle.event.specs.Row as Row
use Rattle.event.specs.Words.{list_forms}
use Rattle.event.specs.declared.Shape.{Shape}
use Rattle.writer_spec.specs.Faults.{group}
use Rattle.writer_spec.specs.Writer.{Refusal, ◌before◌, refuse_if, rows_in}
use Rattle.xml_spec.specs.Chars.{legal}
use Rattle.xml_spec.specs.Xml.{event_xml, xml}

-- a property of every string of a value, of a row and of an event: blobs are no strings
unfoldable pub of_value : (List ℕ → Bool) → Shape → Row.Value → Bool
of_value p h Row.nothing = true
of_value p Shape.Blob (Row.bytes s) = true
of_value p Shape.Nothing (Row.bytes s) = p s
of_value p Shape.String (Row.bytes s) = p s
of_value p Shape.Interned (Row.bytes s) = p s
of_value p Shape.Word (Row.bytes s) = p s
of_value p Shape.Pair (Row.bytes s) = p s
of_value p Shape.Unknown (Row.bytes s) = p s
of_value p h (Row.word w) = true
of_value p h (Row.pair a b) = true

unfoldable pub of_row : (List ℕ → Bool) → Row → Bool
of_row p r = cond (has_name r.kind) (p r.name) true && of_value p (shape r.type) r.value

unfoldable pub of_event : (List ℕ → Bool) → Event → Bool
of_event p [] = true
of_event p (r ∷ rs) = of_row p r && of_event p rs

-- event by event, from a place of the output on: 7 for any of its strings, then 20 for any of them, then 15
unfoldable pub events_refusal : ℕ → ℕ → List Event → Refusal
events_refusal room at [] = none
events_refusal room at (e ∷ es) =
    let after : ℕ = at + length (event_xml e) in
    refuse_if (not (of_event well_formed e)) invalid_utf8
    before refuse_if (not (of_event legal e)) illegal_char
    before refuse_if (ltb room after) output_full
    before events_refusal room after es

-- 17, then 16 for the whole list, then event by event
unfoldable pub refusal : List ℕ → List ℕ → List ℕ → List ℕ → Refusal
refusal first second rows out =
    refuse_if (ltb max_store (length out)) bad_size
    before refuse_if (not (list_forms first second rows)) not_rows
    before events_refusal (length out) 0 (group (rows_in first second rows))

-- how many bytes of text, or a refusal by number and detail; and every byte that the call may write
pub data Reply : Type 0 where
  wrote : ℕ → Reply
  refused : ℕ → ℕ → Reply

pub record Left : Type 0 where
  pub reply : Reply
  pub out : List ℕ

unfoldable pub unless : Refusal → List ℕ → List ℕ → Left
unless (some (number, detail)) out text = record { reply = refused number detail; out = out }
unless none out text = record { reply = wrote (length text); out = sets out 0 text }

-- the text in the output's first bytes; the bytes after it stay
unfoldable pub to_xml : List ℕ → List ℕ → List ℕ → List ℕ → Left
to_xml first second rows out = unless (refusal first second rows out) out (xml (group (rows_in first second rows)))
