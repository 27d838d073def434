-- The call's refusals in their order, and what it leaves, computed.
use Rattle.std.specs.Prelude.{List, [], ◌∷◌, ◌++◌, ◌≡◌, refl, ℕ}
use Rattle.utf8.specs.Utf8 as U
use Rattle.event.specs.Span as Span
use Rattle.event.specs.Row as Row
use Rattle.event.specs.Words as Words
use Rattle.writer_spec.specs.Faults as F
use Rattle.text.specs.Ascii.{ascii}
use Rattle.xml_spec.specs.Chars as C
use Rattle.xml_spec.specs.Xml as X
use Rattle.xml_spec.specs.ToXml as T
use Rattle.xml_spec.specs.ToXml.{to_xml, Left, wrote, refused}

-- the store: `p`, U+0001, and an octet that is no string
abbrev store : List ℕ
store = 112 ∷ 1 ∷ 192 ∷ []

abbrev start : ℕ → List ℕ
start at = 2 ∷ 0 ∷ at ∷ 1 ∷ 0 ∷ 0 ∷ 0 ∷ 0 ∷ []

abbrev end : ℕ → List ℕ
end at = 3 ∷ 0 ∷ at ∷ 1 ∷ 0 ∷ 0 ∷ 0 ∷ 0 ∷ []

-- an attribute of the name `p` and a string
abbrev attribute : ℕ → List ℕ
attribute at = 15 ∷ 0 ∷ 0 ∷ 1 ∷ 2 ∷ 0 ∷ at ∷ 1 ∷ []

abbrev call : List ℕ → List ℕ → Left
call rows out = to_xml store [] rows out

abbrev six : List ℕ
six = 9 ∷ 9 ∷ 9 ∷ 9 ∷ 9 ∷ 9 ∷ []

abbrev stays : ℕ → List ℕ → Left
stays number out = record { reply = refused number 0; out = out }

-- the bytes after the text stay
pub printed : call (start 0) six ≡ record { reply = wrote 3; out = ascii "<p>" ++ (9 ∷ 9 ∷ 9 ∷ []) }
unfolding to_xml T.refusal T.events_refusal T.unless T.of_event T.of_row T.of_value C.legal C.all_chars C.is_char C.chars_from X.xml X.event_xml X.attributes_xml X.attribute_xml X.value_xml X.text_xml X.escape X.escaped F.group F.glue Words.list_forms Words.rows_form Words.row_forms_in Words.row_forms Words.attribute_forms Words.value_forms Words.zeros Words.opens Span.span_in Span.span Span.part Row.rows_at Row.row_at Row.value_at Row.shape Row.shapes Row.has_name U.well_formed U.octets
printed = refl

-- 16 for the last row comes before 7 for the first
pub whole-list-first : call (end 2 ++ (11 ∷ 0 ∷ 0 ∷ 0 ∷ 0 ∷ 0 ∷ 0 ∷ 0 ∷ [])) six ≡ stays 16 six
unfolding to_xml T.refusal T.events_refusal T.unless T.of_event T.of_row T.of_value C.legal C.all_chars C.is_char C.chars_from X.xml X.event_xml X.attributes_xml X.attribute_xml X.value_xml X.text_xml X.escape X.escaped F.group F.glue Words.list_forms Words.rows_form Words.row_forms_in Words.row_forms Words.attribute_forms Words.value_forms Words.zeros Words.opens Span.span_in Span.span Span.part Row.rows_at Row.row_at Row.value_at Row.shape Row.shapes Row.has_name U.well_formed U.octets
whole-list-first = refl

-- 7 for any string of an event comes before 20 for an earlier one
pub broken-before-illegal : call (start 1 ++ attribute 2) six ≡ stays 7 six
unfolding to_xml T.refusal T.events_refusal T.unless T.of_event T.of_row T.of_value C.legal C.all_chars C.is_char C.chars_from X.xml X.event_xml X.attributes_xml X.attribute_xml X.value_xml X.text_xml X.escape X.escaped F.group F.glue Words.list_forms Words.rows_form Words.row_forms_in Words.row_forms Words.attribute_forms Words.value_forms Words.zeros Words.opens Span.span_in Span.span Span.part Row.rows_at Row.row_at Row.value_at Row.shape Row.shapes Row.has_name U.well_formed U.octets
broken-before-illegal = refl

-- 20 comes before 15
pub illegal-before-room : call (start 0 ++ attribute 1) [] ≡ stays 20 []
unfolding to_xml T.refusal T.events_refusal T.unless T.of_event T.of_row T.of_value C.legal C.all_chars C.is_char C.chars_from X.xml X.event_xml X.attributes_xml X.attribute_xml X.value_xml X.text_xml X.escape X.escaped F.group F.glue Words.list_forms Words.rows_form Words.row_forms_in Words.row_forms Words.attribute_forms Words.value_forms Words.zeros Words.opens Span.span_in Span.span Span.part Row.rows_at Row.row_at Row.value_at Row.shape Row.shapes Row.has_name U.well_formed U.octets
illegal-before-room = refl

-- 15 for an event comes before 7 for the next
pub event-by-event : call (start 0 ++ end 2) (9 ∷ []) ≡ stays 15 (9 ∷ [])
unfolding to_xml T.refusal T.events_refusal T.unless T.of_event T.of_row T.of_value C.legal C.all_chars C.is_char C.chars_from X.xml X.event_xml X.attributes_xml X.attribute_xml X.value_xml X.text_xml X.escape X.escaped F.group F.glue Words.list_forms Words.rows_form Words.row_forms_in Words.row_forms Words.attribute_forms Words.value_forms Words.zeros Words.opens Span.span_in Span.span Span.part Row.rows_at Row.row_at Row.value_at Row.shape Row.shapes Row.has_name U.well_formed U.octets
event-by-event = refl
