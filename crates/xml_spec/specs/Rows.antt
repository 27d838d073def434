-- The text of an event row by row, and the call for one row.
use Rattle.std.specs.Prelude.{Bool, true, ◌&&◌, not, cond, List, [], ◌∷◌, ◌++◌, ℕ, ◌+◌, ◌*◌, length, drop, ltb, eqb}
use Rattle.std.proofs.Math.Option.{none}
use Rattle.wire.specs.Refusal.{invalid_utf8, output_full, not_rows, bad_size, illegal_char}
use Rattle.wire.specs.Limits.{max_store}
use Rattle.wire.specs.Token as Token
use Rattle.utf8.specs.Utf8.{well_formed}
use Rattle.event.specs.Row.{Row, row_at}
use Rattle.forms.specs.Placed.{row_forms_at}
use Rattle.writer_spec.specs.Writer.{Refusal, ◌before◌, refuse_if, rows_in, ends}
use Rattle.text.specs.Ascii.{ascii}
use Rattle.xml_spec.specs.Chars.{legal}
use Rattle.xml_spec.specs.Xml.{attribute_xml, text_of, text_xml}
use Rattle.xml_spec.specs.ToXml.{of_row, Left, unless}

-- ---- the text

-- a start tag is closed after its last attribute
abbrev pub closing : Bool → List ℕ
closing last = cond last (ascii ">") []

-- a row's own part of its event's text; `last` says that it is the event's last row
unfoldable pub row_xml : Bool → Row → List ℕ
row_xml last r =
    cond (ltb r.kind Token.start_tag) []
    (cond (eqb r.kind Token.start_tag) (ascii "<" ++ r.name ++ closing last)
    (cond (eqb r.kind Token.end_tag) (ascii "</" ++ r.name ++ ascii ">")
    (cond (eqb r.kind Token.attribute) (attribute_xml r ++ closing last) (text_xml r.kind (text_of r.value)))))

-- rows one after another: an event's last is the one before the next event's first
unfoldable pub rows_xml : List Row → List ℕ
rows_xml [] = []
rows_xml (r ∷ rs) = row_xml (ends rs) r ++ rows_xml rs

-- ---- refusals

-- what is wrong with a string: 0, or 7, or 20
unfoldable pub string_fault : List ℕ → ℕ
string_fault s = cond (well_formed s) (cond (legal s) 0 illegal_char) invalid_utf8

-- what is wrong with a row's strings: 0, or 7 for any of them, or 20 for any
unfoldable pub row_fault : Row → ℕ
row_fault r = cond (of_row well_formed r) (cond (of_row legal r) 0 illegal_char) invalid_utf8

-- where an event ends: 20, and then 15
unfoldable pub end_refusal : ℕ → ℕ → Bool → Refusal
end_refusal room at all_legal = refuse_if (not all_legal) illegal_char before refuse_if (ltb room at) output_full

-- event by event, said row by row: 7 at once, 20 and 15 at the event's last row
unfoldable pub rows_refusal : ℕ → ℕ → Bool → List Row → Refusal
rows_refusal room at all_legal [] = none
rows_refusal room at all_legal (r ∷ rs) =
    let after : ℕ = at + length (row_xml (ends rs) r) in
    let still : Bool = all_legal && of_row legal r in
    let next : Refusal = cond (ends rs) (end_refusal room after still before rows_refusal room after true rs) (rows_refusal room after still rs) in
    refuse_if (not (of_row well_formed r)) invalid_utf8 before next

-- ---- the call for one row

-- the text of the row of this number, counted from 0
unfoldable pub row_text : List ℕ → List ℕ → List ℕ → ℕ → List ℕ
row_text first second rows row =
    row_xml (ends (rows_in first second (drop (8 * row + 8) rows))) (row_at first second (drop (8 * row) rows))

-- 17; 16 where there is no such row or it does not form; 7, then 20, for its strings; 15
unfoldable pub row_refusal : List ℕ → List ℕ → List ℕ → ℕ → List ℕ → Refusal
row_refusal first second rows row out =
    let r : Row = row_at first second (drop (8 * row) rows) in
    refuse_if (ltb max_store (length out)) bad_size
    before refuse_if (not (row_forms_at first second rows row)) not_rows
    before refuse_if (not (of_row well_formed r)) invalid_utf8
    before end_refusal (length out) (length (row_text first second rows row)) (of_row legal r)

unfoldable pub row_to_xml : List ℕ → List ℕ → List ℕ → ℕ → List ℕ → Left
row_to_xml first second rows row out = unless (row_refusal first second rows row out) out (row_text first second rows row)
