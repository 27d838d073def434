-- Small lists, computed.
use Rattle.std.specs.Prelude.{List, [], ◌∷◌, ◌++◌, map, ◌≡◌, refl, ℕ, zero, suc}
use Rattle.wire.specs.Token.{start_document, end_document, start_tag, end_tag, text, cdata, entity_ref, ignorable_whitespace, processing_instruction, comment, doc_decl, attribute, string, int}
use Rattle.event.specs.Span as Span
use Rattle.event.specs.Row as Row
use Rattle.event.specs.Words as Words
use Rattle.nesting_spec.specs.Nesting as N
use Rattle.nesting_spec.specs.Nesting.{Answer, yes, no, refused}

-- the names p and q; p again, in the second store
abbrev first : List ℕ
first = 0x70 ∷ 0x71 ∷ []

abbrev second : List ℕ
second = 0x70 ∷ []

-- a tag's row: its kind, and where its name of one byte stands
unfoldable pub tag : ℕ → ℕ → ℕ → List ℕ
tag kind source at = kind ∷ source ∷ at ∷ 1 ∷ 0 ∷ 0 ∷ 0 ∷ 0 ∷ []

abbrev p : List ℕ
p = tag start_tag 0 0

abbrev q : List ℕ
q = tag start_tag 0 1

abbrev /p : List ℕ
/p = tag end_tag 0 0

abbrev /q : List ℕ
/q = tag end_tag 0 1

-- the end tag p whose name stands in the second store
abbrev /p' : List ℕ
/p' = tag end_tag 1 0

abbrev opening : List ℕ
opening = start_document ∷ 0 ∷ 0 ∷ 0 ∷ 0 ∷ 0 ∷ 0 ∷ 0 ∷ []

abbrev ending : List ℕ
ending = end_document ∷ 0 ∷ 0 ∷ 0 ∷ 0 ∷ 0 ∷ 0 ∷ 0 ∷ []

-- q="3", and the text p
abbrev three : List ℕ
three = attribute ∷ 0 ∷ 1 ∷ 1 ∷ int ∷ 0 ∷ 0 ∷ 3 ∷ []

unfoldable pub says : ℕ → List ℕ
says kind = kind ∷ 0 ∷ 0 ∷ 0 ∷ string ∷ 0 ∷ 0 ∷ 1 ∷ []

abbrev said : List ℕ
said = says text

abbrev note : List ℕ
note = says comment

-- a row so many times, and after it more
unfoldable pub times : ℕ → List ℕ → List ℕ → List ℕ
times zero row more = more
times (suc n) row more = row ++ times n row more

pub record Case : Type 0 where
  pub words : List ℕ
  pub answer : Answer

unfoldable pub cases : List Case
cases =
    record { words = []; answer = no }
    ∷ record { words = p ++ /p; answer = yes }
    ∷ record { words = p ++ /p'; answer = yes }
    ∷ record { words = p ++ /q; answer = no }
    ∷ record { words = p; answer = no }
    ∷ record { words = /p; answer = no }
    ∷ record { words = p ++ (q ++ (/p ++ /q)); answer = no }
    ∷ record { words = p ++ (/p ++ /p); answer = no }
    ∷ record { words = opening ++ (p ++ (three ++ (said ++ (q ++ (three ++ (/q ++ (q ++ (/q ++ (/p ++ ending))))))))); answer = yes }
    ∷ record { words = p ++ (/p ++ (q ++ /q)); answer = no }
    ∷ record { words = said ++ (p ++ /p); answer = no }
    ∷ record { words = p ++ (/p ++ said); answer = no }
    ∷ record { words = says cdata ++ (p ++ /p); answer = no }
    ∷ record { words = p ++ (/p ++ says entity_ref); answer = no }
    ∷ record { words = opening ++ (says doc_decl ++ (note ++ (says processing_instruction ++ (says ignorable_whitespace ++ (p ++ (/p ++ (note ++ (says doc_decl ++ ending)))))))); answer = yes }
    ∷ record { words = p ++ (note ++ (says doc_decl ++ (says cdata ++ (says entity_ref ++ /p)))); answer = yes }
    ∷ record { words = note ++ (opening ++ (p ++ /p)); answer = no }
    ∷ record { words = opening ++ (opening ++ (p ++ /p)); answer = no }
    ∷ record { words = p ++ (opening ++ /p); answer = no }
    ∷ record { words = p ++ (ending ++ /p); answer = no }
    ∷ record { words = ending ++ (p ++ /p); answer = no }
    ∷ record { words = p ++ (/p ++ (ending ++ note)); answer = no }
    ∷ record { words = p ++ (/p ++ (ending ++ ending)); answer = no }
    ∷ record { words = opening ++ ending; answer = no }
    ∷ record { words = opening; answer = no }
    ∷ record { words = note; answer = no }
    ∷ record { words = times 64 p (times 64 /p []); answer = yes }
    ∷ record { words = times 65 p (times 65 /p []); answer = no }
    ∷ record { words = /p ++ three; answer = refused 16 0 }
    ∷ record { words = /p ++ (1 ∷ []); answer = refused 16 0 }
    ∷ record { words = /p ++ tag start_tag 1 1; answer = refused 16 0 }
    ∷ []

pub runs : map (λ c. N.nesting first second c.words) cases ≡ map (λ c. c.answer) cases
unfolding tag says times cases Span.part Span.span Span.span_in Span.same Row.shapes Row.shape Row.has_name Row.value_at Row.row_at Row.rows_at Words.zeros Words.value_forms Words.attribute_forms Words.row_forms Words.row_forms_in Words.opens Words.rows_form Words.list_forms N.after N.innermost N.fits N.balanced N.outer N.count N.among N.all_among N.every N.document N.nesting
runs = refl
