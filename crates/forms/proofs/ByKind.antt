-- Which words form a row, by its kind.
use Rattle.std.proofs.Common.{Bool, List, ◌≡◌, ℕ, ◌&&◌, ◌≤◌, ◌<◌, eqb, get_or, arith, lt-ltb, le-ltb, le-leb}
use Rattle.wire.specs.Token.{start_tag, text, doc_decl, string}
use Rattle.event.specs.Span.{span_in}
use Rattle.event.specs.Words.{zeros, row_forms, row_forms_in}

module _ (first second : List ℕ) (inside : Bool) (w : List ℕ) where
  abbrev kind : ℕ
  kind = get_or w 0 0

  abbrev named : Bool
  named = span_in first second (get_or w 1 0) (get_or w 2 0) (get_or w 3 0)

  abbrev valued : Bool
  valued = span_in first second (get_or w 5 0) (get_or w 6 0) (get_or w 7 0)

  abbrev Forms : Bool
  Forms = row_forms_in first second inside w

  pub document-forms : kind < start_tag → zeros w 1 7 ≡ Forms
  unfolding row_forms_in row_forms
  document-forms h = rw (lt-ltb kind start_tag h)

  pub tag-forms : start_tag ≤ kind → kind < text → (named && zeros w 4 4) ≡ Forms
  unfolding row_forms_in row_forms
  tag-forms l h = rw (le-ltb kind start_tag l, lt-ltb kind text h)

  pub text-forms : text ≤ kind → kind ≤ doc_decl → (eqb (get_or w 4 0) string && (valued && zeros w 1 3)) ≡ Forms
  unfolding row_forms_in row_forms
  text-forms l h = rw (le-ltb kind start_tag (omega arith), le-ltb kind text l, le-leb kind doc_decl h)
