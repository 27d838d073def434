-- The call for one row, row after row, gives what the call for the list gives.
use Rattle.std.specs.Prelude.{Bool, ◌&&◌, not, ◌⊎◌, length, ltb, eqb}
use Rattle.std.proofs.Math.Bool.{true, false, cond, and-eq-true_iff}
use Rattle.std.proofs.lemmas.Bool.{false≢true}
use Rattle.std.proofs.Math.Logic.{inl, inr, ⊎_elim}
use Rattle.std.proofs.Math.Option.{none, some}
use mathlib.Core.List.{List, [], ◌∷◌, ◌++◌}
use Rattle.std.proofs.Math.Path.{◌≡◌, refl, ap, subst}
use Rattle.std.proofs.Common.{sym, ◌∙◌, length-drop}
use Prim.Native.Nat.{ℕ, zero, suc, ◌+◌, ◌*◌, ◌-◌, ◌/◌, ◌%◌, ◌≤◌, ◌<◌}
use native.Mathlib.Omega.{arith}
use borrow.Author.Tests.{lt-ltb, le-ltb, ne_eqb, not-false}
use Rattle.std.proofs.Math.ListN.{drop, get_or}
use Rattle.std.proofs.lemmas.List.Edits.{sets}
use Rattle.std.proofs.Math.Seq.{drop-drop, get_or-drop}
use Rattle.wire.specs.Refusal.{bad_size, not_rows, invalid_utf8, illegal_char, output_full}
use Rattle.wire.specs.Limits.{max_store}
use Rattle.utf8.specs.Utf8.{well_formed}
use Rattle.event.specs.Row.{Row, row_at, rows_at}
use Rattle.event.specs.Words.{opens, row_forms_in, rows_form, list_forms}
use Rattle.forms.specs.Placed.{inside_at, row_forms_at}
use Rattle.grammar.proofs.Choice.{by_test}
use Rattle.writer_spec.specs.Faults.{group}
use Rattle.writer_spec.proofs.Taken.{no-faults}
use Rattle.writer_spec.proofs.Unrefused.{no-refuse}
use Rattle.writer_spec.specs.Writer.{Refusal, ◌before◌, refuse_if, rows_in, ends}
use Rattle.xml_spec.specs.Chars.{legal}
use Rattle.xml_spec.specs.Xml.{xml}
use Rattle.xml_spec.specs.ToXml.{of_row, events_refusal, refusal, wrote, unless, to_xml}
use Rattle.xml_spec.specs.Rows.{row_xml, rows_xml, end_refusal, rows_refusal, row_text, row_refusal, row_to_xml}
use Rattle.event.specs.Attributes.{list-placed}
use Rattle.xml_spec.proofs.Joined.{rows-joined, rows-refused}

module _ (first second rows : List ℕ) where
  -- the texts of so many rows from one on
  unfoldable pub row_texts : ℕ → ℕ → List ℕ
  row_texts row zero = []
  row_texts row (suc n) = row_text first second rows row ++ row_texts (suc row) n

  -- the rows from one on are those of the words from its place on
  rest-rows : (row n : ℕ) → row + suc n ≡ length rows / 8 → rows_in first second (drop (8 * row + 8) rows) ≡ rows_at first second n (drop 8 (drop (8 * row) rows))
  rest-rows row n e =
      let m : length (drop (8 * row + 8) rows) / 8 ≡ n = omega (arith, length-drop (8 * row + 8) rows) in
      rw (m, drop-drop 8 (8 * row) rows)

  texts-from : (row n : ℕ) → row + n ≡ length rows / 8 → row_texts row n ≡ rows_xml (rows_at first second n (drop (8 * row) rows))
  unfolding row_texts row_text rows_at rows_xml
  texts-from row zero e = refl
  texts-from row (suc n) e =
      let k : 8 * row + 8 ≡ 8 * suc row = omega arith in
      let d : drop 8 (drop (8 * row) rows) ≡ drop (8 * suc row) rows = drop-drop 8 (8 * row) rows ∙ ap (λ (j : ℕ). drop j rows) k in
      rw (rest-rows row n e, texts-from (suc row) n (omega arith), d)

  -- the texts of all rows joined are the text of the list
  pub texts-joined : list_forms first second rows ≡ true → row_texts 0 (length rows / 8) ≡ xml (group (rows_in first second rows))
  texts-joined h = texts-from 0 (length rows / 8) (omega arith) ∙ rows-joined (rows_in first second rows) (list-placed first second rows h)

  moved : (a b : Bool) (v w : List ℕ) → a ≡ b → v ≡ w → row_forms_in first second a v ≡ true → row_forms_in first second b w ≡ true
  moved a b v w e f h = rw (← e, ← f) h

  -- a row of a list that forms
  row-forms : (n row : ℕ) (inside : Bool) (w : List ℕ) → rows_form first second inside n w ≡ true → row < n
      → row_forms_in first second (cond (eqb row 0) inside (opens (get_or w (8 * (row - 1)) 0))) (drop (8 * row) w) ≡ true
  unfolding rows_form
  row-forms zero row inside w h l = absurd (omega arith)
  row-forms (suc n) zero inside w h l = ((and-eq-true_iff _ _).0 h).0
  row-forms (suc n) (suc zero) inside w h l = row-forms n zero (opens (get_or w 0 0)) (drop 8 w) ((and-eq-true_iff (row_forms_in first second inside w) _).0 h).1 (omega arith)
  row-forms (suc n) (suc (suc row)) inside w h l =
      let k : 8 + 8 * suc row ≡ 8 * suc (suc row) = omega arith in
      let d : drop (8 * suc row) (drop 8 w) ≡ drop (8 * suc (suc row)) w = drop-drop (8 * suc row) 8 w ∙ ap (λ (j : ℕ). drop j w) k in
      let i : 8 + 8 * (suc row - 1) ≡ 8 * (suc (suc row) - 1) = omega arith in
      let g : get_or (drop 8 w) (8 * (suc row - 1)) 0 ≡ get_or w (8 * (suc (suc row) - 1)) 0 = get_or-drop 8 w (8 * (suc row - 1)) 0 ∙ ap (λ (j : ℕ). get_or w j 0) i in
      let e : cond (eqb (suc row) 0) (opens (get_or w 0 0)) (opens (get_or (drop 8 w) (8 * (suc row - 1)) 0)) ≡ cond (eqb (suc (suc row)) 0) inside (opens (get_or w (8 * (suc (suc row) - 1)) 0)) = rw (ne_eqb (suc row) 0 (λ z. omega arith), ne_eqb (suc (suc row)) 0 (λ z. omega arith)) (ap opens g) in
      moved _ _ _ _ e d (row-forms n (suc row) (opens (get_or w 0 0)) (drop 8 w) ((and-eq-true_iff (row_forms_in first second inside w) _).0 h).1 (omega arith))

  list-row-forms : (row : ℕ) → list_forms first second rows ≡ true → row < length rows / 8 → row_forms_at first second rows row ≡ true
  unfolding list_forms row_forms_at inside_at
  list-row-forms row h l =
      by_test (eqb (length rows % 8) 0)
      (λ e. rw (lt-ltb row (length rows / 8) l) (row-forms (length rows / 8) row false rows (sym (rw e) ∙ h) l))
      (λ e. absurd (false≢true (sym (rw e) ∙ h)))

  -- a row's strings are neither broken nor illegal
  Good : Row → Type 0
  Good r = (of_row well_formed r ≡ true) × (of_row legal r ≡ true)

  ended : (room at : ℕ) (still : Bool) (f : Refusal) → (end_refusal room at still before f) ≡ none → (still ≡ true) × (f ≡ none)
  unfolding end_refusal
  ended room at still f h =
      let a = no-faults (refuse_if (not still) illegal_char before refuse_if (ltb room at) output_full) f h in
      (not-false still (no-refuse _ illegal_char (no-faults (refuse_if (not still) illegal_char) _ a.0).0), a.1)

  chosen : (t : Bool) (x y z : Refusal) → cond t x y ≡ z → ((t ≡ true) × (x ≡ z)) ⊎ ((t ≡ false) × (y ≡ z))
  chosen true x y z h = inl (refl, h)
  chosen false x y z h = inr (refl, h)

  -- of rows that are not refused the first, and what is left for those after it
  row-good : (room at : ℕ) (ok : Bool) (r : Row) (rs : List Row) → rows_refusal room at ok (r ∷ rs) ≡ none
      → (of_row well_formed r ≡ true)
      × (((ok && of_row legal r ≡ true) × (rows_refusal room (at + length (row_xml (ends rs) r)) true rs ≡ none))
      ⊎ ((ends rs ≡ false) × (rows_refusal room (at + length (row_xml (ends rs) r)) (ok && of_row legal r) rs ≡ none)))
  unfolding rows_refusal
  row-good room at ok r rs h =
      let a = no-faults (refuse_if (not (of_row well_formed r)) invalid_utf8) _ h in
      (not-false _ (no-refuse _ invalid_utf8 a.0), ⊎_elim (λ c. inl (ended room _ _ _ c.1)) (λ c. inr c) (chosen (ends rs) _ _ none a.1))

  -- rows that are not refused
  rows-good : (n row room at : ℕ) (ok : Bool) (w : List ℕ) → rows_refusal room at ok (rows_at first second (suc n) w) ≡ none → row < suc n
      → (ok ≡ true) × Good (row_at first second (drop (8 * row) w))
  unfolding rows_at Good ends
  rows-good zero zero room at ok w h l =
      let a = row-good room at ok (row_at first second w) [] h in
      ⊎_elim (λ c. let b = (and-eq-true_iff ok _).0 c.0 in (b.0, (a.0, b.1))) (λ c. absurd (false≢true (sym c.0))) a.1
  rows-good zero (suc row) room at ok w h l = absurd (omega arith)
  rows-good (suc n) zero room at ok w h l =
      let a = row-good room at ok (row_at first second w) (rows_at first second (suc n) (drop 8 w)) h in
      let go : (ok && of_row legal (row_at first second w) ≡ true) → (ok ≡ true) × Good (row_at first second w) = λ c. let b = (and-eq-true_iff ok _).0 c in (b.0, (a.0, b.1)) in
      ⊎_elim (λ c. go c.0) (λ c. go (rows-good n zero room _ _ (drop 8 w) c.1 (omega arith)).0) a.1
  rows-good (suc n) (suc row) room at ok w h l =
      let a = row-good room at ok (row_at first second w) (rows_at first second (suc n) (drop 8 w)) h in
      let k : 8 + 8 * row ≡ 8 * suc row = omega arith in
      let d : drop (8 * row) (drop 8 w) ≡ drop (8 * suc row) w = drop-drop (8 * row) 8 w ∙ ap (λ (j : ℕ). drop j w) k in
      ⊎_elim
      (λ c. (((and-eq-true_iff ok _).0 c.0).0, subst (λ (v : List ℕ). Good (row_at first second v)) d (rows-good n row room _ _ (drop 8 w) c.1 (omega arith)).1))
      (λ c. let b = rows-good n row room _ _ (drop 8 w) c.1 (omega arith) in (((and-eq-true_iff ok _).0 b.0).0, subst (λ (v : List ℕ). Good (row_at first second v)) d b.1))
      a.1

  -- a list that is printed was not refused
  accepted : (out : List ℕ) (n : ℕ) → (to_xml first second rows out).reply ≡ wrote n → refusal first second rows out ≡ none
  unfolding to_xml unless
  accepted out n h = go (refusal first second rows out) h
    where
      go : (f : Refusal) → (unless f out (xml (group (rows_in first second rows)))).reply ≡ wrote n → f ≡ none
      go none e = refl
      go (some (m, k)) e = absurd (let z : ◌≡◌ {A = ℕ} 0 1 = cc e in omega arith)

  list-good : (m row : ℕ) (out : List ℕ) → length rows / 8 ≡ suc m → row < suc m → events_refusal (length out) 0 (group (rows_in first second rows)) ≡ none
      → list_forms first second rows ≡ true → Good (row_at first second (drop (8 * row) rows))
  list-good m row out e l h f =
      let r = rows-refused (length out) 0 (rows_in first second rows) (list-placed first second rows f) ∙ h in
      (rows-good m row (length out) 0 true rows (subst (λ (k : ℕ). rows_refusal (length out) 0 true (rows_at first second k rows) ≡ none) e r) l).1

  -- each row of a list that is printed is printed by the call for one row, wherever there is room for it
  pub row-printed : (row n : ℕ) (out out' : List ℕ) → (to_xml first second rows out).reply ≡ wrote n → row < length rows / 8 → length out' ≤ max_store
      → length (row_text first second rows row) ≤ length out'
      → row_to_xml first second rows row out' ≡ record { reply = wrote (length (row_text first second rows row)); out = sets out' 0 (row_text first second rows row) }
  unfolding refusal row_to_xml row_refusal end_refusal unless Good
  row-printed row n out out' h l big room =
      let a = no-faults (refuse_if (ltb max_store (length out)) bad_size) _ (accepted out n h) in
      let b = no-faults (refuse_if (not (list_forms first second rows)) not_rows) _ a.1 in
      let f : list_forms first second rows ≡ true = not-false _ (no-refuse _ not_rows b.0) in
      let good = list-good (length rows / 8 - 1) row out (omega arith) (omega arith) b.1 f in
      rw (le-ltb max_store (length out') big, list-row-forms row f l, good.0, good.1, le-ltb (length out') (length (row_text first second rows row)) room)
