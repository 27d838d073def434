-- Where attributes stand.
use Rattle.std.specs.Prelude.{Bool, true, false, ◌&&◌, ◌||◌, not, List, [], ◌∷◌, ◌≡◌, refl, ℕ, zero, suc, ◌/◌, ◌%◌, eqb, length, get_or, drop}
use Rattle.std.proofs.lemmas.Bool.{false≢true}
use Rattle.std.proofs.Common.{sym, ◌∙◌, eqb-true}
use Rattle.wire.specs.Token.{attribute}
use Rattle.event.specs.Row.{Row, row_at, rows_at}
use Rattle.event.specs.Words.{opens, row_forms, row_forms_in, rows_form, list_forms}
use Rattle.event.specs.Laws.{both}

-- each attribute comes after a start tag or another attribute; `inside` says that one may stand first
unfoldable pub placed : Bool → List Row → Bool
placed inside [] = true
placed inside (r ∷ rs) = (not (eqb r.kind attribute) || inside) && placed (opens r.kind) rs

-- rows that form do
row-placed : (first second : List ℕ) (inside : Bool) (w : List ℕ) → row_forms_in first second inside w ≡ true
    → (not (eqb (get_or w 0 0) attribute) || inside) ≡ true
unfolding row_forms_in row_forms
row-placed first second inside w h = by (eqb (get_or w 0 0) attribute) inside refl refl
  where
    by : (b i : Bool) → eqb (get_or w 0 0) attribute ≡ b → inside ≡ i → (not b || i) ≡ true
    by false i a o = refl
    by true true a o = refl
    by true false a o =
        let no : row_forms_in first second false w ≡ false = rw (eqb-true (get_or w 0 0) attribute a) in
        absurd (false≢true (sym no ∙ (rw o at h)))

pub form-placed : (first second : List ℕ) (inside : Bool) (n : ℕ) (w : List ℕ) → rows_form first second inside n w ≡ true → placed inside (rows_at first second n w) ≡ true
unfolding rows_form placed rows_at row_at
form-placed first second inside zero w h = refl
form-placed first second inside (suc n) w h =
    let parts = both (row_forms_in first second inside w) (rows_form first second (opens (get_or w 0 0)) n (drop 8 w)) h in
    rw (row-placed first second inside w parts.0) (form-placed first second (opens (get_or w 0 0)) n (drop 8 w) parts.1)

-- those of an event list
pub list-placed : (first second : List ℕ) (w : List ℕ) → list_forms first second w ≡ true → placed false (rows_at first second (length w / 8) w) ≡ true
unfolding list_forms
list-placed first second w h = by (eqb (length w % 8) 0) refl
  where
    by : (b : Bool) → eqb (length w % 8) 0 ≡ b → placed false (rows_at first second (length w / 8) w) ≡ true
    by true e = form-placed first second false (length w / 8) w (rw e at h)
    by false e = absurd (false≢true (rw e at h))
