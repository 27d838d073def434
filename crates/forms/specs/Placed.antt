-- A row that forms where it stands in a list.
use Rattle.std.specs.Prelude.{Bool, false, cond, List, ℕ, ◌*◌, ◌-◌, ◌/◌, ltb, eqb, length, get_or, drop}
use Rattle.event.specs.Words.{row_forms_in, opens}

-- an attribute may stand at a row: the row before it, if any, is a start tag or another attribute
unfoldable pub inside_at : List ℕ → ℕ → Bool
inside_at rows row = cond (eqb row 0) false (opens (get_or rows (8 * (row - 1)) 0))

-- the row of this number, counted from 0: there is one, and its eight words form one there
unfoldable pub row_forms_at : List ℕ → List ℕ → List ℕ → ℕ → Bool
row_forms_at first second rows row = cond (ltb row (length rows / 8)) (row_forms_in first second (inside_at rows row) (drop (8 * row) rows)) false
