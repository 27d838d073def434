use Rattle.std.proofs.Common.{◌≡◌, ap, ◌∙◌, List, ℕ, take, arith, lt-ltb}
use Rattle.event.proofs.Rows.{row-found, word-of-eight, attribute-of-eight}
use Rattle.attribute_values.specs.Value.{row_value, attribute_value}
use Rattle.attribute_values.proofs.attribute_value.Goals as goal

-- a row's value is that of its eight words
value-of-eight : (w : List ℕ) → row_value (take 8 w) ≡ row_value w
unfolding row_value
value-of-eight w =
    rw (
      attribute-of-eight,
      word-of-eight w 0 (omega arith),
      word-of-eight w 1 (omega arith),
      word-of-eight w 4 (omega arith),
      word-of-eight w 5 (omega arith),
      word-of-eight w 6 (omega arith),
      word-of-eight w 7 (omega arith),
    )

pub returns : goal.returns
unfolding attribute_value
returns c =
    let found =
    row-found c.args.rows.now c.args.row c.in_ok-words.words (rw (c.as_chunks.ensures.front, c.ok_or.ensures.ok_part, c.in_ok-words.was) at c.get.ensures.lookup) (rw c.as_chunks.ensures.front at c.as_chunks.ensures.front_len)
    in
    rw (lt-ltb _ _ found.0) (c.row_value.ensures ∙ ap row_value found.1 ∙ value-of-eight _)
