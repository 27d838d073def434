use Rattle.std.proofs.Common.{◌≡◌, ◌∙◌, ◌*◌, ◌/◌, length, lt-ltb, le-ltb, arith}
use Rattle.event.proofs.Rows.{row-found, forms-of-eight}
use Rattle.forms.specs.Placed.{row_forms_at}
use Rattle.forms.proofs.Rows.{inside-same}
use Rattle.forms.proofs.row_forms_at.Goals as goal

pub returns-in-Some : goal.returns-in-Some
unfolding row_forms_at
returns-in-Some c =
    let a = c.args in
    let w = a.rows.now in
    let found = row-found w a.row c.in-Some.words (rw c.as_chunks.ensures.front at c.in-Some.ensures.lookup) (rw c.as_chunks.ensures.front at c.as_chunks.ensures.front_len) in
    let inside = (rw c.as_chunks.ensures.front at c.inside_at.ensures) ∙ inside-same w (length w / 8) a.row found.0 in
    let place : a.row * 8 ≡ 8 * a.row = omega arith in
    rw (lt-ltb _ _ found.0) (c.row_forms_in.ensures ∙ rw (inside, found.1, forms-of-eight, place))

pub returns-in-None : goal.returns-in-None
unfolding row_forms_at
returns-in-None c = rw (le-ltb c.args.row (length c.args.rows.now / 8) (omega (arith, c.as_chunks.ensures.front_len, c.in-None.ensures.lookup)))
