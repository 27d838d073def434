use Rattle.std.proofs.Common.{ap, ◌∙◌, lt-ltb, ◌*◌, drop}
use Rattle.event.specs.Laws.{row-of-eight}
use Rattle.event.specs.Row.{Row, row_at}
use Rattle.event.proofs.Rows.{row-found}
use Rattle.listing.specs.Line.{line, put, put_row}
use Rattle.listing.proofs.line.Goals as goal

pub returns : goal.returns
unfolding put_row
returns c =
    let f = c.args.first.now in
    let s = c.args.second.now in
    let rows = c.args.rows.now in
    let found = row-found rows c.args.row c.in_ok-w.w (rw (c.as_chunks.ensures.front, c.ok_or.ensures.ok_part, c.in_ok-w.was) at c.get.ensures.lookup) (rw c.as_chunks.ensures.front at c.as_chunks.ensures.front_len) in
    let same = ap (row_at f s) found.1 ∙ row-of-eight f s (drop (c.args.row * 8) rows) in
    rw (lt-ltb _ _ found.0) (c.put_row.ensures ∙ ap (λ (r : Row). put (line r) c.args.out.now) same)
