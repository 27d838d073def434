use Rattle.std.proofs.Common.{arith, get_or}
use Rattle.event.specs.Laws.{span-short}
use Rattle.listing.proofs.Texts.{row_put, value-bytes, value-word, value-pair, value-none}
use Rattle.listing.proofs.put_row.Goals as goal

pub put_line-requires : goal.put_line-requires
put_line-requires c =
    let w = c.args.w.now in
    (c.name_of-name.ensures.short, rw c.span-value.ensures.bytes (omega (arith, span-short c.args.first.now c.args.second.now (get_or w 5 0) (get_or w 6 0) (get_or w 7 0), c.fits-w 7)))

pub returns-in-String : goal.returns-in-String
returns-in-String c =
    let f = c.args.first.now in
    let s = c.args.second.now in
    let w = c.args.w.now in
    row_put f s w _ _ c.args.out.now _ c.put_line.ensures c.name_of-name.ensures.shown (rw c.span-value.ensures.bytes (value-bytes f s w _ c.in-String.is c.shape_of.ensures))

pub returns-in-Word : goal.returns-in-Word
returns-in-Word c =
    let f = c.args.first.now in
    let s = c.args.second.now in
    let w = c.args.w.now in
    row_put f s w _ _ c.args.out.now _ c.put_line-in-Word.ensures c.name_of-name.ensures.shown (rw c.word.ensures (value-word f s w _ c.in-Word.is c.shape_of.ensures))

pub returns-in-Pair : goal.returns-in-Pair
returns-in-Pair c =
    let f = c.args.first.now in
    let s = c.args.second.now in
    let w = c.args.w.now in
    row_put f s w _ _ c.args.out.now _ c.put_line-in-Pair.ensures c.name_of-name.ensures.shown (rw c.pair.ensures (value-pair f s w _ c.in-Pair.is c.shape_of.ensures))

pub returns-in-Nothing : goal.returns-in-Nothing
returns-in-Nothing c =
    let f = c.args.first.now in
    let s = c.args.second.now in
    let w = c.args.w.now in
    row_put f s w _ _ c.args.out.now _ c.put_line-in-Nothing.ensures c.name_of-name.ensures.shown (value-none f s w _ c.in-Nothing.is c.shape_of.ensures)
