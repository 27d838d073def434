use Rattle.std.proofs.Common.{sym, refl, ◌∙◌}
use Rattle.std.proofs.lemmas.Result.{err_from_is_err_and}
use Rattle.stream.specs.Answers.{stream_of, lend}
use Rattle.stream_next.proofs.Onward.{full, room, ends, goes, sums}
use Rattle.stream_next.proofs.next_from.Goals as goal

pub returns-then-at_end : goal.returns-then-at_end
returns-then-at_end c =
    let a = c.args in
    let r = stream_of a.stream in
    let l = lend a.window.now a.table.now a.store.now in
    rw c.passed.ensures (ends r l a.from a.rows.now (sym c.at_end.ensures ∙ c.if-at_end.true))

pub returns-in_err-event : goal.returns-in_err-event
returns-in_err-event c =
    let a = c.args in
    let p = c.requires in
    let r = stream_of a.stream in
    let l = lend a.window.now a.table.now a.store.now in
    let e = err_from_is_err_and c.from_residual.result c.from_residual.ensures.1 in
    rw (e.1, e.2) (goes r l a.from a.rows.now p.fits p.from_le_end _ c.in_err-event.ensures (sym c.at_end.ensures ∙ c.if-at_end.false))

pub advanced-requires : goal.advanced-requires
advanced-requires c =
    let a = c.args in
    let p = c.requires in
    let r = stream_of a.stream in
    let l = lend a.window.now a.table.now a.store.now in
    let e = rw c.in-Some.is at c.in_ok-event.ensures in
    sums r l a.from a.rows.now p.fits p.from_le_end _ _ _ _ _ e refl

pub returns-in-Some : goal.returns-in-Some
returns-in-Some c =
    let a = c.args in
    let p = c.requires in
    let r = stream_of a.stream in
    let l = lend a.window.now a.table.now a.store.now in
    let e = rw c.in-Some.is at c.in_ok-event.ensures in
    rw c.advanced.ensures (goes r l a.from a.rows.now p.fits p.from_le_end _ e (sym c.at_end.ensures ∙ c.if-at_end.false))

pub returns-in-None : goal.returns-in-None
returns-in-None c =
    let a = c.args in
    let p = c.requires in
    let r = stream_of a.stream in
    let l = lend a.window.now a.table.now a.store.now in
    let e = rw c.in-None.is at c.in_ok-event.ensures in
    full r l a.from _ _ _ c.if-waiting-window.true ∙ goes r l a.from a.rows.now p.fits p.from_le_end _ e (sym c.at_end.ensures ∙ c.if-at_end.false)

pub returns-in-None-2 : goal.returns-in-None-2
returns-in-None-2 c =
    let a = c.args in
    let p = c.requires in
    let r = stream_of a.stream in
    let l = lend a.window.now a.table.now a.store.now in
    let e = rw c.in-None-2.is at c.in_ok-event.ensures in
    rw c.passed-in-None-2.ensures
    (room r l a.from _ _ _ c.if-waiting-window.false ∙ goes r l a.from a.rows.now p.fits p.from_le_end _ e (sym c.at_end.ensures ∙ c.if-at_end.false))
