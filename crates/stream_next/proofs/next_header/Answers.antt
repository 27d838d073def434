use Rattle.std.proofs.Common.{sym, ap, ◌∙◌, arith}
use Rattle.std.proofs.lemmas.Result.{err_from_is_err_and}
use Rattle.stream.specs.Answers.{stream_of, lend}
use Rattle.stream_next.proofs.Magic.{not-true, header-waits, header-seen, header-there, by_check}
use Rattle.stream_next.proofs.next_header.Goals as goal

pub returns-then-not-stream : goal.returns-then-not-stream
returns-then-not-stream c =
    let a = c.args in
    let r = stream_of a.stream in
    header-waits r (lend a.window.now a.table.now a.store.now) a.rows.now c.requires c.if-waiting-lt4.true (not-true r.finished c.if-not-stream.true)

pub returns-in_err-check_magic : goal.returns-in_err-check_magic
returns-in_err-check_magic c =
    let a = c.args in
    let r = stream_of a.stream in
    let l = lend a.window.now a.table.now a.store.now in
    let e = err_from_is_err_and c.from_residual.result c.from_residual.ensures.1 in
    rw (e.1, e.2)
    (ap (by_check r l a.rows.now) c.in_err-check_magic.ensures
    ∙ header-seen r l a.rows.now c.requires (λ k. grind arith))

pub next_from-requires-clause-from_le_end : goal.next_from-requires-clause-from_le_end
next_from-requires-clause-from_le_end c =
    let a = c.args in
    header-there (stream_of a.stream) (lend a.window.now a.table.now a.store.now) a.rows.now c.requires (sym c.in_ok-check_magic.ensures)

pub returns : goal.returns
returns c =
    let a = c.args in
    let r = stream_of a.stream in
    let l = lend a.window.now a.table.now a.store.now in
    c.next_from.ensures
    ∙ ap (by_check r l a.rows.now) c.in_ok-check_magic.ensures
    ∙ header-seen r l a.rows.now c.requires (λ k. grind arith)
