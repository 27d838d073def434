use Rattle.std.proofs.Common.{rules, arith, sym}
use Rattle.slice.specs.Answers.{place_of}
use Rattle.slice.proofs.Onward.{at-end, sums, goes}
use Rattle.slice.proofs.next_read.Goals as goal

pub returns-then-at-document : goal.returns-then-at-document
returns-then-at-document c =
    let a = c.args in
    at-end (place_of a.place) a.document.now a.pool.now a.rows.now c.if-at-document.true

pub overflow_add-result : goal.overflow_add-result
overflow_add-result c =
    let a = c.args in
    let h = sums (place_of a.place) a.document.now a.pool.now a.rows.now _ c.requires _ _ _ _ _ _ _ (sym (rw c.in-Some.is at c.in_ok-read.ensures)) in
    omega (arith, h.0, c.requires.document-small)

pub overflow_add-result-in-Some : goal.overflow_add-result-in-Some
overflow_add-result-in-Some c =
    let a = c.args in
    let h = sums (place_of a.place) a.document.now a.pool.now a.rows.now _ c.requires _ _ _ _ _ _ _ (sym (rw c.in-Some.is at c.in_ok-read.ensures)) in
    omega (arith, h.1, c.requires.table-small)

pub returns-in-Some : goal.returns-in-Some
returns-in-Some c =
    let a = c.args in
    goes (place_of a.place) a.document.now a.pool.now a.rows.now _ c.requires _ (sym (rw c.in-Some.is at c.in_ok-read.ensures)) c.if-at-document.false

pub returns-in-None : goal.returns-in-None
returns-in-None c =
    let a = c.args in
    goes (place_of a.place) a.document.now a.pool.now a.rows.now _ c.requires _ (sym (rw c.in-None.is at c.in_ok-read.ensures)) c.if-at-document.false

pub returns-in_err-read : goal.returns-in_err-read
returns-in_err-read c =
    let a = c.args in
    let x = goes (place_of a.place) a.document.now a.pool.now a.rows.now _ c.requires _ (sym c.in_err-read.ensures) c.if-at-document.false in
    search rules
