use Rattle.std.proofs.Common.{arith}
use Rattle.std.proofs.lemmas.Result.{err_from_is_err_and}
use Rattle.stream_read.proofs.Along.{begins, here, read-more, unread}
use Rattle.stream_read.proofs.Events.{event-within}
use Rattle.stream_read.proofs.next_event.Goals as goal

pub loop-count-init : goal.loop-count-init
loop-count-init g c = begins _ _ _ _

pub loop-count-preserved : goal.loop-count-preserved
loop-count-preserved g c =
    read-more _ _ _ _ _ c.loop-count.reader _ _ c.loop-count.invariant c.in-NeedMore.stream _ _ (rw c.in-NeedMore.is at c.in_ok-count.ensures) _ _ _ c.in_ok-reader-in-NeedMore.ensures

pub returns-in_err-count-clause-fetches : goal.returns-in_err-count-clause-fetches
returns-in_err-count-clause-fetches g c =
    let e = err_from_is_err_and c.from_residual.result c.from_residual.ensures.1 in
    rw (e.1, e.2) (here _ _ _ _ _ c.loop-count.reader _ _ c.loop-count.invariant c.loop-count.reader _ _ _ c.in_err-count.ensures)

pub returns-in-Event-clause-fetches : goal.returns-in-Event-clause-fetches
returns-in-Event-clause-fetches g c =
    here _ _ _ _ _ c.loop-count.reader _ _ c.loop-count.invariant c.loop-count.reader _ _ _ (rw c.in-Event.is at c.in_ok-count.ensures)

pub returns-in-Event-clause-within : goal.returns-in-Event-clause-within
returns-in-Event-clause-within g c =
    let within = event-within _ _ _ c.loop-count.rows _ c.loop-count.reader c.in-Event.stream _ c.in-Event.count c.in_ok-count.ensures c.in-Event.is in
    omega (arith, within, c.loop-count.auto.rows)

pub returns-then-reads-clause-fetches : goal.returns-then-reads-clause-fetches
returns-then-reads-clause-fetches g c =
    here _ _ _ _ _ c.loop-count.reader _ _ c.loop-count.invariant c.in-NeedMore.stream _ _ _ (rw c.in-NeedMore.is at c.in_ok-count.ensures)

pub returns-in_err-reader-in-NeedMore-clause-fetches : goal.returns-in_err-reader-in-NeedMore-clause-fetches
returns-in_err-reader-in-NeedMore-clause-fetches g c =
    let r = c.from_residual-in_err-reader-in-NeedMore in
    let e = err_from_is_err_and r.result r.ensures.1 in
    rw (e.1, e.2)
    (unread _ _ _ _ _ c.loop-count.reader _ _ c.loop-count.invariant c.in-NeedMore.stream _ _ (rw c.in-NeedMore.is at c.in_ok-count.ensures) _ _ _ c.in_err-reader-in-NeedMore.ensures)

pub returns-in-End-clause-fetches : goal.returns-in-End-clause-fetches
returns-in-End-clause-fetches g c =
    here _ _ _ _ _ c.loop-count.reader _ _ c.loop-count.invariant c.in-End.field-0 _ _ _ (rw c.in-End.is at c.in_ok-count.ensures)
