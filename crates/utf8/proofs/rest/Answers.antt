-- `utf8::rest` meets its contract. The invariant of its loop is `Place`: s is read up to k.
-- Assumes nothing.
use Rattle.std.proofs.Common.{refl, sym, ◌∙◌, rules, arith}
use Rattle.utf8.proofs.Ascii.{joined, later}
use Rattle.utf8.proofs.Place.{start, past_ascii, past-block, at-end}
use Rattle.utf8.proofs.rest.Goals as goal

pub loop-k-init : goal.loop-k-init
loop-k-init c = (omega arith, start _ _ (omega arith) (omega arith) c.requires.3)

pub loop-k-preserved-then-is_ascii_at : goal.loop-k-preserved-then-is_ascii_at
loop-k-preserved-then-is_ascii_at c =
    let l = c.loop-k in
    let s = c.args.s.now in
    let a = c.is_ascii_at.ensures c.if-is_ascii_at.true in
    let b = joined s _ _ _ (joined s _ _ _ a c.skip_ascii.ensures) c.skip_ascii-k.ensures in
    (search rules, past_ascii s l.k _ l.pending l.invariant.1 c.if-not-pending.true b)

pub returns-then-is_ascii_at-2 : goal.returns-then-is_ascii_at-2
returns-then-is_ascii_at-2 c =
    let l = c.loop-k in
    let s = c.args.s.now in
    let d = c.if-not-pending-2.true in
    let a = later s _ _ l.k (c.is_ascii_at-then-not-pending-2.ensures c.if-is_ascii_at-2.true) (omega arith) (omega arith) in
    sym (at-end s _ _ (past_ascii s l.k _ l.pending l.invariant.1 d a) l.invariant.0 ∙ rw d)

pub returns : goal.returns
returns c =
    let l = c.loop-k in
    let scan = c.any_broken-2.ensures in
    let clean = c.if-any_broken-2.false in
    rw c.due_at.ensures
    (sym
    (at-end _ _ _
    (past-block _ l.k _ 16 _ l.pending _ l.invariant.1 scan clean (omega arith) (omega arith) (omega arith) (omega arith))
    refl))
