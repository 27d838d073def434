use Rattle.std.proofs.Common.{arith, sym, ap, ◌∙◌, ℕ, ◌+◌, ◌/◌, lt-ltb, le-ltb, length, ltb}
use Rattle.scanner.specs.Select.{place_of, turned}
use Rattle.scanner.proofs.Picking.{few-rows, surely}
use Rattle.scanner.proofs.select.pick_surely.Goals as goal

pub returns-then-room-written : goal.returns-then-room-written
returns-then-room-written c =
    let a = c.args in
    let w = c.requires in
    let none = c.if-room-written.true in
    λ events. rw (lt-ltb (length a.rows.now / 8) a.written none) (ap turned (few-rows a.start.document.now (place_of a.start.at a.start.names) a.table.now a.extent.rows a.extent.added w a.wanted.query a.wanted.element.now a.wanted.name.now a.rows.now events a.written a.extent.len (lt-ltb (length a.rows.now / 8) (a.written + _) (omega arith))))

pub returns-then-is_short : goal.returns-then-is_short
returns-then-is_short c =
    let a = c.args in
    let short = ap (λ (n : ℕ). ltb (length a.rows.now / 8) (a.written + n)) (sym c.most_taken.ensures) ∙ sym c.is_short.ensures in
    λ events. rw (le-ltb (length a.rows.now / 8) a.written c.if-room-written.false, short ∙ c.if-is_short.true)

pub pick_fitting-requires : goal.pick_fitting-requires
pick_fitting-requires c =
    let a = c.args in
    let w = c.requires in
    let short = ap (λ (n : ℕ). ltb (length a.rows.now / 8) (a.written + n)) (sym c.most_taken.ensures) ∙ sym c.is_short.ensures in
    record { whole_at = w; table_in_bounds = surely a.start.document.now (place_of a.start.at a.start.names) a.table.now a.extent.rows a.extent.added w a.wanted.query a.wanted.element.now a.wanted.name.now (length a.rows.now / 8) a.written (short ∙ c.if-is_short.false) }

pub returns : goal.returns
returns c =
    let a = c.args in
    let short = ap (λ (n : ℕ). ltb (length a.rows.now / 8) (a.written + n)) (sym c.most_taken.ensures) ∙ sym c.is_short.ensures in
    λ events. rw (le-ltb (length a.rows.now / 8) a.written c.if-room-written.false, short ∙ c.if-is_short.false) (ap turned (c.pick_fitting.ensures events))
