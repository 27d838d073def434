use Rattle.std.proofs.Common.{List, ◌≡◌, sym, ap, subst, ◌∙◌, ℕ, ◌+◌, ◌/◌, ◌≤◌, ltb-false, length}
use Rattle.wire.specs.Refusal.{rows_full}
use Rattle.slice_spec.specs.Queries.{refused}
use Rattle.slice_spec.specs.Turns.{halted}
use Rattle.scanner.specs.Select.{place_of, asked_at, WholeAt, progress, turn_of, passes}
use Rattle.scanner.proofs.Picking.{few-rows}
use Rattle.scanner.proofs.select.pick_counted.Goals as goal

pub returns-then-is_short : goal.returns-then-is_short
returns-then-is_short c =
    let a = c.args in
    let n = c.count_at_need-n.ensures in
    let short = sym n.rows ∙ sym c.is_short.ensures in
    λ events. ap (λ (t : List ℕ). halted (refused rows_full 0) (progress a.start.at a.start.names t a.rows.now events a.written)) n.names
    ∙ few-rows a.start.document.now (place_of a.start.at a.start.names) a.table.now a.extent.rows a.extent.added c.requires a.wanted.query a.wanted.element.now a.wanted.name.now a.rows.now events a.written a.extent.len (short ∙ c.if-is_short.true)

pub pick_fitting-requires : goal.pick_fitting-requires
pick_fitting-requires c =
    let a = c.args in
    let n = c.count_at_need-n.ensures in
    let short = sym n.rows ∙ sym c.is_short.ensures in
    let asked = subst (λ (t : List ℕ). WholeAt a.start.document.now a.start.at a.start.names t a.extent × (a.written + length (asked_at a.wanted.query a.wanted.element.now a.wanted.name.now a.start.document.now a.start.at a.start.names t) ≤ length a.rows.now / 8))
    (sym n.names) (c.requires, ltb-false _ _ (short ∙ c.if-is_short.false)) in record { whole_at = asked.0; table_in_bounds = asked.1 }

pub returns : goal.returns
returns c =
    let a = c.args in
    let f = c.pick_fitting in
    λ events. subst (λ (t : List ℕ). turn_of (progress a.start.at a.start.names t a.rows.now events a.written) f.new.table f.new.rows f.result ≡ passes a.wanted.query a.wanted.element.now a.wanted.name.now a.start.document.now (progress a.start.at a.start.names t a.rows.now events a.written) a.extent.len)
    c.count_at_need-n.ensures.names (f.ensures events)
