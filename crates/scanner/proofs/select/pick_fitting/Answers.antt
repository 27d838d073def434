use Rattle.std.proofs.Common.{arith, refl, sym, ◌∙◌, eqb-true}
use Rattle.scanner.specs.Select.{place_of}
use Rattle.scanner.proofs.Picking.{lent, again-added, again-ready, short-table, pairs-room, rows-room, rows-none, handed}
use Rattle.scanner.proofs.select.pick_fitting.Goals as goal

pub returns-then-table-start : goal.returns-then-table-start
returns-then-table-start c =
    let a = c.args in
    let p = c.requires in
    λ events. short-table a.start.document.now (place_of a.start.at a.start.names) a.table.now a.extent.rows a.extent.added p.whole_at a.wanted.query a.wanted.element.now a.wanted.name.now a.rows.now events a.written a.extent.len p.table_in_bounds c.if-table-start.true

pub take_event-took-requires : goal.take_event-took-requires
take_event-took-requires c =
    let a = c.args in
    let p = c.requires in
    let pl = place_of a.start.at a.start.names in
    let w = p.whole_at in
    let l = lent a.start.document.now a.start.at w.at-fits in
    let r = pairs-room a.start.document.now pl a.table.now a.extent.rows a.extent.added w a.wanted.query a.wanted.element.now a.wanted.name.now a.rows.now 0 a.written a.extent.len p.table_in_bounds c.if-table-start.false in
    record { ready_at = again-ready a.start.document.now pl a.table.now a.extent.rows a.extent.added w _ l a.table.now refl r; s_len = λ t. sym (again-added a.start.document.now pl a.table.now a.extent.rows a.extent.added w _ l) ∙ eqb-true _ _ t; room = rows-room a.start.document.now pl a.table.now a.extent.rows a.extent.added w a.wanted.query a.wanted.element.now a.wanted.name.now a.rows.now 0 a.written a.extent.len p.table_in_bounds _ l c.if-table-start.false (omega (arith, c.well_formed)); to_value = rows-none a.start.document.now pl a.table.now a.extent.rows a.extent.added w a.wanted.query a.wanted.element.now a.wanted.name.now a.rows.now 0 a.written a.extent.len p.table_in_bounds _ l c.if-table-start.false }

pub returns : goal.returns
returns c =
    let a = c.args in
    let p = c.requires in
    let w = p.whole_at in
    let l = lent a.start.document.now a.start.at w.at-fits in
    let t = c.take_event-took.ensures in
    λ events. handed a.start.document.now (place_of a.start.at a.start.names) a.table.now a.extent.rows a.extent.added w a.wanted.query a.wanted.element.now a.wanted.name.now a.rows.now events a.written a.extent.len p.table_in_bounds _ l c.if-table-start.false _ _ _ _ t.names t.kind t.rows
