use Rattle.std.proofs.Common.{true≢false, ◌≡◌, ◌*◌, length, take, refl, sym, ap, ◌∙◌, arith, length-take-le}
use Rattle.scanner.proofs.Keeping.{part-put}
use Rattle.scanner.specs.Select.{place_of}
use Rattle.scanner.proofs.Picking.{again-ready, again-asked, copy-begins, copy-room}
use Rattle.scanner.proofs.select.count_aside.Goals as goal

pub count_by-requires : goal.count_by-requires
count_by-requires c =
    let a = c.args in
    let p = c.requires in
    let pl = place_of a.start.at a.start.names in
    let w = p.whole_at in
    let n : length (take (2 * a.start.names) a.table.now) ≡ 2 * a.start.names = length-take-le (2 * a.start.names) a.table.now w.names-fit in
    let e = part-put a.own.now (take (2 * a.start.names) a.table.now) _ 0 (2 * a.start.names) c.copy_from_slice.ensures.after (sym n) (omega (arith, n, p.in_bounds, w.names-fit, w.table-small)) in
    let b = copy-begins a.start.document.now pl a.table.now a.extent.rows a.extent.added w a.own.now _ p.in_bounds e in
    let r = copy-room a.start.document.now pl a.table.now a.extent.rows a.extent.added w a.own.now _ p.in_bounds e in
    record { at_in_bounds = w.at-fits; ready_at = again-ready a.start.document.now pl a.table.now a.extent.rows a.extent.added w _ refl _ b r; document_len = λ t. absurd (true≢false (sym t)) }

pub returns : goal.returns
returns c =
    let a = c.args in
    let p = c.requires in
    let pl = place_of a.start.at a.start.names in
    let w = p.whole_at in
    let n : length (take (2 * a.start.names) a.table.now) ≡ 2 * a.start.names = length-take-le (2 * a.start.names) a.table.now w.names-fit in
    let e = part-put a.own.now (take (2 * a.start.names) a.table.now) _ 0 (2 * a.start.names) c.copy_from_slice.ensures.after (sym n) (omega (arith, n, p.in_bounds, w.names-fit, w.table-small)) in
    let b = copy-begins a.start.document.now pl a.table.now a.extent.rows a.extent.added w a.own.now _ p.in_bounds e in
    let r = copy-room a.start.document.now pl a.table.now a.extent.rows a.extent.added w a.own.now _ p.in_bounds e in
    c.count_by.ensures.rows ∙ ap length (again-asked a.start.document.now pl a.table.now a.extent.rows a.extent.added w _ refl _ b r a.wanted.query a.wanted.element.now a.wanted.name.now)
