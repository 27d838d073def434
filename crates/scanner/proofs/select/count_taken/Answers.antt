use Rattle.std.proofs.Common.{refl, sym, ap, ◌∙◌, ℕ, ◌*◌, length, drop}
use Rattle.std.proofs.lemmas.List.{length-replicate}
use Rattle.scanner.specs.Select.{place_of}
use Rattle.scanner.proofs.Picking.{none-stored, zeros-long, again-added, again-ready, again-asked, none-room}
use Rattle.scanner.proofs.select.count_taken.Goals as goal

pub count_by-requires : goal.count_by-requires
count_by-requires c =
    let a = c.args in
    let w = c.requires in
    let pl = place_of a.start.at a.start.names in
    let e = c.if-extent-eq0.true in
    let r = none-room a.start.document.now pl a.table.now a.extent.rows a.extent.added w e in
    record { at_in_bounds = w.at-fits; ready_at = again-ready a.start.document.now pl a.table.now a.extent.rows a.extent.added w _ refl a.table.now refl r; document_len = λ _. sym (again-added a.start.document.now pl a.table.now a.extent.rows a.extent.added w _ refl) ∙ e }

pub returns-then-extent-eq0 : goal.returns-then-extent-eq0
returns-then-extent-eq0 c =
    let a = c.args in
    let w = c.requires in
    let pl = place_of a.start.at a.start.names in
    let e = c.if-extent-eq0.true in
    let r = none-room a.start.document.now pl a.table.now a.extent.rows a.extent.added w e in
    let n = again-added a.start.document.now pl a.table.now a.extent.rows a.extent.added w (drop a.start.at a.start.document.now) refl in
    record { rows = c.count_by.ensures.rows ∙ ap length (again-asked a.start.document.now pl a.table.now a.extent.rows a.extent.added w _ refl a.table.now refl r a.wanted.query a.wanted.element.now a.wanted.name.now); names = c.count_by.ensures.names ∙ sym (none-stored a.table.now (2 * a.start.names) a.start.at _ (sym e ∙ n)) }

pub slice_bounds-count_aside-end : goal.slice_bounds-count_aside-end
slice_bounds-count_aside-end c = sym (length-replicate {A = ℕ} 131_072 0)

pub count_aside-requires : goal.count_aside-requires
count_aside-requires c =
    record { in_bounds = zeros-long 131_072; whole_at = c.requires }
