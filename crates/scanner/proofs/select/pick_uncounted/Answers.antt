use Rattle.std.proofs.Common.{◌≡◌, Some, None, Ok, sym, ap, ◌∙◌}
use Rattle.scanner.specs.Select.{place_of, seen_of}
use Rattle.scanner.proofs.Picking.{uncounted-whole, uncounted-end, uncounted-refused}
use Rattle.scanner.proofs.select.pick_uncounted.Goals as goal

pub pick_surely-requires : goal.pick_surely-requires
pick_surely-requires c =
    let e : c.see.result ≡ Ok (Some c.in-Ok-Some.extent) = cc in
    c.see.ensures.read_whole _ e

pub returns-in-Ok-Some : goal.returns-in-Ok-Some
returns-in-Ok-Some c =
    let a = c.args in
    let s = c.see.ensures in
    let e : c.see.result ≡ Ok (Some c.in-Ok-Some.extent) = cc in
    λ events. uncounted-whole a.query a.element.now a.name.now a.document.now (place_of a.at a.names) a.table.now a.rows.now events a.written _ _ (sym (ap seen_of e) ∙ s.outcome-is) (s.read_whole _ e).rows_are _ (c.pick_surely.ensures events)

pub returns-in-Ok-None : goal.returns-in-Ok-None
returns-in-Ok-None c =
    let a = c.args in
    let e : c.see.result ≡ Ok None = cc in
    λ events. uncounted-end a.query a.element.now a.name.now a.document.now (place_of a.at a.names) a.table.now a.rows.now events a.written (sym (ap seen_of e) ∙ c.see.ensures.outcome-is)

pub returns-in-Err : goal.returns-in-Err
returns-in-Err c =
    let a = c.args in
    λ events. uncounted-refused a.query a.element.now a.name.now a.document.now (place_of a.at a.names) a.table.now a.rows.now events a.written _ _ (sym (ap seen_of c.in-Err.is) ∙ c.see.ensures.outcome-is)
