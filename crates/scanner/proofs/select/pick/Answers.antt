use Rattle.std.proofs.Common.{◌≡◌, Some, None, Ok, Err, sym, ap, ◌∙◌, rules}
use Rattle.scanner.specs.Select.{place_of, seen_of}
use Rattle.scanner.proofs.Picking.{picked-whole, picked-end, picked-refused}
use Rattle.scanner.proofs.select.pick.Goals as goal

pub pick_counted-requires : goal.pick_counted-requires
pick_counted-requires c =
    let e : c.see.result ≡ Ok (Some c.in-Some.extent) = cc in
    c.see.ensures.read_whole _ e

pub returns-in_err-extent : goal.returns-in_err-extent
returns-in_err-extent c =
    let a = c.args in
    let e : c.from_residual.result ≡ Err c.in_err-extent.field-0.0 = search rules in
    λ events. rw e (picked-refused a.query a.element.now a.name.now a.document.now (place_of a.at a.names) a.table.now a.rows.now events a.written _ _ (sym (ap seen_of c.in_err-extent.was) ∙ c.see.ensures.outcome-is))

pub returns-in_default : goal.returns-in_default
returns-in_default c =
    let a = c.args in
    let e : c.see.result ≡ Ok None = cc in
    λ events. picked-end a.query a.element.now a.name.now a.document.now (place_of a.at a.names) a.table.now a.rows.now events a.written (sym (ap seen_of e) ∙ c.see.ensures.outcome-is)

pub returns : goal.returns
returns c =
    let a = c.args in
    let e : c.see.result ≡ Ok (Some c.in-Some.extent) = cc in
    λ events. picked-whole a.query a.element.now a.name.now a.document.now (place_of a.at a.names) a.table.now a.rows.now events a.written _ (sym (ap seen_of e) ∙ c.see.ensures.outcome-is) _ (c.pick_counted.ensures events)
