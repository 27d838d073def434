use Rattle.std.proofs.Common.{◌≡◌, Some, None, Ok, Err, sym, ap, ◌∙◌, arith, rules}
use Rattle.extent.specs.Answers.{outcome_of}
use Rattle.slice_spec.proofs.Bounds.{fits}
use Rattle.scanner.specs.Select.{place_of}
use Rattle.scanner.proofs.Picking.{lent, sees-refused, sees-end, sees-whole, seen-sizes, seen-place, seen_end, seen-goes}
use Rattle.scanner.proofs.select.see.Goals as goal

pub returns-then-sizes_bad : goal.returns-then-sizes_bad
returns-then-sizes_bad c =
    let a = c.args in
    let pl = place_of a.start.at a.start.names in
    sees-refused a.start.document.now pl a.table.now _ (seen-sizes a.start.document.now pl a.table.now (sym c.sizes_bad.ensures ∙ c.if-sizes_bad.true))

pub returns-then-place_bad : goal.returns-then-place_bad
returns-then-place_bad c =
    let a = c.args in
    let pl = place_of a.start.at a.start.names in
    sees-refused a.start.document.now pl a.table.now _ (seen-place a.start.document.now pl a.table.now (sym c.sizes_bad.ensures ∙ c.if-sizes_bad.false) (sym c.place_bad.ensures ∙ c.if-place_bad.true))

pub returns-then-start : goal.returns-then-start
returns-then-start c =
    let a = c.args in
    let pl = place_of a.start.at a.start.names in
    sees-end a.start.document.now pl a.table.now (seen_end a.start.document.now pl a.table.now (sym c.sizes_bad.ensures ∙ c.if-sizes_bad.false) (sym c.place_bad.ensures ∙ c.if-place_bad.false) c.if-start.true)

pub slice_bounds-measure-count : goal.slice_bounds-measure-count
slice_bounds-measure-count c =
    let a = c.args in
    (fits (place_of a.start.at a.start.names) a.start.document.now a.table.now (sym c.sizes_bad.ensures ∙ c.if-sizes_bad.false) (sym c.place_bad.ensures ∙ c.if-place_bad.false)).at-fits

pub slice_bounds-measure-start : goal.slice_bounds-measure-start
slice_bounds-measure-start c =
    let a = c.args in
    omega (arith, (fits (place_of a.start.at a.start.names) a.start.document.now a.table.now (sym c.sizes_bad.ensures ∙ c.if-sizes_bad.false) (sym c.place_bad.ensures ∙ c.if-place_bad.false)).at-fits)

pub returns-in_err-len : goal.returns-in_err-len
returns-in_err-len c =
    let a = c.args in
    let pl = place_of a.start.at a.start.names in
    let s = sym c.sizes_bad.ensures ∙ c.if-sizes_bad.false in
    let b = sym c.place_bad.ensures ∙ c.if-place_bad.false in
    let l = lent a.start.document.now a.start.at (fits pl a.start.document.now a.table.now s b).at-fits in
    let e : c.from_residual.result ≡ Err c.in_err-len.field-0.0 = search rules in
    rw e (sees-refused a.start.document.now pl a.table.now _ (sym (ap outcome_of c.in_err-len.was) ∙ seen-goes a.start.document.now pl a.table.now s b c.if-start.false _ l _ c.measure-m.ensures))

pub returns-in_default : goal.returns-in_default
returns-in_default c =
    let a = c.args in
    let pl = place_of a.start.at a.start.names in
    let s = sym c.sizes_bad.ensures ∙ c.if-sizes_bad.false in
    let b = sym c.place_bad.ensures ∙ c.if-place_bad.false in
    let l = lent a.start.document.now a.start.at (fits pl a.start.document.now a.table.now s b).at-fits in
    let e : c.measure-m.result.outcome ≡ Ok None = cc in
    sees-end a.start.document.now pl a.table.now (sym (ap outcome_of e) ∙ seen-goes a.start.document.now pl a.table.now s b c.if-start.false _ l _ c.measure-m.ensures)

pub returns : goal.returns
returns c =
    let a = c.args in
    let pl = place_of a.start.at a.start.names in
    let s = sym c.sizes_bad.ensures ∙ c.if-sizes_bad.false in
    let b = sym c.place_bad.ensures ∙ c.if-place_bad.false in
    let l = lent a.start.document.now a.start.at (fits pl a.start.document.now a.table.now s b).at-fits in
    let e : c.measure-m.result.outcome ≡ Ok (Some c.in-Some.len) = cc in
    sees-whole a.start.document.now pl a.table.now s b c.if-start.false _ l _ c.measure-m.ensures _ (ap outcome_of e)
