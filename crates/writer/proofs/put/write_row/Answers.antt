use native.Mathlib.Omega.{arith}
use mathlib.Core.Path.{sym, ap, ◌∙◌}
use Prim.Native.Nat.{◌+◌}
use lib.ListN.{length, length-set}
use lib.Seq.{sets, length-sets}
use mathlib.Core.List.{◌∷◌, ◌++◌}
use Rattle.event.specs.Row.{row_at}
use Rattle.writer_spec.specs.Encode.{value_bytes}
use Rattle.writer.specs.Answers.{known_of}
use Rattle.writer.specs.Passes.{named_by}
use Rattle.writer.proofs.Bytes.{row_is, row-length, row-stored}
use Rattle.writer.proofs.put.write_row.Goals as goal

pub bounds-output-at : goal.bounds-output-at
bounds-output-at c =
    let a = c.args in
    let f = a.first.now in
    let s = a.second.now in
    let w = a.w.now in
    let o = known_of a.known in
    let size = row-length f s w o in
    omega (arith, c.requires.w_in_bounds)

pub put_name-after-requires : goal.put_name-after-requires
put_name-after-requires c =
    let a = c.args in
    let f = a.first.now in
    let s = a.second.now in
    let w = a.w.now in
    let o = known_of a.known in
    let size = row-length f s w o in
    record { w_in_bounds = simp length-set (omega (arith, c.requires.w_in_bounds)) }

pub put_value-requires : goal.put_value-requires
put_value-requires c =
    let a = c.args in
    let f = a.first.now in
    let s = a.second.now in
    let w = a.w.now in
    let o = known_of a.known in
    let size = row-length f s w o in
    let l = ap length c.put_name-after.ensures.bytes ∙ length-sets _ (a.at + 1) (named_by o (row_at f s w)) ∙ length-set a.output.now a.at _ in
    record { w_in_bounds = omega (arith, l, c.put_name-after.ensures.place, c.requires.w_in_bounds) }

pub shape_of-output : goal.shape_of-output
shape_of-output c =
    let a = c.args in
    let f = a.first.now in
    let s = a.second.now in
    let w = a.w.now in
    let o = known_of a.known in
    let size = row-length f s w o in
    let l = ap length c.put_name-after.ensures.bytes ∙ length-sets _ (a.at + 1) (named_by o (row_at f s w)) ∙ length-set a.output.now a.at _ in
    ap length c.put_value.ensures.bytes ∙ length-sets _ _ (value_bytes (row_at f s w).value) ∙ l

pub returns : goal.returns
returns c =
    let a = c.args in
    let f = a.first.now in
    let s = a.second.now in
    let w = a.w.now in
    let o = known_of a.known in
    let size = row-length f s w o in
    let e = ap (λ t. t ∷ (named_by o (row_at f s w) ++ value_bytes (row_at f s w).value)) c.token_of.ensures ∙ sym (row_is f s w o) in
    let r = row-stored a.output.now _ _ (named_by o (row_at f s w)) (value_bytes (row_at f s w).value) a.at _ _ _ c.put_name-after.ensures.bytes c.put_name-after.ensures.place c.put_value.ensures.bytes c.put_value.ensures.place in
    record { bytes = r.0 ∙ ap (sets a.output.now a.at) e; place = r.1 ∙ ap (λ x. a.at + length x) e }
