use native.Mathlib.Omega.{arith}
use mathlib.Core.Path.{refl, sym, ◌∙◌}
use lib.ListN.{take}
use lib.Seq.{length-take-le}
use Rattle.event.specs.Row.{row_at}
use Rattle.writer.proofs.Links.{found_some}
use Rattle.writer.proofs.Keeps.{name-is}
use Rattle.writer.proofs.Measures.{used-few, says-noted, says-bare}
use Rattle.writer.proofs.measure.quick_name_size.Goals as goal

pub slice_bounds-recall-end-then-has_name : goal.slice_bounds-recall-end-then-has_name
slice_bounds-recall-end-then-has_name c =
    let a = c.args in
    let p = c.requires in
    sym (length-take-le a.used a.notes.now p.used_in_bounds)

pub returns-then-is_some : goal.returns-then-is_some
unfolding row_at
returns-then-is_some c =
    let a = c.args in
    let p = c.requires in
    let f = a.first.now in
    let s = a.second.now in
    let w = a.w.now in
    let named = sym c.has_name.ensures ∙ c.if-has_name.true in
    let says = found_some f s w (take a.used a.notes.now) _ (sym c.is_some.ensures ∙ c.if-is_some.true) c.recall.ensures in
    λ pool e t. says-noted f s a.output.now a.pool.now a.kept pool (row_at f s w) _ a.notes.now a.used named (name-is f s w a.names named) a.heads.now says.0 a.names e p.used_in_bounds t says.1

pub overflow_cast-used : goal.overflow_cast-used
overflow_cast-used c =
    let a = c.args in
    let p = c.requires in
    omega (arith, used-few a.first.now a.second.now a.output.now a.pool.now a.kept p.kept.0 a.notes.now a.heads.now a.used p.used_in_bounds p.kept.2 p.kept.3)

pub name_size-requires : goal.name_size-requires
name_size-requires c =
    let a = c.args in
    let p = c.requires in
    record { maybe_indexed = c.requires.maybe_indexed; kept_in_bounds = p.kept_in_bounds; used_in_bounds = p.used_in_bounds; slots = p.slots.0; kept = p.kept }

pub returns-then-has_name : goal.returns-then-has_name
returns-then-has_name c = c.name_size.ensures

pub returns : goal.returns
unfolding row_at
returns c =
    let a = c.args in
    let p = c.requires in
    let f = a.first.now in
    let s = a.second.now in
    let w = a.w.now in
    λ pool e t. says-bare f s a.output.now a.pool.now a.kept pool (row_at f s w) a.notes.now a.heads.now a.used a.names (sym c.has_name.ensures ∙ c.if-has_name.false) e p.used_in_bounds t
