use Rattle.std.proofs.Common.{◌≡◌, Err, rules, sym, ap, ◌∙◌}
use Rattle.writer.specs.Answers.{fault_of}
use Rattle.pool_search.specs.Search.{found_of}
use Rattle.writer.proofs.Searches.{name-faulty, name-barred, name-placed}
use Rattle.writer.proofs.measure.find_name.Goals as goal

pub returns-in_err-string_fault : goal.returns-in_err-string_fault
returns-in_err-string_fault c =
    let a = c.args in
    let f = c.in_err-string_fault in
    let e : c.from_residual.result ≡ Err f.field-0.0 = search rules in
    rw e (name-faulty a.output.now a.pool.now a.name.now a.kept _ _ (sym c.string_fault.ensures ∙ ap fault_of f.was))

pub returns-in-Ok : goal.returns-in-Ok
returns-in-Ok c =
    let a = c.args in
    name-placed a.output.now a.pool.now a.name.now a.kept (sym c.string_fault.ensures ∙ ap fault_of c.in_ok-string_fault.was) c.in-Ok.place
    (sym (ap found_of c.in-Ok.is) ∙ c.search.ensures c.requires.kept_in_bounds c.requires.maybe_indexed)

pub returns-in-Err : goal.returns-in-Err
returns-in-Err c =
    let a = c.args in
    name-barred a.output.now a.pool.now a.name.now a.kept (sym c.string_fault.ensures ∙ ap fault_of c.in_ok-string_fault.was)
    (sym (c.search.ensures c.requires.kept_in_bounds c.requires.maybe_indexed) ∙ ap found_of c.in-Err.is)
