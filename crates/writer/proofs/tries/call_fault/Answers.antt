use mathlib.Core.Path.{sym, ◌∙◌}
use Rattle.writer.specs.Answers.{lent_of, state_of, forms_by}
use Rattle.writer.proofs.Calls.{fault-sizes, fault-state, fault-forms, no-fault}
use Rattle.writer.proofs.tries.call_fault.Goals as goal

pub returns-then-sizes_bad : goal.returns-then-sizes_bad
returns-then-sizes_bad c =
    let a = c.args in
    let f = forms_by a.single a.first.now a.second.now a.rows.now in
    let w = state_of a.writer in
    let l = lent_of a.output.now a.pool.now in
    fault-sizes f w l (sym c.sizes_bad.ensures ∙ c.if-sizes_bad.true)

pub returns-then-state_bad : goal.returns-then-state_bad
returns-then-state_bad c =
    let a = c.args in
    let f = forms_by a.single a.first.now a.second.now a.rows.now in
    let w = state_of a.writer in
    let l = lent_of a.output.now a.pool.now in
    fault-state f w l (sym c.sizes_bad.ensures ∙ c.if-sizes_bad.false) (sym c.state_bad.ensures ∙ c.if-state_bad.true)

pub returns-then-forms : goal.returns-then-forms
returns-then-forms c =
    let a = c.args in
    let f = forms_by a.single a.first.now a.second.now a.rows.now in
    let w = state_of a.writer in
    let l = lent_of a.output.now a.pool.now in
    no-fault f w l (sym c.sizes_bad.ensures ∙ c.if-sizes_bad.false) (sym c.state_bad.ensures ∙ c.if-state_bad.false) (sym c.forms.ensures ∙ c.if-forms.true)

pub returns : goal.returns
returns c =
    let a = c.args in
    let f = forms_by a.single a.first.now a.second.now a.rows.now in
    let w = state_of a.writer in
    let l = lent_of a.output.now a.pool.now in
    fault-forms f w l (sym c.sizes_bad.ensures ∙ c.if-sizes_bad.false) (sym c.state_bad.ensures ∙ c.if-state_bad.false) (sym c.forms.ensures ∙ c.if-forms.false)
