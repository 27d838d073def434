use mathlib.Core.Path.{sym, ap, ◌∙◌}
use Rattle.writer.specs.Answers.{forms_by}
use Rattle.writer.proofs.tries.forms.Goals as goal

pub returns-then-single : goal.returns-then-single
returns-then-single c = c.event_forms.ensures ∙ sym (ap (λ b. forms_by b c.args.first.now c.args.second.now c.args.rows.now) c.if-single.true)

pub returns : goal.returns
returns c = c.list_forms.ensures ∙ sym (ap (λ b. forms_by b c.args.first.now c.args.second.now c.args.rows.now) c.if-single.false)
