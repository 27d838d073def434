use Rattle.std.proofs.Common.{ap, ◌∙◌}
use Rattle.nesting_spec.specs.Nesting.{Answer}
use Rattle.abx_words.specs.Words.{answered, nesting_words}
use Rattle.abx.proofs.abx_nested.Goals as goal

pub returns : goal.returns
returns c = c.tell_nesting.ensures ∙ ap (λ (x : Answer). answered c.args.answer.now (nesting_words x)) c.nested.ensures
