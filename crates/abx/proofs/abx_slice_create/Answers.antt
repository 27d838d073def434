use Rattle.std.proofs.Common.{ap, ◌∙◌}
use Rattle.slice_spec.specs.Slice.{Created}
use Rattle.abx_words.specs.Words.{answered, created_words}
use Rattle.abx.proofs.abx_slice_create.Goals as goal

pub returns : goal.returns
returns c = c.tell_created.ensures ∙ ap (λ (x : Created). answered c.args.answer.now (created_words x)) c.create.ensures
