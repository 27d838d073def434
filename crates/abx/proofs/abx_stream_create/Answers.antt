use Rattle.std.proofs.Common.{ap, ◌∙◌}
use Rattle.stream_spec.specs.Stream.{Created}
use Rattle.abx_words.specs.Words.{answered, opened, open_state, open_words}
use Rattle.abx.proofs.abx_stream_create.Goals as goal

pub returns : goal.returns
returns c =
    let a = c.args in
    let t = c.tell_opened.ensures in
    let e = c.create-created.ensures in
    record {
      state-is = t.state-is ∙ ap (λ (x : Created). open_state a.state.now (opened a.state.now x)) e;
      answer-is = t.answer-is ∙ ap (λ (x : Created). answered a.answer.now (open_words (opened a.state.now x))) e;
    }
