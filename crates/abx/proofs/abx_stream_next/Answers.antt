use Rattle.std.proofs.Common.{ap, ◌∙◌}
use Rattle.stream_spec.specs.Stream.{Stream, next}
use Rattle.stream.specs.Answers.{lend}
use Rattle.abx.proofs.Left.{answer-lends, stream-left}
use Rattle.abx.proofs.abx_stream_next.Goals as goal

pub returns : goal.returns
returns c =
    let a = c.args in
    let r = c.stream_in-before in
    let f = c.next-next in
    let e = ap (λ (s : Stream). next s (lend a.window.now a.pool.now a.store.now) a.rows.now) r.ensures in
    stream-left _ _ _ _ _ _ _ _ (c.tell_answer.ensures r.result (lend a.window.now f.new.table f.new.store) f.new.rows) (answer-lends _ _ _ f.result) (f.ensures ∙ e)
