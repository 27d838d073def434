use Rattle.std.proofs.Common.{ap, ◌∙◌}
use Rattle.stream_spec.specs.Stream.{Stream, finish}
use Rattle.stream.specs.Answers.{lend}
use Rattle.abx.proofs.Left.{closed-lends, stream-left}
use Rattle.abx.proofs.abx_stream_finish.Goals as goal

pub returns : goal.returns
returns c =
    let a = c.args in
    let r = c.stream_in-before in
    let f = c.finish-closed in
    let l = lend a.window.now a.pool.now a.store.now in
    stream-left _ _ _ _ _ _ _ _ (c.tell_closed.ensures r.result l) (closed-lends _ _ f.result) (f.ensures ∙ ap (λ (s : Stream). finish s l) r.ensures)
