use Rattle.std.proofs.Common.{ap, ◌∙◌}
use Rattle.stream_spec.specs.Stream.{Stream, feed}
use Rattle.stream.specs.Answers.{lend}
use Rattle.abx.proofs.Left.{fed-lends, stream-left}
use Rattle.abx.proofs.abx_stream_feed.Goals as goal

pub returns : goal.returns
returns c =
    let a = c.args in
    let r = c.stream_in-before in
    let f = c.feed-fed in
    let e = ap (λ (s : Stream). feed s (lend a.window.now a.pool.now a.store.now) a.chunk.now) r.ensures in
    stream-left _ _ _ _ _ _ _ _ (c.tell_fed.ensures r.result (lend f.new.window a.pool.now a.store.now)) (fed-lends _ _ f.result) (f.ensures ∙ e)
