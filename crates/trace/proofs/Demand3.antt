-- Demand 3, proved: the reader's invariant, the round trip and the writer's law put together. The links to the code: the claim is
-- Trace.antt's; a list of calls is `run` of stream_spec's Calls.antt, whose every step is `feed`, `next` or `finish` of its
-- Stream.antt; and the promises of stream's create, feed, finish and next are equations to these, for every state and buffer.
use Rattle.std.proofs.Math.Option.{some}
use Rattle.std.specs.Prelude.{List, ◌≡◌, ℕ}
use Rattle.std.proofs.Common.{sym, ap, ◌∙◌}
use Rattle.event.specs.Row.{Event}
use Rattle.grammar.specs.Document.{read, events, last_pool}
use Rattle.writer_spec.specs.Encode.{encode}
use Rattle.writer_spec.specs.Formed.{FormedEvents}
use Rattle.writer_spec.specs.Names.{kept_names}
use Rattle.writer_spec.proofs.Laws.{list-formed, document}
use Rattle.writer_spec.specs.Writer as Writer
use Rattle.stream_spec.specs.Calls.{Trace, run, start}
use Rattle.stream_spec.proofs.Invariant.{trace-sound}
use Rattle.stream_spec.proofs.Lively.{agreement-ended}
use Rattle.trace.proofs.RoundTrip.{written-events, written-names}
use Rattle.trace.specs.Trace.{Made, Demand3-holds}

-- what the writer made is `encode` of events that can be written
made-formed : (es : List Event) (s : List ℕ) → Made es s → FormedEvents es
made-formed es s m = rw m.says (list-formed m.first m.second m.rows m.fresh m.after (Writer.create m.lent).lent m.words m.took_it)

made_bytes : (es : List Event) (s : List ℕ) → Made es s → s ≡ encode es
made_bytes es s m = m.bytes ∙ document m.first m.second m.rows m.lent m.fresh m.after m.created-it m.took_it ∙ ap encode (sym m.says)

-- so the grammar reads exactly these events of it, and has their names at its end
made-events : (es : List Event) (s : List ℕ) → Made es s → events (read s) ≡ es
made-events es s m = ap (λ (x : List ℕ). events (read x)) (made_bytes es s m) ∙ written-events es (made-formed es s m)

made-names : (es : List Event) (s : List ℕ) → Made es s → last_pool (read s) ≡ some (kept_names es)
made-names es s m = ap (λ (x : List ℕ). last_pool (read x)) (made_bytes es s m) ∙ written-names es (made-formed es s m)

pub demand3 : Demand3-holds
demand3 r l c cs =
    let t : Trace = run (start r l) cs in
    record {
      sound = trace-sound r l c cs;
      exact = λ es m over. (trace-sound r l c cs).exact over ∙ made-events es t.accepted m;
      lively = λ es m room fin.
          rw (made-events es t.accepted m) at (agreement-ended r l c cs (kept_names es) (made-names es t.accepted m) room fin);
    }
