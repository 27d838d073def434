use mathlib.Core.Path.{ap, ◌∙◌}
use Rattle.event.specs.Span.{same}
use Rattle.writer.specs.Notes.{note_name}
use Rattle.writer.proofs.Links.{noted-again}
use Rattle.writer.proofs.notes.is_noted.Goals as goal

pub returns-then-source-w : goal.returns-then-source-w
returns-then-source-w c =
    let a = c.args in
    noted-again a.first.now a.second.now a.w.now a.notes.now a.name.now a.k c.if-source-w.true c.if-start-w.true c.if-len-w.true c.requires.name_value

pub returns : goal.returns
unfolding note_name
returns c = c.same_bytes.ensures ∙ ap (λ x. same x c.args.name.now) c.span.ensures.bytes
