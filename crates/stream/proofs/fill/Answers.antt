use Rattle.std.proofs.Common.{◌≡◌, ◌∙◌, ap, List, ℕ, ◌++◌, ◌-◌, drop, arith}
use Rattle.std.proofs.Math.Seq.{slice, sets}
use Rattle.stream.proofs.Window.{moved, unmoved, filled}
use Rattle.stream.proofs.fill.Goals as goal
use Rattle.stream.proofs.fill.Goals.{then-start-gt0, else-start-gt0}

pub returns : goal.returns
returns c =
    let a = c.args in
    let p = c.requires in
    let n = c.min-fitting in
    let front : c.if-start-gt0.window ≡ slice a.start a.end a.window.now ++ drop (a.end - a.start) a.window.now =
    elim c.if-start-gt0.branch [
      | then-start-gt0 w ↦ w.window-is ∙ w.copy_within.ensures.after ∙ moved a.window.now a.start a.end p.0 p.1
      | else-start-gt0 w ↦ w.window-is ∙ unmoved a.window.now a.start a.end (omega arith)
    ] in (
      n.ensures,
      c.copy.ensures ∙ ap (λ (w : List ℕ). sets w (a.end - a.start) a.chunk.now) front
          ∙ filled a.window.now a.chunk.now a.start a.end n.result p.0 p.1 n.ensures,
    )
