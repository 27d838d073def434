use Rattle.std.proofs.Common.{Bool, ◌&&◌, sym, ap, ◌∙◌, arith}
use Rattle.std.proofs.Math.Bool.{and-true, and_assoc}
use Rattle.forms.proofs.Rows.{zeros_turn, zeros_end}
use Rattle.forms.proofs.unused.Goals as goal

pub loop-word-preserved : goal.loop-word-preserved
loop-word-preserved c =
    let l = c.loop-word in
    and_assoc l.all _ _ ∙ ap (λ (x : Bool). l.all && x) (sym (zeros_turn c.args.words.now l.word-index (omega arith))) ∙ l.invariant

pub returns : goal.returns
returns c =
    let l = c.loop-word in
    sym (and-true l.all) ∙ ap (λ (x : Bool). l.all && x) (sym (zeros_end c.args.words.now l.word-index (omega arith))) ∙ l.invariant
