use Rattle.std.proofs.Common.{ℕ, ◌≡◌, ◌*◌, ap, refl, ◌∙◌, arith, take}
use Rattle.std.proofs.lemmas.List.Edits.{sets}
use Rattle.quick.proofs.Copies.{row-turn}
use Rattle.quick.proofs.put_rows.Goals as goal

pub loop-k-init : goal.loop-k-init
loop-k-init c = refl

pub loop-k-preserved : goal.loop-k-preserved
loop-k-preserved c =
    let l = c.loop-k in
    let a = c.args in
    row-turn a.words.now a.rows.now l.k l.rows _ (omega arith) (omega arith) l.invariant c.copy_from_slice.ensures.after

pub returns : goal.returns
returns c =
    let e : c.loop-k.k ≡ c.args.count = omega arith in
    c.loop-k.invariant ∙ ap (λ (n : ℕ). sets c.args.rows.now 0 (take (8 * n) c.args.words.now)) e
