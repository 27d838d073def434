use Rattle.std.proofs.Common.{◌≡◌, ℕ, ◌+◌, List, get_or, sym, ◌∙◌, arith}
use Rattle.wire.specs.Header.{u32_at, u32_of}
use Rattle.quick.proofs.Flats.{number-flat}
use Rattle.quick.proofs.number.Goals as goal

second-word : (s : List ℕ) (at : ℕ) → u32_at s (at + 4) ≡ u32_of (get_or s (at + 4) 0) (get_or s (at + 5) 0) (get_or s (at + 6) 0) (get_or s (at + 7) 0)
unfolding u32_at
second-word s at =
    let a : at + 4 + 1 ≡ at + 5 = omega arith in
    let b : at + 4 + 2 ≡ at + 6 = omega arith in
    let c : at + 4 + 3 ≡ at + 7 = omega arith in
    rw (a, b, c)

pub returns : goal.returns
unfolding u32_at
returns c =
    let a = c.args in
    number-flat a.s.now a.at a.count _ _ c.be32.ensures (c.be32-2.ensures ∙ sym (second-word a.s.now a.at)) (omega arith)
