use Rattle.std.proofs.Common.{◌≡◌, ◌∙◌, ap, ◌/◌, ℕ, List, length, drop, get_or, length-drop, arith, rules}
use Rattle.event.proofs.Tests.{tests}
use Rattle.std.proofs.lemmas.Iterator.{cases_from_all, YieldsList-from_slice}
use Rattle.std.proofs.lemmas.List.{take_all}
use Rattle.std.specs.Simd.{first_chunks}
use Rattle.wire.specs.Token.{attribute}
use Rattle.event.specs.Words.{single}
use Rattle.forms.proofs.Rows.{single-by-all}
use Rattle.forms.proofs.is_single.Goals as goal

pub returns-in-empty : goal.returns-in-empty
unfolding single
returns-in-empty c = (let none : length c.args.rows.now / 8 ≡ 0 = omega (arith, c.as_chunks.ensures.front_len, c.in-empty.len_below) in rw none)

pub returns-in-len1-up : goal.returns-in-len1-up
returns-in-len1-up c =
    let w = c.args.rows.now in
    let all =
    cases_from_all _ _ _ (λ (row : List ℕ). get_or row 0 0 ≡ attribute) (λ (row : List ℕ). get_or row 0 0 ≡ attribute → ⊥) c.all.ensures.ran (YieldsList-from_slice (drop 1 (first_chunks 8 (length w / 8) w)) (c.iter.ensures.rest ∙ take_all _ _ (omega (arith, length-drop 1 c.as_chunks.result.0.now)) ∙ ap (drop 1) c.as_chunks.ensures.front)) (λ x q k. search (rules, tests)) (λ x q k. search (rules, tests))
    in
    single-by-all w (length w / 8) c.all.result (omega (arith, c.as_chunks.ensures.front_len, c.in-len1-up.len_at_least)) all
