-- `utf8_part::is_utf8_part` meets its contract.
-- Assumes nothing.
use Rattle.std.proofs.Common.{sym, ap, ◌∙◌, arith, rules, drop, length, ◌≤◌, ◌≡◌}
use Rattle.std.proofs.lemmas.List.{take_rest}
use Rattle.utf8.specs.Utf8.{well_formed}
use Rattle.utf8_part.proofs.Part.{numbers, part-whole, part-empty, part}
use Rattle.utf8_part.proofs.is_utf8_part.Goals as goal

pub returns-in_default : goal.returns-in_default
returns-in_default c =
    let a = c.args in
    let l : length a.s.now ≤ a.i = search rules in
    sym (part-empty a.s.now a.i a.n l)

pub returns-then-is_low : goal.returns-then-is_low
unfolding numbers
returns-then-is_low c =
    let a = c.args in
    let rest : c.in-Some.left.now ≡ drop a.i a.s.now = c.in-Some.ensures.lookup.0.2 ∙ take_rest a.s.now a.i in
    let block = c.in-Some-first_chunk.ensures.cases in
    rw rest at (sym (part-whole c.in-Some.left.now _ a.n (omega arith) block.enough block.same (c.is_low.ensures c.if-is_low.true)))

pub returns : goal.returns
returns c =
    let a = c.args in
    let rest : c.in-Some.left.now ≡ drop a.i a.s.now = c.in-Some.ensures.lookup.0.2 ∙ take_rest a.s.now a.i in
    c.is_utf8.ensures ∙ rw (c.min.ensures, rest) (ap well_formed (part a.n (drop a.i a.s.now)))
