-- The window's bytes as a feed moves and appends them.
use Rattle.std.proofs.Common.{List, ◌++◌, append_assoc, ◌≡◌, sym, ap, ◌∙◌, ℕ, ◌+◌, ◌-◌, ◌≤◌, min, arith, length, take, drop, length-drop, length-append, take-append-drop, ltb, ltb-true, ltb-false, take_all, take_at, drop_at, drop-drop, take-add, length-take-le}
use Rattle.std.proofs.Math.Seq.{slice, sets, sets-eq, paste, length-slice, drop-append-add}
use Rattle.std.specs.List.{copy_within}
use Rattle.byte_copy.specs.Sets.{sets-take}
use Rattle.grammar.proofs.Choice.{by_test}

-- a part of a slice, as the code lends it
pub part_slice : (w : List ℕ) (start end : ℕ) → start ≤ end → end ≤ length w → take (end - start) (drop start w) ≡ slice start end w
part_slice w start end h k =
    let e : start + (end - start) ≡ end = omega arith in
    sym (drop_at (take start w) (take (end - start) (drop start w)) start (length-take-le start w (omega arith)))
    ∙ ap (drop start) (sym (take-add start (end - start) w) ∙ ap (λ (n : ℕ). take n w) e)

-- the waiting bytes move to the front; where they are there, nothing moves
pub moved : (w : List ℕ) (start end : ℕ) → start ≤ end → end ≤ length w → copy_within w start end 0 ≡ slice start end w ++ drop (end - start) w
moved w start end h k = let z : 0 + (end - start) ≡ end - start = omega arith in rw (part_slice w start end h k, z)

pub unmoved : (w : List ℕ) (start end : ℕ) → start ≡ 0 → w ≡ slice start end w ++ drop (end - start) w
unmoved w start end e =
    let n : end - 0 ≡ end = omega arith in
    rw (e, n) (sym (take-append-drop end w))

-- ---- and the chunk's come after them

-- as many as fit
appended : (w chunk : List ℕ) (at n : ℕ) → at ≤ length w → n ≡ min (length chunk) (length w - at) → sets w at chunk ≡ paste w at chunk n
appended w chunk at n h e =
    let k : length (take n chunk) ≡ n = length-take-le n chunk (omega arith) in
    let same : sets w at (take n chunk) ≡ sets w at chunk =
    by_test (ltb (length w - at) (length chunk)) (λ t. sets-take w chunk at n (omega (arith, ltb-true (length w - at) (length chunk) t)))
    (λ t. ap (sets w at) (take_all n chunk (omega (arith, ltb-false (length w - at) (length chunk) t)))) in
    sym same ∙ sets-eq (take n chunk) w at (omega arith) ∙ ap (λ (m : ℕ). take at w ++ take n chunk ++ drop (at + m) w) k

fed-window : (w chunk : List ℕ) (start end n : ℕ) → end ≤ length w
    → paste (slice start end w ++ drop (end - start) w) (end - start) chunk n ≡ slice start end w ++ (take n chunk ++ drop (end - start + n) w)
fed-window w chunk start end n h =
    let k : length (slice start end w) ≡ end - start = length-slice start end w h in
    let rest : drop (end - start + n) (slice start end w ++ drop (end - start) w) ≡ drop (end - start + n) w =
    ap (λ (m : ℕ). drop (m + n) (slice start end w ++ drop (end - start) w)) (sym k)
    ∙ drop-append-add (slice start end w) (drop (end - start) w) n
    ∙ drop-drop n (end - start) w in
    rw (take_at (slice start end w) (drop (end - start) w) (end - start) k, rest, append_assoc)

pub filled : (w chunk : List ℕ) (start end n : ℕ) → start ≤ end → end ≤ length w → n ≡ min (length chunk) (length w - (end - start))
    → sets (slice start end w ++ drop (end - start) w) (end - start) chunk ≡ slice start end w ++ (take n chunk ++ drop (end - start + n) w)
filled w chunk start end n h k e =
    let v : List ℕ = slice start end w ++ drop (end - start) w in
    let l : length v ≡ length w =
    omega (arith, length-append (slice start end w) (drop (end - start) w), length-slice start end w k, length-drop (end - start) w) in
    appended v chunk (end - start) n (omega arith) (e ∙ ap (λ (m : ℕ). min (length chunk) (m - (end - start))) (sym l)) ∙ fed-window w chunk start end n k
