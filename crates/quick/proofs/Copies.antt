-- Rows that are copied, eight words at a time.
use Rattle.std.proofs.Common.{List, ℕ, ◌≡◌, ◌+◌, ◌-◌, ◌*◌, ◌≤◌, length, take, drop, append_assoc, sym, ◌∙◌, length-take-le, length-drop, arith}
use Rattle.std.proofs.Math.Seq.{drop-drop, take-add}
use Rattle.std.proofs.lemmas.List.Edits.{sets, sets-eq}
use borrow.Rule.Slice.PartMut.{put_mid}
use Rattle.grammar.proofs.Stores.{sets-append}

-- a part that was written over
part-put : (l ws part : List ℕ) (i k : ℕ) → part ≡ ws → k ≡ length ws → i + length ws ≤ length l → put_mid i k l part ≡ sets l i ws
part-put l ws part i k e h f = rw (e, h, drop-drop) (sym (append_assoc (take i l) ws (drop (i + length ws) l)) ∙ sym (sets-eq ws l i f))

-- one row more
pub row-turn : (words rows : List ℕ) (k : ℕ) (now part : List ℕ) → 8 * k + 8 ≤ length words → 8 * k + 8 ≤ length now → now ≡ sets rows 0 (take (8 * k) words)
    → part ≡ take (8 * k + 8 - 8 * k) (drop (8 * k) words) → put_mid (8 * k) (8 * k + 8 - 8 * k) now part ≡ sets rows 0 (take (8 * (k + 1)) words)
row-turn words rows k now part h g e f =
    let m : 8 * k + 8 - 8 * k ≡ 8 = omega arith in
    let c : length (take 8 (drop (8 * k) words)) ≡ 8 = length-take-le 8 (drop (8 * k) words) (simp length-drop (omega arith)) in
    let put = part-put now (take 8 (drop (8 * k) words)) part (8 * k) (8 * k + 8 - 8 * k) (f ∙ rw m) (omega (arith, m, c)) (omega (arith, c)) in
    let l : length (take (8 * k) words) ≡ 8 * k = length-take-le (8 * k) words (omega arith) in
    let z : 0 + 8 * k ≡ 8 * k = omega arith in
    let n : 8 * (k + 1) ≡ 8 * k + 8 = omega arith in
    put ∙ rw (e, n, take-add (8 * k) 8 words, sets-append rows 0 (take (8 * k) words) (take 8 (drop (8 * k) words)), l, z)
