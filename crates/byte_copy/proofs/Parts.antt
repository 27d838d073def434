-- A part that was lent and is back with other bytes in it.
use Rattle.std.proofs.Common.{List, append_assoc, ◌≡◌, sym, ◌∙◌, ℕ, ◌+◌, ◌-◌, ◌≤◌, length, take, drop, arith, length-take-le}
use Rattle.std.proofs.Math.Nat.{add-sub_cancel_left}
use Rattle.std.proofs.Math.Seq.{drop-drop}
use Rattle.std.proofs.lemmas.List.Edits.{sets, sets-eq}
use borrow.Rule.Slice.PartMut.{put_mid}
use Rattle.byte_copy.specs.Sets.{sets-take}

pub part-back : (l ws : List ℕ) (i k : ℕ) → k ≡ length ws → i + length ws ≤ length l → put_mid i k l ws ≡ sets l i ws
part-back l ws i k e h = rw (e, drop-drop) (sym (append_assoc (take i l) ws (drop (i + length ws) l)) ∙ sym (sets-eq ws l i h))

-- all bytes have room, or only the first
pub all-stored : (to from part : List ℕ) (at : ℕ) → at + length from ≤ length to → part ≡ from
    → put_mid at (at + length from - at) to part ≡ sets to at from
all-stored to from part at h e = rw e (part-back to from at _ (add-sub_cancel_left at (length from)) h)

pub some_stored : (to from part : List ℕ) (at : ℕ) → at ≤ length to → length to - at ≤ length from → part ≡ take (length to - at) from
    → put_mid at (length to - at) to part ≡ sets to at from
some_stored to from part at h k e =
    let l = length-take-le (length to - at) from k in
    rw e (part-back to (take (length to - at) from) at (length to - at) (sym l) (omega (arith, l)) ∙ sets-take to from at (length to - at) (omega arith))
