-- Bytes copied block by block.
use mathlib.Core.List.{List, ◌++◌}
use mathlib.Core.Path.{◌≡◌, sym, ap, ◌∙◌}
use Prim.Native.Nat.{ℕ, ◌+◌, ◌-◌, ◌≤◌}
use native.Mathlib.Nat.{add-sub_cancel_left}
use native.Mathlib.Omega.{arith}
use borrow.Rule.Slice.PartMut.{put_mid}
use lib.ListN.{length, take, drop, length-drop}
use lib.Seq.{sets, length-sets, length-take-le, take-take, take-add, take_all}
use Rattle.byte_copy.specs.Sets.{take-sets}
use Rattle.byte_copy.proofs.Parts.{part-back}

-- as long as the other, and so many bytes are the same
pub record Copied (from to : List ℕ) (n : ℕ) : Type 0 where
  pub as_long : length to ≡ length from
  pub so_far : take n to ≡ take n from

part_length : (from : List ℕ) (at k : ℕ) → at + k ≤ length from → length (take k (drop at from)) ≡ k
part_length from at k h = length-take-le k (drop at from) (omega (arith, length-drop at from))

-- a block more, from a place that has been reached
pub block-copied : (from to : List ℕ) (n at k : ℕ) → at ≤ n → at + k ≤ length from → Copied from to n
    → Copied from (sets to at (take k (drop at from))) (at + k)
block-copied from to n at k a h c =
    let b : List ℕ = take k (drop at from) in
    let e : length b ≡ k = part_length from at k h in
    let front : take at to ≡ take at from = sym (take-take at n to a) ∙ ap (take at) c.so_far ∙ take-take at n from a in
    record {
      as_long = length-sets to at b ∙ c.as_long;
      so_far =
          ap (λ (m : ℕ). take (at + m) (sets to at b)) (sym e) ∙ take-sets to b at (omega (arith, e, c.as_long))
          ∙ ap (λ (x : List ℕ). x ++ b) front ∙ sym (take-add at k from);
    }

pub all-copied : (from to : List ℕ) (n : ℕ) → length from ≤ n → Copied from to n → to ≡ from
all-copied from to n h c = sym (take_all n to (omega (arith, c.as_long))) ∙ c.so_far ∙ take_all n from h

-- a place that was lent and holds the block
pub block-stored : (to from part : List ℕ) (at k : ℕ) → length to ≡ length from → at + k ≤ length from
    → part ≡ take (at + k - at) (drop at from) → put_mid at (at + k - at) to part ≡ sets to at (take k (drop at from))
block-stored to from part at k l h e =
    let n : at + k - at ≡ k = add-sub_cancel_left at k in
    let b : List ℕ = take k (drop at from) in
    rw (e, n) (part-back to b at k (sym (part_length from at k h)) (omega (arith, part_length from at k h)))
