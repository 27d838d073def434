-- A block that passes, after what passes up to its start or further; and an octet of a part that does not.
use Rattle.std.proofs.Common.{Bool, true, false, ◌≡◌, ℕ, ◌+◌, ◌-◌, ◌≤◌, ◌<◌, List, length, take, drop, arith, inl, inr}
use Rattle.std.specs.List.{All, Any, AllWithin}
use Rattle.std.specs.Bool.{MatchBool}
use Rattle.std.proofs.lemmas.Bool.{cases_lt}
use Rattle.std.proofs.lemmas.List.Elements.{All-from_all_within}
use Rattle.std.proofs.lemmas.List.{get_or-take, get_or-drop, length-take, length-drop}

pub joined : {X : Type 0} (P : X → Type 0) (xs : List X) (low i at end : ℕ) → at ≤ i → end ≤ length xs → AllWithin P xs low i
    → All P (take (end - at) (drop at xs)) → AllWithin P xs low end
joined P xs low i at end a b f h =
    λ k d l m.
    elim (cases_lt k i) [
      | inl e ↦ f k d l e
      | inr e ↦
          let q : at + (k - at) ≡ k = omega arith in
          let r : k - at < end - at = omega arith in
          let p = h (k - at) d (grind (arith, length-take, length-drop)) in
          rw (get_or-take (end - at) (drop at xs) (k - at) d r, get_or-drop at xs (k - at) d, q) at p
    ]

pub within : {X : Type 0} (P : X → Type 0) (xs : List X) (at n : ℕ) → Any P (take n (drop at xs)) → Any P xs
within P xs at n (k, x, l, e, p) =
    let r : k < n = grind (arith, length-take, length-drop) in
    let m : at + k < length xs = grind (arith, length-take, length-drop) in
    (at + k, x, m, rw (get_or-take n (drop at xs) k x r, get_or-drop at xs k x) at e, p)

-- the last block tells of all, where those before it pass
pub last : {X : Type 0} (P Q : X → Type 0) (xs : List X) (i at : ℕ) (b : Bool) → at ≤ i → AllWithin P xs 0 i
    → MatchBool b (All P (take (length xs - at) (drop at xs))) (Any Q (take (length xs - at) (drop at xs))) → MatchBool b (All P xs) (Any Q xs)
last P Q xs i at true a f h = All-from_all_within P xs (joined P xs 0 i at (length xs) a (omega arith) f h)
last P Q xs i at false a f h = within Q xs at _ h
