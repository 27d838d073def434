-- Laws of elements stored in a list from a place on; those that have no room are dropped.
use Rattle.std.specs.Prelude.{List, [], ◌∷◌, ◌++◌, ◌≡◌, refl, ℕ, zero, suc, ◌+◌, ◌≤◌, length, set, take, drop}
use Rattle.std.proofs.Common.{sym, arith, length-append, length-set, take_at, length-take-le}
use Rattle.std.proofs.lemmas.List.Edits.{sets, sets-eq}

-- all that is stored, where it has room
pub take-sets : (l vs : List ℕ) (at : ℕ) → at + length vs ≤ length l → take (at + length vs) (sets l at vs) ≡ take at l ++ vs
take-sets l vs at h =
    rw (sets-eq vs l at h)
    (take_at (take at l ++ vs) (drop (at + length vs) l) (at + length vs) (omega (arith, length-append (take at l) vs, length-take-le at l (omega arith))))

set_past : (l : List ℕ) (i x : ℕ) → length l ≤ i → set l i x ≡ l
set_past [] i x h = refl
set_past (y ∷ l) zero x h = absurd (omega arith)
set_past (y ∷ l) (suc i) x h = rw (set_past l i x (omega arith))

pub sets-past : (l vs : List ℕ) (at : ℕ) → length l ≤ at → sets l at vs ≡ l
sets-past l [] at h = refl
sets-past l (x ∷ vs) at h = rw (set_past l at x h) (sets-past l vs (suc at) (omega arith))

-- where only the first n have room
pub sets-take : (l vs : List ℕ) (at n : ℕ) → length l ≤ at + n → sets l at (take n vs) ≡ sets l at vs
sets-take l vs at zero h = sym (sets-past l vs at (omega arith))
sets-take l [] at (suc n) h = refl
sets-take l (x ∷ vs) at (suc n) h = sets-take (set l at x) vs (suc at) n (omega (arith, length-set l at x))
