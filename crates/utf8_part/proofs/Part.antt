-- A part of a text, told by a look at 96 octets, of which its own are ASCII.
-- Assumes nothing.
use Rattle.std.proofs.Common.{ℕ, zero, suc, ◌+◌, ◌≤◌, ◌<◌, ◌≡◌, refl, true, List, [], ◌∷◌, length, get_or, take, drop, min, inl, inr, arith}
use Rattle.std.proofs.lemmas.Bool.{cases_lt}
use Rattle.std.proofs.lemmas.List.{get_or-take, drop_all, take_all}
use Rattle.utf8.specs.Utf8.{octets, well_formed}
use Rattle.utf8.proofs.Ascii.{whole}
use Rattle.utf8_part.specs.Reading.{Low}

-- so many numbers from x on
unfoldable pub numbers : ℕ → ℕ → List ℕ
numbers zero x = []
numbers (suc n) x = x ∷ numbers n (suc x)

number_at : (n x k : ℕ) → k < n → get_or (numbers n x) k 0 ≡ x + k
unfolding numbers
number_at zero x k h = absurd (omega arith)
number_at (suc n) x zero h = omega arith
number_at (suc n) x (suc k) h = let e = number_at n (suc x) k (omega arith) in omega (arith, e)

-- the first n of 96 octets are looked at
pub part-whole : (s block : List ℕ) (n : ℕ) → n ≤ 96 → 96 ≤ length s → block ≡ take 96 s → Low block n (numbers 96 0) 96 → well_formed (take n s) ≡ true
part-whole s block n h l e b =
    whole s n (record {
      from = omega arith;
      inside = omega arith;
      low = λ k p q. rw (e, get_or-take 96 s k 0 (omega arith)) at (b.low k (omega arith) (omega (arith, number_at 96 0 k (omega arith))));
    })

-- where no octet is left, and where no more than n are
none_left : (n : ℕ) → well_formed (take n []) ≡ true
unfolding well_formed octets
none_left zero = refl
none_left (suc n) = refl

module _ (s : List ℕ) (i n : ℕ) where
  pub part-empty : length s ≤ i → well_formed (take n (drop i s)) ≡ true
  part-empty h = rw (drop_all i s h) (none_left n)

-- as many as there are
pub part : (n : ℕ) (s : List ℕ) → take (min n (length s)) s ≡ take n s
part n s =
    elim (cases_lt n (length s)) [
      | inl l ↦ let e : min n (length s) ≡ n = omega arith in rw e
      | inr l ↦ let e : min n (length s) ≡ length s = omega arith in rw (e, take_all (length s) s (omega arith), take_all n s l)
    ]
