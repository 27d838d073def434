-- Where an illegal character begins: place after place, over a block, and at the last places.
use Rattle.std.proofs.Common.{Bool, true, false, ◌&&◌, ◌||◌, not, List, ◌≡◌, refl, ◌∙◌, ap, ℕ, suc, ◌+◌, ◌≤◌, ◌<◌, arith, length, get_or, drop, drop-cons}
use Rattle.std.proofs.lemmas.List.{get_or-drop, drop_all}
use Rattle.xml_chars.specs.Scan.{clean}
use Rattle.xml_chars.specs.Reading.{illegal_at, IsAnyIllegal}

clean_at : (s : List ℕ) (i : ℕ) → i < length s → clean (drop i s) ≡ (not (illegal_at s i) && clean (drop (i + 1) s))
unfolding clean
clean_at s i h =
    let p : get_or (drop (suc i) s) 0 0 ≡ get_or s (i + 1) 0 = get_or-drop (suc i) s 0 0 ∙ ap (λ (k : ℕ). get_or s k 0) (omega arith) in
    let q : get_or (drop (suc i) s) 1 0 ≡ get_or s (i + 2) 0 = get_or-drop (suc i) s 1 0 ∙ ap (λ (k : ℕ). get_or s k 0) (omega arith) in
    let e : suc i ≡ i + 1 = omega arith in
    ap clean (drop-cons s i 0 h) ∙ rw (p, q) (ap (λ (k : ℕ). not (illegal_at s i) && clean (drop k s)) e)

-- one place more of a block
pub more : (s : List ℕ) (i k : ℕ) (any b : Bool) → k < length s → b ≡ illegal_at s k → IsAnyIllegal s i k any → IsAnyIllegal s i (k + 1) (any || b)
more s i k any b h e f = f ∙ rw (clean_at s k h, ← e) (go any b (clean (drop (k + 1) s)))
  where
    go : (a b c : Bool) → (not a && (not b && c)) ≡ (not (a || b) && c)
    go true b c = refl
    go false b c = refl

pub passes : (s : List ℕ) (i : ℕ) → i < length s → illegal_at s i ≡ false → clean (drop i s) ≡ clean (drop (i + 1) s)
passes s i h e = clean_at s i h ∙ rw e

pub stops : (s : List ℕ) (i : ℕ) → i < length s → illegal_at s i ≡ true → clean (drop i s) ≡ false
stops s i h e = clean_at s i h ∙ rw e

pub ends : (s : List ℕ) (i : ℕ) → length s ≤ i → clean (drop i s) ≡ true
unfolding clean
ends s i h = rw (drop_all i s h)
