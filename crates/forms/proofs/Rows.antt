-- Words that are 0, from a place on and cut out of a row.
use Rattle.std.proofs.Common.{List, [], Bool, true, false, cond, eq-eqb, ne_eqb, ◌≡◌, refl, sym, ap, ap₂, ◌∙◌, ℕ, zero, suc, ◌+◌, ◌-◌, ◌<◌, ◌≤◌, ◌&&◌, eqb, length, get_or, take, drop, ◌*◌, arith, length-take, length-drop}
use Rattle.std.proofs.lemmas.List.{drop-drop, get_or-drop, get_or-take}
use Rattle.std.proofs.Math.Bool.{and-false}
use Rattle.std.specs.Simd.{first_chunks}
use Rattle.std.specs.Bool.{MatchBool}
use Rattle.std.specs.List.{AllWithin, HoldsAt}
use Rattle.wire.specs.Token.{attribute}
use Rattle.event.specs.Words.{zeros, row_forms_in, opens, rows_form, attributes_only, single}
use Rattle.forms.specs.Placed.{inside_at}
use Rattle.event.proofs.Rows.{row-of-words, word-of-eight, forms-of-eight}

zeros-same : (w v : List ℕ) (i j n : ℕ) → ((k : ℕ) → k < n → get_or w (i + k) 0 ≡ get_or v (j + k) 0) → zeros w i n ≡ zeros v j n
unfolding zeros
zeros-same w v i j zero h = refl
zeros-same w v i j (suc n) h =
    ap₂ (λ (a b : Bool). a && b)
    (ap (λ (x : ℕ). eqb x 0) (ap (λ (k : ℕ). get_or w k 0) (omega arith) ∙ h 0 (omega arith) ∙ ap (λ (k : ℕ). get_or v k 0) (omega arith)))
    (zeros-same w v (suc i) (suc j) n (λ k l. ap (λ (m : ℕ). get_or w m 0) (omega arith) ∙ h (suc k) (omega arith) ∙ ap (λ (m : ℕ). get_or v m 0) (omega arith)))

-- the words of a part are those of the row
pub zeros_of_part : (w : List ℕ) (at n : ℕ) → at + n ≤ length w → zeros (take n (drop at w)) 0 (length (take n (drop at w))) ≡ zeros w at n
zeros_of_part w at n h =
    ap (zeros (take n (drop at w)) 0) (omega (arith, length-take n (drop at w), length-drop at w))
    ∙ zeros-same (take n (drop at w)) w 0 at n (λ k l. ap (λ (m : ℕ). get_or (take n (drop at w)) m 0) (omega arith) ∙ get_or-take n (drop at w) k 0 l ∙ get_or-drop at w k 0)

pub zeros_turn : (w : List ℕ) (k : ℕ) → k < length w → zeros w k (length w - k) ≡ (eqb (get_or w k 0) 0 && zeros w (k + 1) (length w - (k + 1)))
unfolding zeros
zeros_turn w k h =
    let left : length w - k ≡ suc (length w - (k + 1)) = omega arith in
    let next : suc k ≡ k + 1 = omega arith in
    rw (left, next)

-- ---- whole rows

pub rows_turn : (first second : List ℕ) (inside : Bool) (w row : List ℕ) (n k : ℕ) → k < n → row ≡ take 8 (drop (k * 8) w)
    → rows_form first second inside (n - k) (drop (k * 8) w)
    ≡ (row_forms_in first second inside row && rows_form first second (opens (get_or row 0 0)) (n - (k + 1)) (drop ((k + 1) * 8) w))
unfolding rows_form
rows_turn first second inside w row n k h e =
    let left : n - k ≡ suc (n - (k + 1)) = omega arith in
    let next : drop 8 (drop (k * 8) w) ≡ drop ((k + 1) * 8) w = drop-drop 8 (k * 8) w ∙ ap (λ (i : ℕ). drop i w) (omega arith) in
    rw (left, next, e, forms-of-eight, word-of-eight (drop (k * 8) w) 0 (omega arith))

pub rows_end : (first second : List ℕ) (inside : Bool) (w : List ℕ) (n k : ℕ) → n ≤ k → rows_form first second inside (n - k) (drop (k * 8) w) ≡ true
unfolding rows_form
rows_end first second inside w n k h = (let none : n - k ≡ 0 = omega arith in rw none)

-- the first word of a row
pub first-word : (w : List ℕ) (n k : ℕ) → k < n → get_or (get_or (first_chunks 8 n w) k []) 0 0 ≡ get_or w (8 * k) 0
first-word w n k h =
    ap (λ (row : List ℕ). get_or row 0 0) (row-of-words n k w [] h)
    ∙ word-of-eight (drop (k * 8) w) 0 (omega arith)
    ∙ get_or-drop (k * 8) w 0 0
    ∙ ap (λ (i : ℕ). get_or w i 0) (omega arith)

pub zeros_end : (w : List ℕ) (k : ℕ) → length w ≤ k → zeros w k (length w - k) ≡ true
unfolding zeros
zeros_end w k h = (let none : length w - k ≡ 0 = omega arith in rw none)

pub inside-same : (w : List ℕ) (n row : ℕ) → row < n → cond (eqb row 0) false (opens (get_or (get_or (first_chunks 8 n w) (row - 1) []) 0 0)) ≡ inside_at w row
unfolding inside_at
inside-same w n row h = rw (first-word w n (row - 1) (omega arith))

-- ---- a single event: after the first row attributes alone

abbrev Is : List ℕ → Type 0
Is row = get_or row 0 0 ≡ attribute

abbrev Other : List ℕ → Type 0
Other row = get_or row 0 0 ≡ attribute → ⊥

kind-of-first : (w : List ℕ) → get_or (take 8 w) 0 0 ≡ get_or w 0 0
kind-of-first w = word-of-eight w 0 (omega arith)

all-attributes : (n : ℕ) (w : List ℕ) → ((k : ℕ) (d : List ℕ) → k < n → Is (get_or (first_chunks 8 n w) k d)) → attributes_only n w ≡ true
unfolding attributes_only
all-attributes zero w h = refl
all-attributes (suc n) w h =
    rw (eq-eqb (get_or w 0 0) attribute (sym (kind-of-first w) ∙ h 0 [] (omega arith)))
    (all-attributes n (drop 8 w) (λ k d l. h (suc k) d (omega arith)))

some-other : (n : ℕ) (w : List ℕ) (k : ℕ) → k < n → Other (get_or (first_chunks 8 n w) k []) → attributes_only n w ≡ false
unfolding attributes_only
some-other zero w k l h = absurd (omega (arith, l))
some-other (suc n) w zero l h = rw (ne_eqb (get_or w 0 0) attribute (λ e. h (kind-of-first w ∙ e)))
some-other (suc n) w (suc k) l h = rw (some-other n (drop 8 w) k (omega arith) h) (and-false (eqb (get_or w 0 0) attribute))

length-chunks : (n : ℕ) (w : List ℕ) → length (first_chunks 8 n w) ≡ n
length-chunks zero w = refl
length-chunks (suc n) w = ap suc (length-chunks n (drop 8 w))

-- what `all` says of the rows after the first decides it
pub single-by-all : (w : List ℕ) (n : ℕ) (r : Bool) → 0 < n
    → MatchBool r (AllWithin Is (drop 1 (first_chunks 8 n w)) 0 (length (drop 1 (first_chunks 8 n w)))) ((k : ℕ) × (k < length (drop 1 (first_chunks 8 n w))) × HoldsAt Other (drop 1 (first_chunks 8 n w)) k)
    → r ≡ single n w
unfolding single
single-by-all w zero r some h = absurd (omega (arith, some))
single-by-all w (suc n) true some h = sym (all-attributes n (drop 8 w) (λ k d l. h k d (omega arith) (omega (arith, length-chunks n (drop 8 w)))))
single-by-all w (suc n) false some h = sym (some-other n (drop 8 w) h.0 (omega (arith, h.1, length-chunks n (drop 8 w))) (h.2 []))
