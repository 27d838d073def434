-- The character at a place: each of the ways in which the code's reading of it ends.
-- Assumes nothing.
use Prim.Native.Nat.{ℕ, suc, ◌+◌, ◌≤◌, ◌<◌}
use native.Mathlib.Omega.{arith}
use native.Mathlib.Numerals.{add-one}
use mathlib.Core.Path.{◌≡◌, refl, ◌∙◌}
use mathlib.Core.Bool.{Bool, true, false, ◌&&◌, ◌||◌, not, and-false, or-true, false≢true}
use mathlib.Core.List.{List, [], ◌∷◌}
use lib.Dec.{leb, ltb}
use borrow.Author.Tests.{le-leb, lt-leb, lt-ltb, le-ltb, leb-false, ltb-true, ltb-false}
use lib.ListN.{length, get_or, take, drop, drop_of_length-le, take-append-drop, get_or-eq_default}
use lib.Seq.{drop-cons, take-add}
use Rattle.utf8.specs.Utf8.{Range, within, UTF8-tail, octets, well_formed}
use Rattle.utf8.specs.Laws.{nothing, moves, append, append-is}
use Rattle.utf8.specs.Reading.{never, barred, second, tails, Character}
use Rattle.utf8.proofs.Tests.{split}
use Rattle.utf8.proofs.First.{stray, first, third-on}
use Rattle.utf8.proofs.Window.{taken, within-second, low-barred}

pub low : (x : ℕ) (t : List ℕ) → x < 0x80 → well_formed (x ∷ t) ≡ well_formed t
unfolding well_formed
low x t l =
    rw (moves, first x)
    (simp (lt-leb 0x80 x (omega arith), lt-leb 0xC0 x (omega arith), lt-leb 0xF5 x (omega arith), lt-ltb x 0x80 l))

-- the octets that begin no character
stray-low : (x : ℕ) → 0x80 ≤ x → x < 0xC2 → stray x ≡ true
stray-low x l m =
    split (λ (b : Bool). (leb 0x80 x && b || never x) ≡ true) (leb x 0xBF) (λ e. rw (le-leb 0x80 x l))
    (λ e. simp (le-leb 0xC0 x (omega (arith, leb-false x 0xBF e)), lt-ltb x 0xC2 m, and-false))

stray-high : (x : ℕ) → 0xF5 ≤ x → stray x ≡ true
stray-high x l = simp (le-leb 0xF5 x l, or-true)

stray-not : (x : ℕ) → 0xC2 ≤ x → x < 0xF5 → stray x ≡ false
stray-not x l m = simp (lt-leb x 0xBF (omega arith), le-ltb x 0xC2 l, lt-leb 0xF5 x m, and-false)

module _ (s : List ℕ) where
  -- a tail is an octet of the text: past its end stands 0, which is none
  pub inside : (i : ℕ) → within UTF8-tail (get_or s i 0) ≡ true → i < length s
  inside i e =
      split (λ (b : Bool). i < length s) (ltb i (length s)) (λ h. ltb-true i (length s) h)
      (λ h. absurd (false≢true (rw (get_or-eq_default s 0 (ltb-false i (length s) h)) at e)))

  eats : (i : ℕ) (r : Range) (rs : List Range) → within r 0 ≡ false
      → octets (r ∷ rs) (drop i s) ≡ (within r (get_or s i 0) && octets rs (drop (i + 1) s))
  unfolding octets
  eats i r rs e =
      split (λ (b : Bool). octets (r ∷ rs) (drop i s) ≡ (within r (get_or s i 0) && octets rs (drop (i + 1) s))) (ltb i (length s))
      (λ h. rw (add-one, drop-cons s i 0 (ltb-true i (length s) h)))
      (λ h. rw (get_or-eq_default s 0 (ltb-false i (length s) h), drop_of_length-le s (ltb-false i (length s) h), e))

  eats-tail : (i : ℕ) (rs : List Range) → octets (UTF8-tail ∷ rs) (drop i s) ≡ (within UTF8-tail (get_or s i 0) && octets rs (drop (i + 1) s))
  eats-tail i rs = eats i UTF8-tail rs refl

  cell : (i n : ℕ) → i < length s → take (suc n) (drop i s) ≡ get_or s i 0 ∷ take n (drop (i + 1) s)
  cell i n h = rw (add-one, drop-cons s i 0 h)

module _ (s : List ℕ) (i : ℕ) where
  abbrev x : ℕ
  x = get_or s i 0

  abbrev y : ℕ
  y = get_or s (i + 1) 0

  abbrev z : ℕ
  z = get_or s (i + 2) 0

  abbrev w : ℕ
  w = get_or s (i + 3) 0

  module _ (h : i < length s) where
    goes : (n : ℕ) → 0 < n → i + n ≤ length s → well_formed (take n (drop i s)) ≡ true → Character s i n
    goes n l m e = record { some = l; inside = m; whole = e }

    starts : well_formed (drop i s) ≡ well_formed (x ∷ drop (i + 1) s)
    starts = rw (add-one, drop-cons s i 0 h)

    pub one-octet : x < 0x80 → Character s i 1
    unfolding well_formed octets
    one-octet l = goes 1 (omega arith) (omega arith) (rw (cell s i 0 h) (low x [] l))

    begun : stray x ≡ false → 0x80 ≤ x → (t : List ℕ) → well_formed (x ∷ t) ≡ octets (second x ∷ third-on x) t
    unfolding well_formed
    begun e l t = rw (moves, first x, e, le-ltb x 0x80 l)

    reads : 0x80 ≤ x → well_formed (drop i s) ≡ (not (stray x) && (taken x y && octets (third-on x) (drop (i + 2) s)))
    unfolding well_formed
    reads l =
        let q : i + 1 + 1 ≡ i + 2 = omega arith in
        split (λ (b : Bool). well_formed (drop i s) ≡ (not b && (taken x y && octets (third-on x) (drop (i + 2) s)))) (stray x)
        (λ e. starts ∙ rw (moves, first x, e) (nothing (drop (i + 1) s)))
        (λ e.
        starts
        ∙ begun e l (drop (i + 1) s)
        ∙ eats s (i + 1) (second x) (third-on x) (within-second x 0)
        ∙ rw (within-second x y, q))

    pub no-first : 0x80 ≤ x → x < 0xC2 → well_formed (drop i s) ≡ false
    no-first l m = reads l ∙ rw (stray-low x l m)

    module _ (l : 0xC2 ≤ x) where
      pub too-high : 0xF5 ≤ x → well_formed (drop i s) ≡ false
      too-high m = reads (omega arith) ∙ rw (stray-high x m)

      pub no_second : within UTF8-tail y ≡ false → well_formed (drop i s) ≡ false
      no_second f = reads (omega arith) ∙ simp (f, and-false)

      pub barred-second : barred x y ≡ true → well_formed (drop i s) ≡ false
      barred-second f = reads (omega arith) ∙ simp (f, and-false)

      pub no_third : 0xE0 ≤ x → within UTF8-tail z ≡ false → well_formed (drop i s) ≡ false
      no_third m g =
          reads (omega arith)
          ∙ split (λ (p : Bool). (not (stray x) && (taken x y && octets (tails p (leb 0xE0 x)) (drop (i + 2) s))) ≡ false)
          (leb 0xF0 x)
          (λ p. simp (eats-tail s (i + 2), g, and-false))
          (λ p. simp (le-leb 0xE0 x m, eats-tail s (i + 2), g, and-false))

      pub no-fourth : 0xF0 ≤ x → within UTF8-tail w ≡ false → well_formed (drop i s) ≡ false
      no-fourth m g =
          let q : i + 2 + 1 ≡ i + 3 = omega arith in
          reads (omega arith) ∙ simp (le-leb 0xF0 x m, eats-tail s (i + 2), q, eats-tail s (i + 3), g, and-false)

      module _ (m : x < 0xF5) (t : within UTF8-tail y ≡ true) (b : barred x y ≡ false) where
        second-inside : i + 1 < length s
        second-inside = inside s (i + 1) t

        -- the octets from the third on decide
        decides : (r : List ℕ) → well_formed (x ∷ y ∷ r) ≡ octets (third-on x) r
        unfolding octets
        decides r = begun (stray-not x l m) (omega arith) (y ∷ r) ∙ rw (within-second x y, t, b)

        pub three-octets : 0xE0 ≤ x → x < 0xF0 → within UTF8-tail z ≡ true → Character s i 3
        unfolding octets
        three-octets m n g =
            let k = second-inside in
            let j = inside s (i + 2) g in
            let q : i + 1 + 1 ≡ i + 2 = omega arith in
            goes 3 (omega arith) (omega arith)
            (rw (cell s i 2 h, cell s (i + 1) 1 k, q, cell s (i + 2) 0 j, decides (z ∷ []))
            (simp (lt-leb 0xF0 x n, le-leb 0xE0 x m, g)))

        pub four-octets : 0xF0 ≤ x → within UTF8-tail z ≡ true → within UTF8-tail w ≡ true → Character s i 4
        unfolding octets
        four-octets m g g' =
            let k = second-inside in
            let j = inside s (i + 2) g in
            let j' = inside s (i + 3) g' in
            let q : i + 1 + 1 ≡ i + 2 = omega arith in
            let q' : i + 2 + 1 ≡ i + 3 = omega arith in
            goes 4 (omega arith) (omega arith)
            (rw (cell s i 3 h, cell s (i + 1) 2 k, q, cell s (i + 2) 1 j, q', cell s (i + 3) 0 j', decides (z ∷ w ∷ []))
            (simp (le-leb 0xF0 x m, g, g')))

      pub two-octets : x < 0xE0 → within UTF8-tail y ≡ true → Character s i 2
      unfolding octets
      two-octets m t =
          let k = inside s (i + 1) t in
          goes 2 (omega arith) (omega arith)
          (rw (cell s i 1 h, cell s (i + 1) 0 k, decides (omega arith) t (low-barred x y m) [])
          (simp (lt-leb 0xF0 x (omega arith), lt-leb 0xE0 x m)))

-- from character to character
module _ (s : List ℕ) (k : ℕ) (p : well_formed (take k s) ≡ true) where
  pub reaches : (n : ℕ) → Character s k n → well_formed (take (k + n) s) ≡ true
  reaches n c = rw (take-add k n s) (append (take k s) (take n (drop k s)) p c.whole)

  pub halts : well_formed (drop k s) ≡ false → well_formed s ≡ false
  halts e = rw (take-append-drop k s) at (append-is (take k s) (drop k s) p) ∙ e
