-- A text read by its last three octets: at a place of it.
-- Assumes nothing.
use Prim.Native.Nat.{ℕ, zero, suc, ◌+◌, ◌-◌, ◌≤◌, ◌<◌}
use native.Mathlib.Omega.{arith}
use native.Mathlib.Nat.{add-zero}
use native.Mathlib.Numerals.{add-one}
use mathlib.Core.Path.{◌≡◌, refl, sym, ◌∙◌, ap}
use mathlib.Core.Bool.{Bool, true, false, ◌&&◌, ◌||◌, not, and-false, and_assoc, and-eq-true_iff, false≢true}
use mathlib.Core.List.{List, [], ◌∷◌}
use borrow.Author.Tests.{leb-true, leb-false, not-true}
use lib.Dec.{leb}
use lib.ListN.{length, get_or, take, drop, take-append-drop, drop_of_length-le}
use lib.Seq.{drop-cons, get_or-take, length-take-le}
use Rattle.utf8.specs.Utf8.{octets, well_formed}
use Rattle.utf8.specs.Laws.{append-is}
use Rattle.utf8.specs.Reading.{due, broken, left, due_at, broken_at, after, Ascii, Scan}
use Rattle.utf8.proofs.Tests.{split, neither}
use Rattle.utf8.proofs.Window.{step, low-next}

-- the next octet is read
reads : (s : List ℕ) (i : ℕ) → i + 3 < length s → after s i ≡ (not (broken_at s i) && after s (i + 1))
unfolding after broken_at
reads s i h =
    let e1 : i + 1 + 1 ≡ i + 2 = omega arith in
    let e2 : i + 1 + 2 ≡ i + 3 = omega arith in
    let e3 : i + 1 + 3 ≡ suc (i + 3) = omega arith in
    rw (e1, e2, e3, drop-cons s (i + 3) 0)
    (step (get_or s i 0) (get_or s (i + 1) 0) (get_or s (i + 2) 0) (get_or s (i + 3) 0) (drop (suc (i + 3)) s))

pub turn : (s : List ℕ) (i : ℕ) → i + 3 < length s → broken_at s i ≡ false → after s (i + 1) ≡ after s i
turn s i h e = sym (reads s i h ∙ rw e)

-- at the end
pub ends : (s : List ℕ) (i : ℕ) → i + 3 ≡ length s → after s i ≡ not (due_at s i)
unfolding after due_at octets
ends s i h = rw (drop_of_length-le s {i = i + 3} (omega arith)) (go (get_or s i 0) (get_or s (i + 1) 0) (get_or s (i + 2) 0))
  where
    go : (a b c : ℕ) → octets (left a b c) [] ≡ not (due a b c)
    go a b c = split (λ (t : Bool). octets (left a b c) [] ≡ not t) (due a b c) (λ d. rw d) (λ d. rw d)

-- s is well-formed where it is up to i and three, which g says, and from there on
guarded : (s : List ℕ) (i : ℕ) → i + 3 ≤ length s → (g : Bool) × (well_formed s ≡ (g && after s i))
unfolding well_formed after
guarded [] zero h = absurd (omega arith)
guarded (x ∷ []) zero h = absurd (omega arith)
guarded (x ∷ y ∷ []) zero h = absurd (omega arith)
guarded (x ∷ y ∷ z ∷ s) zero h =
    let a = not (broken 0 0 0 x) in
    let b = not (broken 0 0 x y) in
    let c = not (broken 0 x y z) in
    let e = step 0 0 x y (z ∷ s) ∙ ap (λ (t : Bool). b && t) (step 0 x y z s) in
    (a && (b && c), step 0 0 0 x (y ∷ z ∷ s) ∙ ap (λ (t : Bool). a && t) e ∙ sym (rw (and_assoc a (b && c), and_assoc b c)))
guarded s (suc i) h =
    let g = guarded s i (omega arith) in
    (g.0 && not (broken_at s i), rw (← add-one i) (g.1 ∙ rw (reads s i (omega arith)) (sym (and_assoc g.0 _ _))))

-- one broken octet
pub breaks : (s : List ℕ) (i : ℕ) → i + 3 < length s → broken_at s i ≡ true → well_formed s ≡ false
breaks s i h e = let g = guarded s i (omega arith) in g.1 ∙ rw (reads s i h, e) (and-false g.0)

-- after a well-formed part nothing is due
due-take : (s : List ℕ) (i : ℕ) → due_at (take (i + 3) s) i ≡ due_at s i
unfolding due_at
due-take s i =
    rw (
      get_or-take (i + 3) s i 0 (omega arith),
      get_or-take (i + 3) s (i + 1) 0 (omega arith),
      get_or-take (i + 3) s (i + 2) 0 (omega arith),
    )

quiet : (s : List ℕ) (i : ℕ) → due_at s i ≡ false → after s i ≡ well_formed (drop (i + 3) s)
unfolding after due_at well_formed
quiet s i d = rw d

pub enter : (s : List ℕ) (i : ℕ) → i + 3 ≤ length s → well_formed (take (i + 3) s) ≡ true
    → (due_at s i ≡ false) × (well_formed s ≡ after s i)
enter s i h e =
    let u = take (i + 3) s in
    let n = length-take-le (i + 3) s h in
    let g = guarded u i (omega arith) in
    let p = ((and-eq-true_iff g.0 _).0 (sym g.1 ∙ e)).1 in
    let d : due_at s i ≡ false = sym (due-take s i) ∙ not-true (due_at u i) (sym (ends u i (sym n)) ∙ p) in
    (d, sym (quiet s i d ∙ sym (append-is u (drop (i + 3) s) e) ∙ ap well_formed (take-append-drop (i + 3) s)))

-- octets of ASCII where nothing is due
ascii-one : (s : List ℕ) (i : ℕ) → i + 3 < length s → due_at s i ≡ false → get_or s (i + 3) 0 < 0x80
    → (due_at s (i + 1) ≡ false) × (after s (i + 1) ≡ after s i)
unfolding due_at broken_at
ascii-one s i h d l =
    let e1 : i + 1 + 1 ≡ i + 2 = omega arith in
    let e2 : i + 1 + 2 ≡ i + 3 = omega arith in
    let n = low-next (get_or s i 0) (get_or s (i + 1) 0) (get_or s (i + 2) 0) (get_or s (i + 3) 0) d l in
    (rw (e1, e2) n.0, turn s i h n.1)

ascii_run : (s : List ℕ) (i n : ℕ) → Ascii s (i + 3) (i + n + 3) → due_at s i ≡ false
    → (due_at s (i + n) ≡ false) × (after s (i + n) ≡ after s i)
ascii_run s i zero a d = rw add-zero (d, refl)
ascii_run s i (suc n) a d =
    let e : i + suc n ≡ i + n + 1 = omega arith in
    let b : Ascii s (i + 3) (i + n + 3) = record { from = omega arith; inside = omega arith; low = λ k l m. a.low k l (omega arith) } in
    let f = ascii_run s i n b d in
    let g = ascii-one s (i + n) (omega arith) f.0 (a.low (i + n + 3) (omega arith) (omega arith)) in
    rw e (g.0, g.1 ∙ f.1)

pub over-ascii : (s : List ℕ) (i j : ℕ) → Ascii s (i + 3) (j + 3) → due_at s i ≡ false
    → (due_at s j ≡ false) × (after s j ≡ after s i)
over-ascii s i j a d =
    let e : i + (j - i) ≡ j = omega arith in
    rw e at (ascii_run s i (j - i) (rw e a) d)

-- the octets of a block
pub scan-none : (s : List ℕ) (i : ℕ) → Scan s i 0 false
scan-none s i = record { clean = λ e j l. let q : i + j ≡ i = omega arith in rw q; found = λ e. absurd (false≢true e) }

pub scan-more : (s : List ℕ) (i k : ℕ) (any b : Bool) → i + k + 3 < length s → b ≡ broken_at s (i + k)
    → Scan s i k any → Scan s i (k + 1) (any || b)
scan-more s i k any b h q a = record {
  clean = λ e j l.
      let f = neither any b e in
      split (λ (t : Bool). after s (i + j) ≡ after s i) (leb j k) (λ m. a.clean f.0 j (leb-true j k m))
      (λ m.
      let p : i + j ≡ i + k + 1 = omega (arith, leb-false j k m) in
      rw p (turn s (i + k) h (sym q ∙ f.1) ∙ a.clean f.0 k (omega arith)));
  found = λ e.
      split (λ (t : Bool). (t || b) ≡ true → well_formed s ≡ false) any (λ t u. a.found t) (λ t u. breaks s (i + k) h (sym q ∙ u)) e;
}
