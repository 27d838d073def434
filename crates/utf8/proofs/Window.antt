-- A text read by its last three octets.
-- Assumes nothing.
use Prim.Native.Nat.{ℕ, ◌≤◌, ◌<◌}
use native.Mathlib.Omega.{arith}
use mathlib.Core.Path.{◌≡◌, refl, sym}
use mathlib.Core.Bool.{Bool, true, false, ◌&&◌, ◌||◌, not, cond, beq, and-true, and-false, or-false, and-eq-true_iff}
use mathlib.Core.List.{List, [], ◌∷◌}
use lib.Dec.{leb, ltb, eqb}
use borrow.Author.Tests.{le-leb, lt-leb, leb-true, leb-false, ltb-true, ltb-false, eqb-true, ne_eqb}
use Rattle.utf8.specs.Utf8.{Range, ◌to◌, within, UTF8-tail, octets}
use Rattle.utf8.specs.Laws.{none, nothing, moves}
use Rattle.utf8.specs.Reading.{never, barred, due, broken, second, tails, left}
use Rattle.utf8.proofs.Tests.{split, neither, beq→eq, below, at}
use Rattle.utf8.proofs.First.{first, third-on, rest_of}

-- what the code asks of a second octet: a tail that is not barred
abbrev pub taken : ℕ → ℕ → Bool
taken c x = within UTF8-tail x && not (barred c x)

-- the same for a range of second octets, by a test that antt computes at each octet
abbrev agrees : ℕ → ℕ → ℕ → ℕ → Bool
agrees a b c x = beq (within (a to b) x) (taken c x)

special : (a b c : ℕ) → b < 256 → below 256 (agrees a b c) ≡ true → (x : ℕ) → within (a to b) x ≡ taken c x
special a b c l e x =
    split (λ (t : Bool). within (a to b) x ≡ taken c x) (ltb x 256)
    (λ h. beq→eq _ _ (at 256 (agrees a b c) e x (ltb-true x 256 h)))
    (λ h.
    let k : 256 ≤ x = ltb-false x 256 h in
    simp (lt-leb x b (omega arith), lt-leb x 0xBF (omega arith), and-false))

not-barred : (c x : ℕ) → (eqb c 0xE0 ≡ false) × (eqb c 0xED ≡ false) × (eqb c 0xF0 ≡ false) × (eqb c 0xF4 ≡ false)
    → barred c x ≡ false
not-barred c x h = go (ltb x 0xA0) (ltb x 0x90)
  where
    go : (l m : Bool) → (eqb c (cond l 0xE0 0xED) || eqb c (cond m 0xF0 0xF4)) ≡ false
    go true true = rw (h.0, h.2)
    go true false = rw (h.0, h.3)
    go false true = rw (h.1, h.2)
    go false false = rw (h.1, h.3)

either : (c k x : ℕ) (r q : Range) → within r x ≡ taken k x → (eqb c k ≡ false → within q x ≡ taken c x)
    → within (cond (eqb c k) r q) x ≡ taken c x
either c k x r q e f = split (λ (t : Bool). within (cond t r q) x ≡ taken c x) (eqb c k) (λ h. rw (eqb-true c k h) e) f

pub within-second : (c x : ℕ) → within (second c) x ≡ taken c x
within-second c x =
    either c 0xE0 x _ _ (special 0xA0 0xBF 0xE0 (omega arith) refl x) (λ h0.
    either c 0xED x _ _ (special 0x80 0x9F 0xED (omega arith) refl x) (λ h1.
    either c 0xF0 x _ _ (special 0x90 0xBF 0xF0 (omega arith) refl x) (λ h2.
    either c 0xF4 x _ _ (special 0x80 0x8F 0xF4 (omega arith) refl x) (λ h3.
    rw (not-barred c x (h0, h1, h2, h3)) (sym (and-true _))))))

tail-high : (x : ℕ) → within UTF8-tail x ≡ true → x ≤ 0xBF
tail-high x e = leb-true x 0xBF ((and-eq-true_iff (leb 0x80 x) _).0 e).1

-- below E0 no octet asks for a special successor
ordinary : (x : ℕ) → x < 0xE0 → (eqb x 0xE0 ≡ false) × (eqb x 0xED ≡ false) × (eqb x 0xF0 ≡ false) × (eqb x 0xF4 ≡ false)
ordinary x l =
    let ne : (k : ℕ) → 0xE0 ≤ k → eqb x k ≡ false = λ k m. ne_eqb x k (λ e. omega arith) in
    (ne 0xE0 (omega arith), ne 0xED (omega arith), ne 0xF0 (omega arith), ne 0xF4 (omega arith))

low_second : (x : ℕ) → x < 0xC0 → second x ≡ UTF8-tail
low_second x l =
    let h = ordinary x (omega arith) in
    rw (h.0, h.1, h.2, h.3)

pub low-barred : (c x : ℕ) → c < 0xE0 → barred c x ≡ false
low-barred c x l = not-barred c x (ordinary c l)

-- where nothing is due
pub bounds : (a b c : ℕ) → due a b c ≡ false → (a < 0xF0) × (b < 0xE0) × (c < 0xC0)
bounds a b c d =
    let h = neither (leb 0xC0 c || leb 0xE0 b) (leb 0xF0 a) d in
    let g = neither (leb 0xC0 c) (leb 0xE0 b) h.0 in
    (leb-false 0xF0 a h.1, leb-false 0xE0 b g.1, leb-false 0xC0 c g.0)

-- what is left after the octet that is due
abbrev more : ℕ → ℕ → List Range
more b c = tails (leb 0xF0 c) (leb 0xE0 c || leb 0xF0 b)

left-tail : (b c x : ℕ) → x < 0xC0 → left b c x ≡ more b c
left-tail b c x l =
    simp (low_second x l, lt-leb 0xF0 x (omega arith), lt-leb 0xE0 x (omega arith), lt-leb 0xC0 x (omega arith))
    (split (λ (p : Bool). cond (leb 0xE0 c || leb 0xF0 b) (UTF8-tail ∷ cond p (UTF8-tail ∷ []) []) [] ≡ tails p (leb 0xE0 c || leb 0xF0 b))
    (leb 0xF0 c)
    (λ h. let k = leb-true 0xF0 c h in rw (le-leb 0xE0 c (omega arith)))
    (λ h. refl))

left-first : (b c x : ℕ) → b < 0xE0 → c < 0xC0 → within UTF8-tail x ≡ false → left b c x ≡ rest_of x
left-first b c x l m e =
    simp (lt-leb 0xE0 c (omega arith), lt-leb 0xF0 b (omega arith), lt-leb 0xF0 c (omega arith), or-false)
    (split (λ (t : Bool). cond (leb 0xC0 x) (second x ∷ third-on x) [] ≡ cond t [] (second x ∷ third-on x)) (ltb x 0x80)
    (λ h. let k = ltb-true x 0x80 h in rw (lt-leb 0xC0 x (omega arith)))
    (λ h.
    let k = ltb-false x 0x80 h in
    let n : leb x 0xBF ≡ false = rw (le-leb 0x80 x k) at e in
    rw (le-leb 0xC0 x (omega (arith, leb-false x 0xBF n)))))

abbrev Step : ℕ → ℕ → ℕ → ℕ → List ℕ → Type 0
Step a b c x s = octets (left a b c) (x ∷ s) ≡ (not (broken a b c x) && octets (left b c x) s)

step-due : (a b c x : ℕ) (s : List ℕ) → due a b c ≡ true → Step a b c x s
unfolding octets
step-due a b c x s d = rw (d, within-second c x) (go (within UTF8-tail x) refl)
  where
    go : (t : Bool) → within UTF8-tail x ≡ t → (t && not (barred c x) && octets (more b c) s)
        ≡ (not (not (beq true t) || never x || barred c x) && octets (left b c x) s)
    go true e =
        let l = tail-high x e in
        rw (left-tail b c x (omega arith)) (simp (lt-leb 0xC0 x (omega arith), lt-leb 0xF5 x (omega arith)))
    go false e = refl

step-not-due : (a b c x : ℕ) (s : List ℕ) → due a b c ≡ false → Step a b c x s
step-not-due a b c x s d =
    let h = bounds a b c d in
    rw (d, moves, first x) (go h.2 h.1 (within UTF8-tail x) (never x) refl)
  where
    go : c < 0xC0 → b < 0xE0 → (t n : Bool) → within UTF8-tail x ≡ t → octets (cond (t || n) (none ∷ []) (rest_of x)) s
        ≡ (not (not (beq false t) || n || barred c x) && octets (left b c x) s)
    go l m true n e = nothing s
    go l m false true e = nothing s
    go l m false false e = rw (low-barred c x (omega arith), left-first b c x m l e)

pub step : (a b c x : ℕ) (s : List ℕ) → Step a b c x s
step a b c x s = split (λ (t : Bool). Step a b c x s) (due a b c) (λ d. step-due a b c x s d) (λ d. step-not-due a b c x s d)

-- ASCII where nothing is due
pub low-next : (a b c x : ℕ) → due a b c ≡ false → x < 0x80 → (due b c x ≡ false) × (broken a b c x ≡ false)
low-next a b c x d l =
    let h = bounds a b c d in (
      simp (lt-leb 0xC0 x (omega arith), lt-leb 0xE0 c (omega arith), lt-leb 0xF0 b (omega arith)),
      rw (d, low-barred c x (omega arith)) (simp (lt-leb 0x80 x (omega arith), lt-leb 0xC0 x (omega arith), lt-leb 0xF5 x (omega arith))),
    )
