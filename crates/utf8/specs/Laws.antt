-- What may be cited of `well_formed`: how it goes octet by octet, that well-formed parts join, and the RFC's examples.
-- Assumes nothing.
use Rattle.std.specs.Prelude.{ℕ, zero, suc, ◌<◌, ◌≡◌, Bool, true, false, ◌&&◌, ◌||◌, cond, List, [], ◌∷◌, ◌++◌, leb}
use Rattle.std.proofs.Common.{arith, sym, ◌∙◌, le-leb, leb-true}
use Rattle.std.proofs.Math.Path.{refl}
use Rattle.std.proofs.Math.Bool.{or-false, and-eq-true_iff}
use Rattle.std.proofs.lemmas.Bool.{false≢true, lt-leb}
use Rattle.std.proofs.Math.Dec.{leb-suc-zero}
use Rattle.utf8.specs.Utf8.{Range, ◌to◌, within, Alternative, ◌then◌, UTF8-char, some, octets, well_formed}

-- the range of no octet
abbrev pub none : Range
none = 1 to 0

-- the ranges of the octets after x, the first octet of one of the alternatives
abbrev pub follow : List Alternative → ℕ → List Range
follow [] x = none ∷ []
follow ((r then rs) ∷ cs) x = cond (within r x) rs (follow cs x)

-- what is left of a UTF8-char after the octet x, where rs was left before it
abbrev pub next : List Range → ℕ → List Range
next [] x = follow UTF8-char x
next (r ∷ rs) x = cond (within r x) rs (none ∷ [])

-- where nothing more can match
pub nothing : (s : List ℕ) → octets (none ∷ []) s ≡ false
unfolding octets
nothing [] = refl
nothing (zero ∷ s) = refl
nothing (suc x ∷ s) = simp (le-leb 1 (suc x) (omega arith), leb-suc-zero)

-- c matches the octet x and what follows it
abbrev begins : ℕ → List ℕ → Alternative → Bool
begins x s (r then rs) = within r x && octets rs s

-- the alternatives begin with ranges in ascending order, the first not below n: so no octet begins two of them
abbrev ascending : ℕ → List Alternative → Bool
ascending n [] = true
ascending n ((a to b then rs) ∷ cs) = leb n a && (leb a b && ascending (suc b) cs)

module _ (x : ℕ) (s : List ℕ) where
  too-low : (n : ℕ) (cs : List Alternative) → ascending n cs ≡ true → x < n → some (begins x s) cs ≡ false
  too-low n [] e l = refl
  too-low n ((a to b then rs) ∷ cs) e l =
      let f = (and-eq-true_iff (leb n a) _).0 e in
      let g = (and-eq-true_iff (leb a b) _).0 f.1 in
      let p = leb-true n a f.0 in
      let q = leb-true a b g.0 in
      rw (lt-leb a x (omega arith)) (too-low (suc b) cs g.1 (omega arith))

  begin : (n : ℕ) (cs : List Alternative) → ascending n cs ≡ true → some (begins x s) cs ≡ octets (follow cs x) s
  begin n [] e = sym (nothing s)
  begin n ((a to b then rs) ∷ cs) e =
      let f = (and-eq-true_iff (leb n a) _).0 e in
      let g = (and-eq-true_iff (leb a b) _).0 f.1 in
      go (within (a to b) x) refl (begin (suc b) cs g.1) (λ l. too-low (suc b) cs g.1 l)
    where
      go : (w : Bool) → within (a to b) x ≡ w → some (begins x s) cs ≡ octets (follow cs x) s
          → (x < suc b → some (begins x s) cs ≡ false)
          → (w && octets rs s || some (begins x s) cs) ≡ octets (cond w rs (follow cs x)) s
      go true h f g = rw (g (omega (arith, leb-true x b ((and-eq-true_iff (leb a x) (leb x b)).0 h).1))) (or-false _)
      go false h f g = f

-- an octet that is read
pub moves : (rs : List Range) (x : ℕ) (s : List ℕ) → octets rs (x ∷ s) ≡ octets (next rs x) s
unfolding octets
moves [] x s = begin x s 0 UTF8-char refl
moves (r ∷ rs) x s = go (within r x)
  where
    go : (w : Bool) → (w && octets rs s) ≡ octets (cond w rs (none ∷ [])) s
    go true = refl
    go false = sym (nothing s)

joined : (rs : List Range) (a b : List ℕ) → octets rs a ≡ true → octets rs (a ++ b) ≡ octets [] b
unfolding octets
joined [] [] b e = refl
joined (r ∷ rs) [] b e = absurd (false≢true e)
joined rs (x ∷ a) b e = moves rs x (a ++ b) ∙ joined (next rs x) a b (sym (moves rs x a) ∙ e)

-- after a well-formed part, the rest decides
pub append-is : (a b : List ℕ) → well_formed a ≡ true → well_formed (a ++ b) ≡ well_formed b
unfolding well_formed
append-is a b e = joined [] a b e

pub append : (a b : List ℕ) → well_formed a ≡ true → well_formed b ≡ true → well_formed (a ++ b) ≡ true
append a b e f = append-is a b e ∙ f

-- the examples of section 7; and an overlong NUL, a surrogate pair, a number above 10FFFF, and a character cut short
module _ where
  greek : well_formed (0x41 ∷ 0xE2 ∷ 0x89 ∷ 0xA2 ∷ 0xCE ∷ 0x91 ∷ 0x2E ∷ []) ≡ true
  unfolding well_formed octets
  greek = refl

  korean : well_formed (0xED ∷ 0x95 ∷ 0x9C ∷ 0xEA ∷ 0xB5 ∷ 0xAD ∷ 0xEC ∷ 0x96 ∷ 0xB4 ∷ []) ≡ true
  unfolding well_formed octets
  korean = refl

  japanese : well_formed (0xE6 ∷ 0x97 ∷ 0xA5 ∷ 0xE6 ∷ 0x9C ∷ 0xAC ∷ 0xE8 ∷ 0xAA ∷ 0x9E ∷ []) ≡ true
  unfolding well_formed octets
  japanese = refl

  stump : well_formed (0xEF ∷ 0xBB ∷ 0xBF ∷ 0xF0 ∷ 0xA3 ∷ 0x8E ∷ 0xB4 ∷ []) ≡ true
  unfolding well_formed octets
  stump = refl

  overlong : well_formed (0xC0 ∷ 0x80 ∷ []) ≡ false
  unfolding well_formed octets
  overlong = refl

  surrogates : well_formed (0xED ∷ 0xA1 ∷ 0x8C ∷ 0xED ∷ 0xBE ∷ 0xB4 ∷ []) ≡ false
  unfolding well_formed octets
  surrogates = refl

  above : well_formed (0xF4 ∷ 0x90 ∷ 0x80 ∷ 0x80 ∷ []) ≡ false
  unfolding well_formed octets
  above = refl

  short : well_formed (0x41 ∷ 0xE2 ∷ 0x89 ∷ []) ≡ false
  unfolding well_formed octets
  short = refl
