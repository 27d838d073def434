-- What a first octet leaves to read, by a test that is computed at each octet.
-- Assumes nothing.
use Prim.Native.Nat.{ℕ, ◌≤◌, ◌<◌}
use native.Mathlib.Omega.{arith}
use mathlib.Core.Path.{◌≡◌, refl}
use mathlib.Core.Bool.{Bool, true, false, ◌&&◌, ◌||◌, cond, and-eq-true_iff, and-false, or-true, false≢true}
use mathlib.Core.List.{List, [], ◌∷◌}
use lib.Dec.{T, leb, ltb, eqb, lit<}
use borrow.Author.Tests.{le-leb, lt-leb, ltb-true, ltb-false, eqb-true}
use Rattle.utf8.specs.Utf8.{Range, ◌to◌, within, UTF8-tail, UTF8-char}
use Rattle.utf8.specs.Laws.{none, follow}
use Rattle.utf8.specs.Reading.{never, second, tails}
use Rattle.utf8.proofs.Tests.{at}

-- no character begins with x
abbrev pub stray : ℕ → Bool
stray x = within UTF8-tail x || never x

-- the octets after the second, where x is a first octet
abbrev pub third-on : ℕ → List Range
third-on x = tails (leb 0xF0 x) (leb 0xE0 x)

-- the octets after x, where it is ASCII or a first octet
abbrev pub rest_of : ℕ → List Range
rest_of x = cond (ltb x 0x80) [] (second x ∷ third-on x)

abbrev same : List Range → List Range → Bool
same [] [] = true
same [] (r ∷ rs) = false
same (r ∷ rs) [] = false
same ((a to b) ∷ rs) ((c to d) ∷ ss) = eqb a c && (eqb b d && same rs ss)

same→eq : (rs ss : List Range) → same rs ss ≡ true → rs ≡ ss
same→eq [] [] e = refl
same→eq [] (s ∷ ss) e = absurd (false≢true e)
same→eq (r ∷ rs) [] e = absurd (false≢true e)
same→eq ((a to b) ∷ rs) ((c to d) ∷ ss) e =
    let f = (and-eq-true_iff (eqb a c) _).0 e in
    let g = (and-eq-true_iff (eqb b d) _).0 f.1 in
    let p = eqb-true a c f.0 in
    let q = eqb-true b d g.0 in
    let h = same→eq rs ss g.1 in
    λ i. (p i to q i) ∷ h i

abbrev agrees : ℕ → Bool
agrees x = same (follow UTF8-char x) (cond (stray x) (none ∷ []) (rest_of x))

pub first : (x : ℕ) → follow UTF8-char x ≡ cond (stray x) (none ∷ []) (rest_of x)
first x = go (ltb x 256) refl
  where
    go : (b : Bool) → ltb x 256 ≡ b → follow UTF8-char x ≡ cond (stray x) (none ∷ []) (rest_of x)
    go true e = same→eq _ _ (at 256 agrees refl x (ltb-true x 256 e))
    go false e =
        let h : 256 ≤ x = ltb-false x 256 e in
        let no : (b : ℕ) → T (ltb b 256) → leb x b ≡ false = λ b t. let l : b < 256 = lit< t in lt-leb x b (omega arith) in
        simp (
          no 0x7F tt,
          no 0xBF tt,
          no 0xDF tt,
          no 0xE0 tt,
          no 0xEC tt,
          no 0xED tt,
          no 0xEF tt,
          no 0xF0 tt,
          no 0xF3 tt,
          no 0xF4 tt,
          le-leb 0xF5 x (omega arith),
          and-false,
          or-true,
        )
