-- How many bytes a string takes over its own where its characters are escaped.
use Rattle.std.specs.Prelude.{Bool, true, false, ◌&&◌, ◌||◌, not, cond, List, [], ◌∷◌, ◌++◌, ◌≡◌, refl, ℕ, ◌+◌, ◌*◌, ◌≤◌, leb, eqb, length, ◌-◌, take, drop}
use Rattle.std.proofs.lemmas.Bool.{false≢true}
use Rattle.std.proofs.Common.{append_assoc, sym, arith, eqb-true, length-append}
use Rattle.grammar.proofs.Choice.{by_test}
use Rattle.xml_spec.specs.Xml.{escaped, escape}

-- of an octet
unfoldable pub extra : ℕ → ℕ
extra b = cond (eqb b 60 || eqb b 62) 3 0 + cond (eqb b 34 || eqb b 39) 5 0 + cond (eqb b 38) 4 0

-- one of many that are not escaped
abbrev pub plain : ℕ → Bool
plain b = (leb 40 b || eqb b 32) && not (eqb b 60) && not (eqb b 62)

-- of a string
unfoldable pub extras : List ℕ → ℕ
extras [] = 0
extras (b ∷ s) = extra b + extras s

-- none of the octets from i up to j is escaped
pub record Bare (s : List ℕ) (i j : ℕ) : Type 0 where
  pub from : i ≤ j
  pub inside : j ≤ length s
  pub none : extras (take (j - i) (drop i s)) ≡ 0

-- ---- an octet

-- by the first of the five that it is
by-octet : (P : ℕ → Type 0) (b : ℕ) → P 60 → P 62 → P 38 → P 34 → P 39
    → (eqb b 60 ≡ false → eqb b 62 ≡ false → eqb b 38 ≡ false → eqb b 34 ≡ false → eqb b 39 ≡ false → P b) → P b
by-octet P b p q r t u f =
    by_test (eqb b 60) (λ e. rw (eqb-true b 60 e) p) (λ e.
    by_test (eqb b 62) (λ g. rw (eqb-true b 62 g) q) (λ g.
    by_test (eqb b 38) (λ h. rw (eqb-true b 38 h) r) (λ h.
    by_test (eqb b 34) (λ k. rw (eqb-true b 34 k) t) (λ k.
    by_test (eqb b 39) (λ l. rw (eqb-true b 39 l) u) (λ l. f e g h k l)))))

escaped-length : (b : ℕ) → length (escaped b) ≡ 1 + extra b
unfolding escaped extra
escaped-length b =
    by-octet (λ (x : ℕ). length (escaped x) ≡ 1 + extra x) b refl refl refl refl refl (λ e g h k l. rw (e, g, h, k, l))

escaped-bare : (b : ℕ) → extra b ≡ 0 → escaped b ≡ b ∷ []
unfolding escaped extra
escaped-bare b =
    by-octet (λ (x : ℕ). extra x ≡ 0 → escaped x ≡ x ∷ []) b
    (λ z. absurd (omega arith)) (λ z. absurd (omega arith)) (λ z. absurd (omega arith)) (λ z. absurd (omega arith)) (λ z. absurd (omega arith))
    (λ e g h k l z. rw (e, g, h, k, l))

pub extra-most : (b : ℕ) → extra b ≤ 5
unfolding extra
extra-most b =
    by-octet (λ (x : ℕ). extra x ≤ 5) b (omega arith) (omega arith) (omega arith) (omega arith) (omega arith)
    (λ e g h k l. rw (e, g, h, k, l) (omega arith))

pub extra-plain : (b : ℕ) → plain b ≡ true → extra b ≡ 0
unfolding extra
extra-plain b =
    by-octet (λ (x : ℕ). plain x ≡ true → extra x ≡ 0) b
    (λ z. absurd (false≢true z)) (λ z. absurd (false≢true z)) (λ z. absurd (false≢true z)) (λ z. absurd (false≢true z)) (λ z. absurd (false≢true z))
    (λ e g h k l z. rw (e, g, h, k, l))

-- ---- a string

pub escape-append : (a b : List ℕ) → escape (a ++ b) ≡ escape a ++ escape b
unfolding escape
escape-append [] b = refl
escape-append (x ∷ a) b = rw (escape-append a b) (sym (append_assoc (escaped x) (escape a) (escape b)))

pub extras-append : (a b : List ℕ) → extras (a ++ b) ≡ extras a + extras b
unfolding extras
extras-append [] b = omega arith
extras-append (x ∷ a) b = omega (arith, extras-append a b)

pub escape-length : (s : List ℕ) → length (escape s) ≡ length s + extras s
unfolding escape extras
escape-length [] = refl
escape-length (b ∷ s) = omega (arith, length-append (escaped b) (escape s), escaped-length b, escape-length s)

pub escape-bare : (s : List ℕ) → extras s ≡ 0 → escape s ≡ s
unfolding escape extras
escape-bare [] e = refl
escape-bare (b ∷ s) e = rw (escaped-bare b (omega arith), escape-bare s (omega arith))

pub extras-most : (s : List ℕ) → extras s ≤ 5 * length s
unfolding extras
extras-most [] = omega arith
extras-most (b ∷ s) = omega (arith, extra-most b, extras-most s)
