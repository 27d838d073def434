-- Illegal characters of a well-formed string, octet by octet: a string is legal where none begins at any place.
use Rattle.std.specs.Prelude.{Bool, true, false, ◌&&◌, ◌||◌, not, cond, List, [], ◌∷◌, ◌≡◌, refl, ℕ, zero, suc, ◌+◌, ◌*◌, ◌-◌, ◌≤◌, ◌<◌, ltb, leb, eqb, length, get_or}
use Rattle.std.proofs.Math.Bool.{and-eq-true_iff, and-false, or-true, or-false}
use Rattle.std.proofs.lemmas.Bool.{false≢true, lt-leb, eqb-false}
use Rattle.std.proofs.Common.{sym, ◌∙◌, arith, lt-ltb, le-ltb, le-leb, ne_eqb, leb-true, leb-false, eqb-true}
use Rattle.grammar.proofs.Choice.{by_test}
use Rattle.utf8.specs.Utf8.{Range, ◌to◌, within, UTF8-tail, Alternative, ◌then◌, UTF8-char, octets, well_formed}
use Rattle.utf8.specs.Laws.{follow, nothing, moves}
use Rattle.xml_spec.specs.Chars.{is_char, chars_from, all_chars, legal}

-- C0 controls but tab, line feed and carriage return
abbrev pub control : ℕ → Bool
control b = ltb b 32 && not (eqb b 9) && not (eqb b 10) && not (eqb b 13)

-- the octets of U+FFFE or U+FFFF
abbrev pub noncharacter : ℕ → ℕ → ℕ → Bool
noncharacter a b c = eqb a 0xEF && eqb b 0xBF && leb 0xBE c

-- an illegal character begins with the octets a, b and c
abbrev pub illegal : ℕ → ℕ → ℕ → Bool
illegal a b c = control a || noncharacter a b c

-- none begins at any place; past the end stands 0, which is the third octet of no such character
unfoldable pub clean : List ℕ → Bool
clean [] = true
clean (b ∷ s) = not (illegal b (get_or s 0 0) (get_or s 1 0)) && clean s

-- ---- Char, by ranges

char-low : (c : ℕ) → 32 ≤ c → c ≤ 55295 → is_char c ≡ true
unfolding is_char
char-low c l m = simp (le-leb 32 c l, le-leb c 55295 m, or-true)

char-middle : (c : ℕ) → 57344 ≤ c → c ≤ 65533 → is_char c ≡ true
unfolding is_char
char-middle c l m = simp (le-leb 57344 c l, le-leb c 65533 m, or-true)

char-high : (c : ℕ) → 65536 ≤ c → c ≤ 1114111 → is_char c ≡ true
unfolding is_char
char-high c l m = simp (le-leb 65536 c l, le-leb c 1114111 m, or-true)

char-none : (c : ℕ) → 65534 ≤ c → c < 65536 → is_char c ≡ false
unfolding is_char
char-none c l m =
    simp (
      ne_eqb c 9 (λ e. omega arith),
      ne_eqb c 10 (λ e. omega arith),
      ne_eqb c 13 (λ e. omega arith),
      lt-leb c 55295 (omega arith),
      lt-leb c 65533 (omega arith),
      lt-leb 65536 c (omega arith),
      and-false,
    )

char-one : (c : ℕ) → c < 128 → is_char c ≡ not (control c)
unfolding is_char
char-one c h =
    by_test (leb 32 c) (λ e. let l = leb-true 32 c e in char-low c l (omega arith) ∙ rw (le-ltb c 32 l))
    (λ e. let l = leb-false 32 c e in
    simp (e, lt-ltb c 32 l, lt-leb 57344 c (omega arith), lt-leb 65536 c (omega arith), or-false) (go (eqb c 9) (eqb c 10) (eqb c 13)))
  where
    go : (p q r : Bool) → (p || q || r) ≡ not (not p && not q && not r)
    go true q r = refl
    go false true r = refl
    go false false true = refl
    go false false false = refl

-- ---- octets that begin no illegal character

pub clean-on : (x : ℕ) (s : List ℕ) → 32 ≤ x → (x ≡ 0xEF → ⊥) → clean (x ∷ s) ≡ clean s
unfolding clean
clean-on x s l n = rw (le-ltb x 32 l, ne_eqb x 0xEF n)

clean-low : (x : ℕ) (s : List ℕ) → x < 128 → clean (x ∷ s) ≡ (is_char x && clean s)
unfolding clean
clean-low x s h = rw (ne_eqb x 0xEF (λ e. omega arith), or-false (control x), char-one x h)

-- ---- the octets of a character

-- a claim for each of the alternatives that the octet x may begin
abbrev Each : Type 0 → ℕ → List ℕ → List Alternative → Type 0
Each P x s [] = Unit {0}
Each P x s ((r then rs) ∷ cs) = (within r x ≡ true → octets rs s ≡ true → P) × Each P x s cs

infixr 20 ◌also◌
abbrev ◌also◌ : {A B : Type 0} → A → B → A × B
a also b = (a, b)

by_first : (P : Type 0) (x : ℕ) (s : List ℕ) (cs : List Alternative) → Each P x s cs → octets (follow cs x) s ≡ true → P
by_first P x s [] f w = absurd (false≢true (sym (nothing s) ∙ w))
by_first P x s ((r then rs) ∷ cs) f w = go (within r x) refl (by_first P x s cs f.1) w
  where
    go : (b : Bool) → within r x ≡ b → (octets (follow cs x) s ≡ true → P) → octets (cond b rs (follow cs x)) s ≡ true → P
    go true e g v = f.0 e v
    go false e g v = g v

-- an octet after it
by_next : (P : List ℕ → Type 0) (a b : ℕ) (rs : List Range) (s : List ℕ) → octets (a to b ∷ rs) s ≡ true
    → ((y : ℕ) (t : List ℕ) → a ≤ y → y ≤ b → octets rs t ≡ true → P (y ∷ t)) → P s
unfolding octets
by_next P a b rs [] w f = absurd (false≢true w)
by_next P a b rs (y ∷ t) w f =
    let e = (and-eq-true_iff (within (a to b) y) _).0 w in
    let i = (and-eq-true_iff (leb a y) _).0 e.0 in
    f y t (leb-true a y i.0) (leb-true y b i.1) e.1

-- the law, of a string of at most n octets
abbrev Law : ℕ → Type 0
Law n = (s : List ℕ) → length s ≤ n → octets [] s ≡ true → all_chars (chars_from 0 0 s) ≡ clean s

abbrev Holds : List ℕ → Type 0
Holds s = all_chars (chars_from 0 0 s) ≡ clean s

one : (n x : ℕ) (s : List ℕ) → Law n → length s ≤ n → x < 128 → octets [] s ≡ true → Holds (x ∷ s)
unfolding chars_from all_chars
one n x s law l h w = rw (lt-ltb x 128 h, clean-low x s h, law s l w)

two : (n x y : ℕ) (s : List ℕ) → Law n → length s ≤ n → 0xC2 ≤ x → x ≤ 0xDF → 0x80 ≤ y → y ≤ 0xBF → octets [] s ≡ true → Holds (x ∷ y ∷ s)
unfolding chars_from all_chars
two n x y s law l a b c d w =
    rw (
      le-ltb x 128 (omega arith),
      lt-ltb x 224 (omega arith),
      char-low ((x - 192) * 64 + (y - 128)) (omega arith) (omega arith),
      clean-on x (y ∷ s) (omega arith) (λ e. omega arith),
      clean-on y s (omega arith) (λ e. omega arith),
      law s l w,
    )

-- the bits of three octets
abbrev bits₃ : ℕ → ℕ → ℕ → ℕ
bits₃ x y z = ((x - 224) * 64 + (y - 128)) * 64 + (z - 128)

-- U+FFFE and U+FFFF are the only illegal ones of three octets
char-three : (x y z : ℕ) → 0xE0 ≤ x → x ≤ 0xEF → 0x80 ≤ y → y ≤ 0xBF → 0x80 ≤ z → z ≤ 0xBF → 32 ≤ bits₃ x y z → (x ≤ 0xED → bits₃ x y z ≤ 55295)
    → is_char (bits₃ x y z) ≡ not (noncharacter x y z)
char-three x y z a b c d e f g h =
    by_test (leb x 0xED)
    (λ t. let l = leb-true x 0xED t in
    char-low (bits₃ x y z) g (h l) ∙ rw (ne_eqb x 0xEF (λ q. omega arith)))
    (λ t. let l = leb-false x 0xED t in
    by_test (eqb x 0xEF)
    (λ u. let p = eqb-true x 0xEF u in
    by_test (eqb y 0xBF)
    (λ v. let q = eqb-true y 0xBF v in
    by_test (leb 0xBE z)
    (λ k. let m = leb-true 0xBE z k in char-none (bits₃ x y z) (omega arith) (omega arith) ∙ rw (u, v, k))
    (λ k. let m = leb-false 0xBE z k in char-middle (bits₃ x y z) (omega arith) (omega arith) ∙ rw (u, v, k)))
    (λ v. let q = eqb-false y 0xBF v in
    char-middle (bits₃ x y z) (omega arith) (omega arith) ∙ rw (u, v)))
    (λ u. let q = eqb-false x 0xEF u in
    char-middle (bits₃ x y z) (omega arith) (omega arith) ∙ rw u))

clean-three : (x y z : ℕ) (s : List ℕ) → 32 ≤ x → 0x80 ≤ y → y ≤ 0xBF → 0x80 ≤ z → z ≤ 0xBF → clean (x ∷ y ∷ z ∷ s) ≡ (not (noncharacter x y z) && clean s)
unfolding clean
clean-three x y z s a b c d e = rw (le-ltb x 32 a, tails)
  where
    tails : clean (y ∷ z ∷ s) ≡ clean s
    tails = clean-on y (z ∷ s) (omega arith) (λ q. omega arith) ∙ clean-on z s (omega arith) (λ q. omega arith)

three : (n x y z : ℕ) (s : List ℕ) → Law n → length s ≤ n → 0xE0 ≤ x → x ≤ 0xEF → 0x80 ≤ y → y ≤ 0xBF → 0x80 ≤ z → z ≤ 0xBF
    → 32 ≤ bits₃ x y z → (x ≤ 0xED → bits₃ x y z ≤ 55295) → octets [] s ≡ true → Holds (x ∷ y ∷ z ∷ s)
unfolding chars_from all_chars
three n x y z s law l a b c d e f g h w =
    rw (
      le-ltb x 128 (omega arith),
      le-ltb x 224 (omega arith),
      lt-ltb x 240 (omega arith),
      char-three x y z a b c d e f g h,
      clean-three x y z s (omega arith) c d e f,
      law s l w,
    )

-- and of four
abbrev bits₄ : ℕ → ℕ → ℕ → ℕ → ℕ
bits₄ x y z w = (((x - 240) * 64 + (y - 128)) * 64 + (z - 128)) * 64 + (w - 128)

four : (n x y z w : ℕ) (s : List ℕ) → Law n → length s ≤ n → 0xF0 ≤ x → x ≤ 0xF4 → 0x80 ≤ y → y ≤ 0xBF → 0x80 ≤ z → z ≤ 0xBF → 0x80 ≤ w → w ≤ 0xBF
    → 65536 ≤ bits₄ x y z w → bits₄ x y z w ≤ 1114111 → octets [] s ≡ true → Holds (x ∷ y ∷ z ∷ w ∷ s)
unfolding chars_from all_chars
four n x y z w s law l a b c d e f g h i j v =
    rw (
      le-ltb x 128 (omega arith),
      le-ltb x 224 (omega arith),
      le-ltb x 240 (omega arith),
      char-high (bits₄ x y z w) i j,
      clean-on x (y ∷ z ∷ w ∷ s) (omega arith) (λ e. omega arith),
      clean-on y (z ∷ w ∷ s) (omega arith) (λ e. omega arith),
      clean-on z (w ∷ s) (omega arith) (λ e. omega arith),
      clean-on w s (omega arith) (λ e. omega arith),
      law s l v,
    )

inside : (a b x : ℕ) → within (a to b) x ≡ true → (a ≤ x) × (x ≤ b)
inside a b x e = let f = (and-eq-true_iff (leb a x) _).0 e in (leb-true a x f.0, leb-true x b f.1)

-- the octets after x, by their ranges
module _ (n x : ℕ) (law : Law n) where
  abbrev After : List ℕ → Type 0
  After u = length u ≤ n → Holds (x ∷ u)

  after_two : (s : List ℕ) → 0xC2 ≤ x → x ≤ 0xDF → octets (UTF8-tail ∷ []) s ≡ true → After s
  after_two s p q v = by_next After 0x80 0xBF [] s v (λ y t a b u k. two n x y t law (omega arith) p q a b u)

  after-three : (lo hi : ℕ) (s : List ℕ) → 0xE0 ≤ x → x ≤ 0xEF → 0x80 ≤ lo → hi ≤ 0xBF
      → ((y z : ℕ) → lo ≤ y → y ≤ hi → 0x80 ≤ z → z ≤ 0xBF → (32 ≤ bits₃ x y z) × (x ≤ 0xED → bits₃ x y z ≤ 55295))
      → octets (lo to hi ∷ UTF8-tail ∷ []) s ≡ true → After s
  after-three lo hi s p q i j f v =
      by_next After lo hi (UTF8-tail ∷ []) s v
      (λ y t a b u. by_next (λ (r : List ℕ). After (y ∷ r)) 0x80 0xBF [] t u
      (λ z r c d w k. let g = f y z a b c d in
      three n x y z r law (omega arith) p q (omega arith) (omega arith) c d g.0 g.1 w))

  after-four : (lo hi : ℕ) (s : List ℕ) → 0xF0 ≤ x → x ≤ 0xF4 → 0x80 ≤ lo → hi ≤ 0xBF
      → ((y z w : ℕ) → lo ≤ y → y ≤ hi → 0x80 ≤ z → z ≤ 0xBF → 0x80 ≤ w → w ≤ 0xBF → (65536 ≤ bits₄ x y z w) × (bits₄ x y z w ≤ 1114111))
      → octets (lo to hi ∷ UTF8-tail ∷ UTF8-tail ∷ []) s ≡ true → After s
  after-four lo hi s p q i j f v =
      by_next After lo hi (UTF8-tail ∷ UTF8-tail ∷ []) s v
      (λ y t a b u. by_next (λ (r : List ℕ). After (y ∷ r)) 0x80 0xBF (UTF8-tail ∷ []) t u
      (λ z r c d w. by_next (λ (o : List ℕ). After (y ∷ z ∷ o)) 0x80 0xBF [] r w
      (λ h o e g m k. let b₄ = f y z h a b c d e g in
      four n x y z h o law (omega arith) p q (omega arith) (omega arith) c d e g b₄.0 b₄.1 m)))

  -- by the alternatives of the ABNF, in its order
  after_any : (s : List ℕ) → octets (follow UTF8-char x) s ≡ true → After s
  after_any s v k =
      by_first (Holds (x ∷ s)) x s UTF8-char
      ((λ i w. let j = inside 0x00 0x7F x i in one n x s law k (omega arith) w)
      also (λ i w. let j = inside 0xC2 0xDF x i in after_two s j.0 j.1 w k)
      also (λ i w. let j = inside 0xE0 0xE0 x i in
      after-three 0xA0 0xBF s (omega arith) (omega arith) (omega arith) (omega arith) (λ y z a b c d. (omega arith, λ e. omega arith)) w k)
      also (λ i w. let j = inside 0xE1 0xEC x i in
      after-three 0x80 0xBF s (omega arith) (omega arith) (omega arith) (omega arith) (λ y z a b c d. (omega arith, λ e. omega arith)) w k)
      also (λ i w. let j = inside 0xED 0xED x i in
      after-three 0x80 0x9F s (omega arith) (omega arith) (omega arith) (omega arith) (λ y z a b c d. (omega arith, λ e. omega arith)) w k)
      also (λ i w. let j = inside 0xEE 0xEF x i in
      after-three 0x80 0xBF s (omega arith) (omega arith) (omega arith) (omega arith) (λ y z a b c d. (omega arith, λ e. absurd (omega arith))) w k)
      also (λ i w. let j = inside 0xF0 0xF0 x i in
      after-four 0x90 0xBF s (omega arith) (omega arith) (omega arith) (omega arith) (λ y z h a b c d e g. (omega arith, omega arith)) w k)
      also (λ i w. let j = inside 0xF1 0xF3 x i in
      after-four 0x80 0xBF s (omega arith) (omega arith) (omega arith) (omega arith) (λ y z h a b c d e g. (omega arith, omega arith)) w k)
      also (λ i w. let j = inside 0xF4 0xF4 x i in
      after-four 0x80 0x8F s (omega arith) (omega arith) (omega arith) (omega arith) (λ y z h a b c d e g. (omega arith, omega arith)) w k)
      also tt)
      v

law-all : (n : ℕ) → Law n
unfolding chars_from all_chars clean
law-all zero [] l w = refl
law-all zero (x ∷ s) l w = absurd (omega arith)
law-all (suc n) [] l w = refl
law-all (suc n) (x ∷ s) l w = after_any n x (law-all n) s (sym (moves [] x s) ∙ w) (omega arith)

-- ---- the law: in a well-formed string an octet below 80 is a character of its own and EF begins one, so that places decide
pub legal-is : (s : List ℕ) → well_formed s ≡ true → legal s ≡ clean s
unfolding legal well_formed
legal-is s w = law-all (length s) s (omega arith) w
