-- Words stored one after another, the pairs and bytes of new names, and a pool table whose entries all lie in their store. The
-- readers and the writer share these.
use Rattle.std.specs.Prelude.{List, [], ◌∷◌, ◌++◌, ◌≡◌, refl, ℕ, suc, ◌+◌, ◌*◌, ◌≤◌, ◌<◌, ltb, length, get_or, set}
use Rattle.std.proofs.Common.{append_assoc, sym, ap, ◌∙◌, add-zero, add_assoc, arith, ltb-true, le-leb, length-append, get_or-set_other}
use Rattle.std.proofs.Math.Path.{fun_ext}
use Rattle.std.proofs.lemmas.List.Edits.{sets}
use Rattle.grammar.proofs.Choice.{by_test}
use Rattle.grammar.specs.Grammar.{Span}
use Rattle.grammar.specs.Document.{bytes_at, all}
use Rattle.grammar.proofs.Added.{AllIn, bytes_at-length}
use Rattle.grammar.specs.Scan.{sound, lengths, pairs, copied_pairs, joined}

pub sets-append : (l : List ℕ) (i : ℕ) (a b : List ℕ) → sets l i (a ++ b) ≡ sets (sets l i a) (i + length a) b
sets-append l i [] b = rw add-zero
sets-append l i (x ∷ a) b = sets-append (set l i x) (suc i) a b ∙ ap (λ (k : ℕ). sets (sets (set l i x) (suc i) a) k b) (omega arith)

-- the eight words of a row
pub put-turn : (rows : List ℕ) (to a b c d e f g h : ℕ)
    → set (set (set (set (set (set (set (set rows to a) (to + 1) b) (to + 2) c) (to + 3) d) (to + 4) e) (to + 5) f) (to + 6) g) (to + 7) h
    ≡ sets rows to (a ∷ b ∷ c ∷ d ∷ e ∷ f ∷ g ∷ h ∷ [])
put-turn rows to a b c d e f g h =
    let n₁ : suc to ≡ to + 1 = omega arith in
    let n₂ : suc (suc to) ≡ to + 2 = omega arith in
    let n₃ : suc (suc (suc to)) ≡ to + 3 = omega arith in
    let n₄ : suc (suc (suc (suc to))) ≡ to + 4 = omega arith in
    let n₅ : suc (suc (suc (suc (suc to)))) ≡ to + 5 = omega arith in
    let n₆ : suc (suc (suc (suc (suc (suc to))))) ≡ to + 6 = omega arith in
    let n₇ : suc (suc (suc (suc (suc (suc (suc to)))))) ≡ to + 7 = omega arith in
    rw (n₇, n₆, n₅, n₄, n₃, n₂, n₁)

-- ---- the pairs and bytes of new names

pub pairs-length : (base : ℕ) (ts : List Span) → length (pairs base ts) ≡ 2 * length ts
unfolding pairs
pairs-length base [] = refl
pairs-length base (t ∷ ts) = omega (arith, pairs-length base ts)

pub pairs-append : (base : ℕ) (a b : List Span) → pairs base (a ++ b) ≡ pairs base a ++ pairs base b
unfolding pairs
pairs-append base [] b = refl
pairs-append base (t ∷ a) b = rw (pairs-append base a b)

pub copied-length : (at : ℕ) (ts : List Span) → length (copied_pairs at ts) ≡ 2 * length ts
unfolding copied_pairs
copied-length at [] = refl
copied-length at (t ∷ ts) = omega (arith, copied-length (at + t.len) ts)

pub copied-append : (at : ℕ) (a b : List Span) → copied_pairs at (a ++ b) ≡ copied_pairs at a ++ copied_pairs (at + lengths a) b
unfolding copied_pairs lengths
copied-append at [] b = rw add-zero
copied-append at (t ∷ a) b = rw (copied-append (at + t.len) a b, add_assoc at t.len (lengths a))

pub lengths-append : (a b : List Span) → lengths (a ++ b) ≡ lengths a + lengths b
unfolding lengths
lengths-append [] b = omega arith
lengths-append (t ∷ a) b = omega (arith, lengths-append a b)

pub joined-append : (s : List ℕ) (a b : List Span) → joined s (a ++ b) ≡ joined s a ++ joined s b
unfolding joined
joined-append s [] b = refl
joined-append s (t ∷ a) b = rw (joined-append s a b) (sym (append_assoc (bytes_at s t) (joined s a) (joined s b)))

pub joined_length : (s : List ℕ) (ts : List Span) → AllIn (length s) ts → length (joined s ts) ≡ lengths ts
unfolding joined lengths
joined_length s [] a = refl
joined_length s (t ∷ ts) a = length-append (bytes_at s t) (joined s ts) ∙ rw (bytes_at-length s t a.0, joined_length s ts a.1)

-- ---- entries

-- what is stored from a place on changes nothing before it
pub get_d_sets : (l : List ℕ) (i : ℕ) (vs : List ℕ) (j d : ℕ) → j < i → get_or (sets l i vs) j d ≡ get_or l j d
get_d_sets l i [] j d h = refl
get_d_sets l i (v ∷ vs) j d h = get_d_sets (set l i v) (suc i) vs j d (omega arith) ∙ get_or-set_other l i j v d (λ e. omega arith)

-- where each pair ends in the store, every name is at hand
pub sound-all : (names stored : ℕ) (table : List ℕ) → ((i : ℕ) → i < names → get_or table (2 * i) 0 + get_or table (2 * i + 1) 0 ≤ stored)
    → sound names table stored ≡ all
unfolding sound
sound-all names stored table h = fun_ext (λ i. by_test (ltb i names) (λ b. rw (b, le-leb _ _ (h i (ltb-true i names b)))) (λ b. rw b))
