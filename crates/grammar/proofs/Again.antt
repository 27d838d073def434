-- Fields that were read: how far they go, by the length or the index that stands there.
use Rattle.std.specs.Prelude.{Bool, List, refl, ℕ, ◌+◌, ◌-◌, ◌≤◌, ◌<◌, ltb, length}
use Rattle.std.proofs.Math.Path.{◌≡◌, sym}
use Rattle.std.proofs.Common.{◌∙◌}
use native.Mathlib.Omega.{arith}
use borrow.Author.Tests.{ltb-true, ltb-false}
use Rattle.wire.specs.Header.{u32_at}
use Rattle.wire.specs.Refusal.{unexpected_eof}
use Rattle.wire.specs.Token.{interned_new}
use Rattle.grammar.proofs.Choice.{by_test}
use Rattle.grammar.specs.Reader.{got, give}
use Rattle.grammar.specs.Grammar.{Span, new, known, u16, u32, u64, raw, utf8, blob, string, name}
use Rattle.grammar.proofs.Binds.{Got, bind-got, first-got}
use Rattle.grammar.proofs.Fields.{string-cut, string-again, blob-cut, blob-good}
use Rattle.grammar.specs.Names.{new_name}
use Rattle.grammar.proofs.Names.{name-short, name_new, name-unknown, name-known, name-string}
use Rattle.grammar.specs.Trusted.{always}

module _ (s : List ℕ) (at : ℕ) where
  u16-two : Got (u16 s at) → at + 2 ≤ length s
  unfolding u16
  u16-two g =
      by_test (ltb (length s - at) 2)
      (λ t. absurd (let w = rw t at g.is in let z : ◌≡◌ {A = ℕ} 0 1 = cc w in omega arith))
      (λ t. omega (arith, ltb-false (length s - at) 2 t))

  pub blob-two : Got (blob s at) → at + 2 ≤ length s
  unfolding blob
  blob-two g = u16-two (first-got u16 raw s at g)

  pub string-two : Got (string s at) → at + 2 ≤ length s
  unfolding string
  string-two g = u16-two (first-got u16 utf8 s at g)

  pub name-two : (sound : ℕ → Bool) (names : ℕ) → Got (name sound names s at) → at + 2 ≤ length s
  unfolding u16
  name-two sound names g =
      by_test (ltb (length s - at) 2)
      (λ t. absurd (let w = sym (name-short sound names s at unexpected_eof (rw t)) ∙ g.is in let z : ◌≡◌ {A = ℕ} 0 1 = cc w in omega arith))
      (λ t. omega (arith, ltb-false (length s - at) 2 t))

  pub u32-four : Got (u32 s at) → (at + 4 ≤ length s) × (u32 s at ≡ got (u32_at s at) (at + 4))
  unfolding u32
  u32-four g =
      by_test (ltb (length s - at) 4)
      (λ t. absurd (let w = rw t at g.is in let z : ◌≡◌ {A = ℕ} 0 1 = cc w in omega arith))
      (λ t. (omega (arith, ltb-false (length s - at) 4 t), rw t))

  pub u64-eight : Got (u64 s at) → (at + 8 ≤ length s) × (u64 s at ≡ got (u32_at s at, u32_at s (at + 4)) (at + 8))
  unfolding u64
  u64-eight g =
      by_test (ltb (length s - at) 8)
      (λ t. absurd (let w = rw t at g.is in let z : ◌≡◌ {A = ℕ} 0 1 = cc w in omega arith))
      (λ t. (omega (arith, ltb-false (length s - at) 8 t), rw t))

  -- by the length
  module _ (v : ℕ) (e : u16 s at ≡ got v (at + 2)) where
    abbrev spanned : Span
    spanned = record { start = at + 2; len = v }

    blob-whole : Got (blob s at) → v ≤ length s - (at + 2)
    blob-whole g =
        by_test (ltb (length s - (at + 2)) v)
        (λ t. absurd (let w = sym (blob-cut s at v (at + 2) e (ltb-true _ _ t)) ∙ g.is in let z : ◌≡◌ {A = ℕ} 0 1 = cc w in omega arith)) (λ t. ltb-false _ _ t)

    pub blob-spans : Got (blob s at) → (at + 2 + v ≤ length s) × (blob s at ≡ got spanned (at + 2 + v))
    blob-spans g = let w = blob-whole g in (omega (arith, w, blob-two g), blob-good s at v (at + 2) e w)

    string-whole : Got (string s at) → v ≤ length s - (at + 2)
    string-whole g =
        by_test (ltb (length s - (at + 2)) v)
        (λ t. absurd (let w = sym (string-cut s at v (at + 2) e (ltb-true _ _ t)) ∙ g.is in let z : ◌≡◌ {A = ℕ} 0 1 = cc w in omega arith)) (λ t. ltb-false _ _ t)

    pub string-spans : Got (string s at) → (at + 2 + v ≤ length s) × (string s at ≡ got spanned (at + 2 + v))
    string-spans g = let w = string-whole g in (omega (arith, w, string-two g), string-again s at v (at + 2) e w g)

    string-as : Got (string s at) → blob s at ≡ string s at
    string-as g = blob-good s at v (at + 2) e (string-whole g) ∙ sym (string-again s at v (at + 2) e (string-whole g) g)

  u16-ends : (v n : ℕ) → u16 s at ≡ got v n → u16 s at ≡ got v (at + 2)
  unfolding u16
  u16-ends v n e =
      by_test (ltb (length s - at) 2)
      (λ t. absurd (let w = rw t at e in let z : ◌≡◌ {A = ℕ} 0 1 = cc w in omega arith))
      (λ t. let w = rw t at e in rw t (cc w))

  -- a string that was read is read as a blob, too
  pub string-blob : Got (string s at) → blob s at ≡ string s at
  unfolding string
  string-blob g = let u = first-got u16 utf8 s at g in string-as u.it (u16-ends u.it u.place u.is) g

-- ---- a name, by its index

module _ (names : ℕ) (s : List ℕ) (at i : ℕ) (e : u16 s at ≡ got i (at + 2)) (g : Got (name always names s at)) where
  module _ (h : i ≡ interned_new) where
    its-string : Got (string s (at + 2))
    its-string = name-string always names s at i (at + 2) e h g

    pub new_two : at + 4 ≤ length s
    new_two = omega (arith, string-two s (at + 2) its-string)

    pub new-spans : (v : ℕ) → u16 s (at + 2) ≡ got v (at + 2 + 2) → (at + 4 + v ≤ length s) × (name always names s at ≡ got (new (record { start = at + 4; len = v })) (at + 4 + v))
    unfolding new_name
    new-spans v f =
        let k : at + 2 + 2 ≡ at + 4 = omega arith in
        let w = rw k at (string-spans s (at + 2) v f its-string) in
        (w.0, name_new always names s at i (at + 2) e h ∙ bind-got string (λ t. give (new t)) s (at + 2) _ _ w.1)

  module _ (h : i ≡ interned_new → ⊥) where
    pub known-below : i < names
    known-below =
        by_test (ltb i names) (λ t. ltb-true _ _ t)
        (λ t. absurd (let w = sym (name-unknown always names s at i (at + 2) e h (ltb-false _ _ t)) ∙ g.is in let z : ◌≡◌ {A = ℕ} 0 1 = cc w in omega arith))

    pub known_is : name always names s at ≡ got (known i) (at + 2)
    known_is = name-known always names s at i (at + 2) e h known-below refl
