-- A reader after another, by what the first one gave.
use Rattle.std.specs.Prelude.{List, ◌≡◌, refl, ℕ}
use Rattle.std.proofs.Common.{sym, ◌∙◌, arith}
use Rattle.grammar.specs.Reader.{Read, Reader, got, short, refused, ◌>>=◌}

-- a value was read
pub record Got {A : Type 0} (r : Read A) : Type 0 where
  pub it : A
  pub place : ℕ
  pub is : r ≡ got it place

module _ {A B : Type 0} (r : Reader A) (k : A → Reader B) (s : List ℕ) (at : ℕ) where
  pub bind-got : (a : A) (n : ℕ) → r s at ≡ got a n → (r >>= k) s at ≡ k a s n
  bind-got a n e = rw e

  pub bind-short : (j : ℕ) → r s at ≡ short j → (r >>= k) s at ≡ short j
  bind-short j e = rw e

  pub bind-refused : (n d : ℕ) → r s at ≡ refused n d → (r >>= k) s at ≡ refused n d
  bind-refused n d e = rw e

  -- where both readers gave a value, the first one did
  pub first-got : Got ((r >>= k) s at) → Got (r s at)
  first-got g = go (r s at) refl
    where
      go : (x : Read A) → r s at ≡ x → Got (r s at)
      go (got a n) e = record { it = a; place = n; is = e }
      go (short j) e = absurd (let w = sym (bind-short j e) ∙ g.is in let z : ◌≡◌ {A = ℕ} 0 1 = cc w in omega arith)
      go (refused n d) e = absurd (let w = sym (bind-refused n d e) ∙ g.is in let z : ◌≡◌ {A = ℕ} 0 1 = cc w in omega arith)

  -- and then the second
  pub second-got : (a : A) (n : ℕ) → r s at ≡ got a n → Got ((r >>= k) s at) → Got (k a s n)
  second-got a n e g = record { it = g.it; place = g.place; is = sym (bind-got a n e) ∙ g.is }

-- the same reading
pub got_same : {A : Type 0} {x y : Read A} → x ≡ y → Got y → Got x
got_same e g = record { it = g.it; place = g.place; is = e ∙ g.is }
