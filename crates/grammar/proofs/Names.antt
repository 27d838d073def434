-- A name, by what its index field gave.
use Rattle.std.specs.Prelude.{Bool, true, false, List, ◌≡◌, ℕ, ◌≤◌, ◌<◌}
use Rattle.std.proofs.Math.Path.{sym}
use Rattle.std.proofs.Common.{◌∙◌}
use borrow.Author.Tests.{lt-ltb, le-ltb, eq-eqb, ne_eqb}
use Rattle.wire.specs.Refusal.{bad_interned_index, bad_state}
use Rattle.wire.specs.Token.{interned_new}
use Rattle.grammar.specs.Reader.{got, short, refused, give}
use Rattle.grammar.specs.Grammar.{new, known, u16, string, name}
use Rattle.grammar.proofs.Binds.{Got, first-got}
use Rattle.grammar.specs.Names.{new_name}

module _ (sound : ℕ → Bool) (names : ℕ) (s : List ℕ) (at : ℕ) where
  pub name-short : (k : ℕ) → u16 s at ≡ short k → name sound names s at ≡ short k
  unfolding name
  name-short k e = rw e

  module _ (v n : ℕ) (e : u16 s at ≡ got v n) where
    pub name_new : v ≡ interned_new → name sound names s at ≡ new_name s n
    unfolding name new_name
    name_new h = rw (e, eq-eqb _ _ h)

    module _ (old : v ≡ interned_new → ⊥) where
      pub name-unknown : names ≤ v → name sound names s at ≡ refused bad_interned_index v
      unfolding name
      name-unknown h = rw (e, ne_eqb _ _ old, le-ltb _ _ h)

      pub name-known : v < names → sound v ≡ true → name sound names s at ≡ got (known v) n
      unfolding name
      name-known h t = rw (e, ne_eqb _ _ old, lt-ltb _ _ h, t)

      pub name-unsound : v < names → sound v ≡ false → name sound names s at ≡ refused bad_state 0
      unfolding name
      name-unsound h t = rw (e, ne_eqb _ _ old, lt-ltb _ _ h, t)

    -- where the name was read, its string was
    pub name-string : v ≡ interned_new → Got (name sound names s at) → Got (string s n)
    unfolding new_name
    name-string h g = first-got string (λ t. give (new t)) s n (record { it = g.it; place = g.place; is = sym (name_new h) ∙ g.is })
