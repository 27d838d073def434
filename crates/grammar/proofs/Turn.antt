-- A turn over the attributes of a start tag: what is read of them from a place on, by what stands there.
use Rattle.std.specs.Prelude.{Bool, true, false, List, [], ◌≡◌, length, get_or}
use Rattle.std.proofs.Math.Path.{refl}
use Prim.Native.Nat.{ℕ, zero, suc, ◌≤◌, ◌<◌}
use Rattle.std.proofs.Common.{arith}
use borrow.Author.Tests.{lt-ltb, le-ltb, eq-eqb, ne_eqb}
use Rattle.wire.specs.Token as Token
use Rattle.wire.specs.Token.{command}
use Rattle.grammar.specs.Reader.{got, short, refused}
use Rattle.grammar.specs.Grammar.{Item, item, whole, lacks, stops, after, attribute, attributes_f}
use Rattle.grammar.specs.Turn.{rest}
use Rattle.grammar.specs.Fits.{ItemFits}
use Rattle.grammar.proofs.Laws.{attributes_f-more, good-attribute}

module _ (sound : ℕ → Bool) (s : List ℕ) where
  end_of : (f names at : ℕ) → length s ≤ at → attributes_f sound f names s at ≡ whole at true
  unfolding attributes_f
  end_of zero names at h = refl
  end_of (suc f) names at h = rw (le-ltb at (length s) h)

  pub rest_end : (names at : ℕ) → length s ≤ at → rest sound s names at ≡ whole at true
  rest_end names at h = end_of (length s) names at h

  module _ (names at : ℕ) (h : at < length s) where
    other-of : (f : ℕ) → 0 < f → (command (get_or s at 0) ≡ Token.attribute → ⊥) → attributes_f sound f names s at ≡ whole at false
    unfolding attributes_f
    other-of zero p k = absurd (omega arith)
    other-of (suc f) p k = rw (lt-ltb at (length s) h, ne_eqb _ _ k)

    pub rest-other : (command (get_or s at 0) ≡ Token.attribute → ⊥) → rest sound s names at ≡ whole at false
    rest-other k = other-of (length s) (omega arith) k

    module _ (k : command (get_or s at 0) ≡ Token.attribute) where
      pub rest_more : (i : Item) (n : ℕ) → attribute sound names s at ≡ got i n → rest sound s names at ≡ item i (rest sound s (after names i) n)
      rest_more i n e = attributes_f-more sound s (length s) names at i n h (omega arith) (eq-eqb _ _ k) e

      short-of : (f j : ℕ) → 0 < f → attribute sound names s at ≡ short j → attributes_f sound f names s at ≡ lacks j
      unfolding attributes_f
      short-of zero j p e = absurd (omega arith)
      short-of (suc f) j p e = rw (lt-ltb at (length s) h, eq-eqb _ _ k, e)

      pub rest-short : (j : ℕ) → attribute sound names s at ≡ short j → rest sound s names at ≡ lacks j
      rest-short j e = short-of (length s) j (omega arith) e

      stop-of : (f n d : ℕ) → 0 < f → attribute sound names s at ≡ refused n d → attributes_f sound f names s at ≡ stops n d
      unfolding attributes_f
      stop-of zero n d p e = absurd (omega arith)
      stop-of (suc f) n d p e = rw (lt-ltb at (length s) h, eq-eqb _ _ k, e)

      pub rest-stops : (n d : ℕ) → attribute sound names s at ≡ refused n d → rest sound s names at ≡ stops n d
      rest-stops n d e = stop-of (length s) n d (omega arith) e

  -- a row that was read, and the place after it
  pub attribute-fits : (names at : ℕ) (i : Item) (n : ℕ) → at ≤ length s → attribute sound names s at ≡ got i n → (at < n) × (n ≤ length s) × ItemFits (length s) names i
  attribute-fits names at i n h e = let w = rw e at ((good-attribute s [] sound names).law at h) in (omega (arith, w.0), w.1, w.2)
