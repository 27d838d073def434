-- Strings and blobs, by what their length field gave.
use Rattle.std.specs.Prelude.{true, false, List, ℕ, ◌+◌, ◌-◌, ◌≤◌, ◌<◌, ltb, length, take, drop}
use Rattle.std.proofs.Math.Path.{◌≡◌}
use Rattle.std.proofs.Common.{sym, ◌∙◌, arith}
use borrow.Author.Tests.{ltb-false, lt-ltb, le-ltb}
use Rattle.wire.specs.Refusal.{string_short, bytes_short, invalid_utf8}
use Rattle.utf8.specs.Utf8.{well_formed}
use Rattle.grammar.specs.Reader.{got, short, refused}
use Rattle.grammar.specs.Grammar.{u16, raw, utf8, string, blob}
use Rattle.grammar.proofs.Choice.{by_test}
use Rattle.grammar.proofs.Binds.{Got, bind-got, bind-short}

module _ (s : List ℕ) (at : ℕ) where
  -- the place after a length lies in the input
  pub u16-within : (v n : ℕ) → at ≤ length s → u16 s at ≡ got v n → n ≤ length s
  unfolding u16
  u16-within v n h e =
      by_test (ltb (length s - at) 2)
      (λ t. absurd (let w : short 3 ≡ got v n = rw t at e in let z : ◌≡◌ {A = ℕ} 0 1 = cc w in omega arith))
      (λ t. let w = rw t at e in let p : at + 2 ≡ n = cc w in omega (arith, ltb-false (length s - at) 2 t))

  pub string-short : (k : ℕ) → u16 s at ≡ short k → string s at ≡ short k
  unfolding string
  string-short k e = bind-short u16 utf8 s at k e

  pub blob-short : (k : ℕ) → u16 s at ≡ short k → blob s at ≡ short k
  unfolding blob
  blob-short k e = bind-short u16 raw s at k e

  module _ (v n : ℕ) (e : u16 s at ≡ got v n) where
    string-is : string s at ≡ utf8 v s n
    unfolding string
    string-is = bind-got u16 utf8 s at v n e

    pub string-cut : length s - n < v → string s at ≡ short string_short
    unfolding utf8
    string-cut h = string-is ∙ rw (lt-ltb _ _ h)

    pub string-good : v ≤ length s - n → well_formed (take v (drop n s)) ≡ true → string s at ≡ got (record { start = n; len = v }) (n + v)
    unfolding utf8
    string-good h w = string-is ∙ rw (le-ltb _ _ h, w)

    pub string-broken : v ≤ length s - n → well_formed (take v (drop n s)) ≡ false → string s at ≡ refused invalid_utf8 0
    unfolding utf8
    string-broken h w = string-is ∙ rw (le-ltb _ _ h, w)

    -- a string that was read is well formed
    pub string-again : v ≤ length s - n → Got (string s at) → string s at ≡ got (record { start = n; len = v }) (n + v)
    string-again h g =
        by_test (well_formed (take v (drop n s))) (string-good h)
        (λ w. absurd (let x = sym (string-broken h w) ∙ g.is in let z : ◌≡◌ {A = ℕ} 0 1 = cc x in omega arith))

    blob-is : blob s at ≡ raw v s n
    unfolding blob
    blob-is = bind-got u16 raw s at v n e

    pub blob-cut : length s - n < v → blob s at ≡ short bytes_short
    unfolding raw
    blob-cut h = blob-is ∙ rw (lt-ltb _ _ h)

    pub blob-good : v ≤ length s - n → blob s at ≡ got (record { start = n; len = v }) (n + v)
    unfolding raw
    blob-good h = blob-is ∙ rw (le-ltb _ _ h)
