-- A long name's hash: its start, a turn and its end.
use mathlib.Core.List.{List}
use mathlib.Core.Path.{◌≡◌, refl}
use Prim.Native.Nat.{ℕ, suc, ◌+◌, ◌-◌}
use native.Mathlib.Nat.{sub-zero}
use Rattle.wire.specs.Header.{u32_at}
use Rattle.names.specs.Hash.{mix, mix_eights}

pub eights-begin : (k hash : ℕ) (n : List ℕ) (at : ℕ) → mix_eights (k - 0) hash n at ≡ mix_eights k hash n at
eights-begin k hash n at = rw sub-zero

pub eights-turn : (k hash : ℕ) (n : List ℕ) (at : ℕ) → mix_eights (suc k) hash n at ≡ mix_eights k (mix hash (u32_at n at) (u32_at n (at + 4))) n (at + 8)
unfolding mix_eights
eights-turn k hash n at = refl

pub eights-end : (hash : ℕ) (n : List ℕ) (at : ℕ) → mix_eights 0 hash n at ≡ hash
unfolding mix_eights
eights-end hash n at = refl
