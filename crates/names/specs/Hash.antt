-- A name's hash. Of it only this counts: it is a function of the name's bytes.
use Rattle.std.specs.Prelude.{cond, List, ℕ, zero, suc, ◌+◌, ◌*◌, ◌-◌, ◌/◌, ◌%◌, ltb, eqb, length, get_or}
use Rattle.wire.specs.Header.{u32_at}

-- a hash with two numbers more
unfoldable pub mix : ℕ → ℕ → ℕ → ℕ
mix hash a b = (hash % 4294967296 + (a * 1367130551 + b * 2038074743) / 65536 % 4294967296) % 4294967296 * 2654435761 / 65536 % 4294967296

-- with so many times eight bytes, from a place on
unfoldable pub mix_eights : ℕ → ℕ → List ℕ → ℕ → ℕ
mix_eights zero hash n at = hash
mix_eights (suc k) hash n at = mix_eights k (mix hash (u32_at n at) (u32_at n (at + 4))) n (at + 8)

unfoldable pub few_bytes : List ℕ → ℕ
few_bytes n = cond (eqb (length n) 0) 0 (get_or n 0 0 + get_or n (length n / 2) 0 * 256 + get_or n (length n - 1) 0 * 65536)

unfoldable pub many_bytes : List ℕ → ℕ
many_bytes n = mix (mix_eights ((length n - 1) / 8) (length n) n 0) (u32_at n (length n - 8)) (u32_at n (length n - 4))

unfoldable pub hash_of : List ℕ → ℕ
hash_of n =
    cond (ltb (length n) 4) (mix (length n) (few_bytes n) 0)
    (cond (ltb (length n) 8) (mix (length n) (u32_at n 0) (u32_at n (length n - 4))) (many_bytes n))
