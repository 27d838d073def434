use mathlib.Core.Path.{refl}
use Prim.Native.Nat.{ℕ, zero, suc, ◌*◌, ◌%◌, ◌<◌}
use native.Mathlib.Nat.{mod-lt, mul-lt-mul_of_pos_right}
use native.Mathlib.Omega.{arith}
use Rattle.slots.specs.Slots.{slot_by}
use Rattle.slots.proofs.slot_by.Goals as goal

product-fits : (x slots : ℕ) → slots < 65536 → x % 4294967296 * slots < 18446744073709551616
product-fits x zero k = omega arith
product-fits x (suc n) k = omega (arith, mul-lt-mul_of_pos_right {m = x % 4294967296} {n = 4294967296} {k = suc n} (mod-lt x (omega arith)) (omega arith))

pub overflow_mul-result : goal.overflow_mul-result
overflow_mul-result c = record { fits = product-fits _ _ (omega (arith, c.ranges.slots)) }

pub returns : goal.returns
unfolding slot_by
returns c = refl
