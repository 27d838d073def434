-- A slot is one of those that there are.
use Rattle.std.specs.Prelude.{List, ℕ, ◌*◌, ◌/◌, ◌%◌, ◌<◌}
use Rattle.std.proofs.Common.{mod-lt, div-lt_iff_lt-mul, mul-lt-mul_of_pos_right, mul_comm, arith}
use Rattle.slots.specs.Slots.{slot_by, slot_of}

scaled : (x slots : ℕ) → 0 < slots → x % 4294967296 * slots / 4294967296 < slots
scaled x slots h =
    (div-lt_iff_lt-mul {k = 4294967296} (omega arith)
    ).1 (rw (mul_comm slots 4294967296) (mul-lt-mul_of_pos_right {m = x % 4294967296} {n = 4294967296} (mod-lt x (omega arith)) h))

pub slot-by-below : (slots x : ℕ) → 0 < slots → slot_by slots x < slots
unfolding slot_by
slot-by-below slots x h = scaled (x % 4294967296 * 2654435761) slots h

pub slot-below : (slots : ℕ) (n : List ℕ) → 0 < slots → slot_of slots n < slots
unfolding slot_of
slot-below slots n h = slot-by-below slots _ h
