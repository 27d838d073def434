-- The index of a pool: by slots, the pairs before the first that ends outside the output.
use Rattle.std.specs.Prelude.{List, ◌≡◌, ℕ, ◌+◌, ◌*◌, ◌-◌, ◌≤◌, ◌<◌, length, get_or, take, drop}
use Rattle.slots.specs.Slots.{slot_of}
use Rattle.writer_spec.specs.Search.{end_of}

-- the bytes that a pair spans, where it ends inside
abbrev pub pair_name : List ℕ → List ℕ → ℕ → List ℕ
pair_name output pool i = take (get_or pool (2 * i + 1) 0) (drop (get_or pool (2 * i) 0) output)

-- so many of the pairs end inside, and the next does not
pub record Inside (output pool : List ℕ) (names bound : ℕ) : Type 0 where
  pub below : bound ≤ names
  pub each : (j : ℕ) → j < bound → end_of pool j ≤ length output
  pub stops : bound < names → length output < end_of pool bound

module _ (output pool : List ℕ) (bound : ℕ) where
  abbrev pub slot_at : ℕ → ℕ
  slot_at i = slot_of 16384 (pair_name output pool i)

  -- as 65,535 less its number, `next` is the first pair from one on that has the slot; 0 where there is none
  pub record Up (slot next from : ℕ) : Type 0 where
    pub small : next ≤ 65535
    pub its : 0 < next → (from ≤ 65535 - next) × (65535 - next < bound) × (slot_at (65535 - next) ≡ slot)
    pub skips : (j : ℕ) → from ≤ j → j < bound → slot_at j ≡ slot → 65535 ≤ j + next

  -- the pairs from one on are indexed
  pub record Chained (index : List ℕ) (from : ℕ) : Type 0 where
    pub whole : length index ≡ 81920
    pub by_slots : (slot : ℕ) → slot < 16384 → Up slot (get_or index slot 0) from
    pub by-pairs : (k : ℕ) → from ≤ k → k < bound → Up (slot_at k) (get_or index (16385 + k) 0) (k + 1)

pub record Indexed (output pool : List ℕ) (names : ℕ) (index : List ℕ) : Type 0 where
  pub few : names ≤ 65535
  pub inside : Inside output pool names (get_or index 16384 0)
  pub chained : Chained output pool (get_or index 16384 0) index 0

-- an index of another length is none
pub record MaybeIndexed (output pool : List ℕ) (names : ℕ) (index : List ℕ) : Type 0 where
  pub indexed : length index ≡ 81920 → Indexed output pool names index
