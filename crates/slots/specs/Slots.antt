-- Slots: names, and the places of spans, by a number among few.
use Rattle.std.specs.Prelude.{List, ◌≡◌, ℕ, ◌*◌, ◌/◌, ◌%◌, get_or}
use Rattle.names.specs.Hash.{hash_of}

-- a number's slot, among so many
unfoldable pub slot_by : ℕ → ℕ → ℕ
slot_by slots mixed = mixed % 4294967296 * 2654435761 % 4294967296 * slots / 4294967296

-- a name's slot: equal names have the same, and nothing else matters
unfoldable pub slot_of : ℕ → List ℕ → ℕ
slot_of slots n = slot_by slots (hash_of n)

-- nothing in any slot yet
abbrev pub Fresh : List ℕ → Type 0
Fresh heads = (slot : ℕ) → get_or heads slot 0 ≡ 0
