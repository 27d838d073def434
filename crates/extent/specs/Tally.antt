-- What a row adds to what has been read of an event, and how large the counts may be.
use Rattle.std.proofs.Math.Option.{Option, none, some}
use Rattle.std.specs.Prelude.{◌≡◌, ℕ, ◌+◌, ◌*◌, ◌≤◌, length}
use Rattle.wire.specs.Limits.{max_store}
use Rattle.grammar.specs.Grammar.{Ref, new, known, Value, Item, after}
use Rattle.grammar.specs.Scan.{adds_item, lengths, Measure}
use Rattle.extent.specs.declared.Tally.{Tally}

-- from a to b so many names of so many bytes joined the pool, which has `names` now
pub record Joins (added bytes names : ℕ) (a b : Tally) : Type 0 where
  pub names-are : b.names ≡ names
  pub rows_stay : b.rows ≡ a.rows
  pub added_more : b.added ≡ a.added + added
  pub bytes-more : b.bytes ≡ a.bytes + bytes

-- no input is longer than a store may be, so no count of one comes near the end of a usize
pub record Small (t : Tally) : Type 0 where
  pub added-small : t.added ≤ 2 * max_store + 1
  pub bytes_small : t.bytes ≤ 2 * max_store * max_store + max_store

abbrev pub RefSmall : Ref → Type 0
RefSmall (new t) = t.len ≤ max_store
RefSmall (known i) = Unit {0}

abbrev pub NameSmall : Option Ref → Type 0
NameSmall none = Unit {0}
NameSmall (some r) = RefSmall r

abbrev pub ValueSmall : Value → Type 0
ValueSmall Value.nothing = Unit {0}
ValueSmall Value.empty = Unit {0}
ValueSmall (Value.span t) = Unit {0}
ValueSmall (Value.interned r) = RefSmall r
ValueSmall (Value.word w) = Unit {0}
ValueSmall (Value.pair h l) = Unit {0}

pub record ItemSmall (i : Item) : Type 0 where
  pub name-small : NameSmall i.name
  pub value-small : ValueSmall i.value

-- a row has a byte of input at least, and adds two names at most
pub record Bounded (at : ℕ) (t : Tally) : Type 0 where
  pub rows-bounded : t.rows ≤ at
  pub added-bounded : t.added ≤ 2 * t.rows
  pub bytes-bounded : t.bytes ≤ 33_554_432 * t.rows

-- from a to b a row was read
pub record Counts (i : Item) (a b : Tally) : Type 0 where
  pub names-are : b.names ≡ after a.names i
  pub rows_more : b.rows ≡ a.rows + 1
  pub added_more : b.added ≡ a.added + length (adds_item a.names i)
  pub bytes-more : b.bytes ≡ a.bytes + lengths (adds_item a.names i)

-- what is measured after a tally
unfoldable pub plus : Tally → Measure → Measure
plus t m = record { rows = t.rows + m.rows; added = t.added + m.added; bytes = t.bytes + m.bytes; result = m.result }
