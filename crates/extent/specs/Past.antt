-- The name in a value or in an event's own row, and how what was not read ends its event.
use Rattle.std.proofs.Math.Option.{Option, none, some}
use Rattle.std.specs.Prelude.{◌≡◌, ℕ}
use Rattle.grammar.specs.Reader.{Read, got, short, refused, next}
use Rattle.grammar.specs.Grammar.{Ref, Value, Item, Items, lacks, stops}
use Rattle.extent.specs.Tally.{Counts}
use Rattle.extent.specs.declared.Tally.{Tally}

-- something of what was read
abbrev pub mapped : {A B : Type 0} → (A → B) → Read A → Read B
mapped f x = next x (λ a n. got (f a) n)

abbrev pub name_in : Value → Option Ref
name_in Value.nothing = none
name_in Value.empty = none
name_in (Value.span t) = none
name_in (Value.interned r) = some r
name_in (Value.word w) = none
name_in (Value.pair a b) = none

-- an event's own row: its value adds no name
abbrev pub name_of_row : Item → Option Ref
name_of_row i = i.name

-- ---- what was not read, and how it ends its event

abbrev pub Unread : {A : Type 0} → Read A → Type 0
Unread (got a n) = ⊥
Unread (short k) = Unit {0}
Unread (refused n d) = Unit {0}

abbrev pub ends : {A : Type 0} → Read A → Items
ends (got a n) = lacks 0
ends (short k) = lacks k
ends (refused n d) = stops n d

-- ---- an attribute that was read up to a place, and the tally with it

pub record PassedItem (r : Read Item) (tally after : Tally) (next : ℕ) : Type 0 where
  pub it : Item
  pub is : r ≡ got it next
  pub counted : Counts it tally after
