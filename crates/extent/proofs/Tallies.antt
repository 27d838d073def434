-- What joins a tally, by the name or value that was read.
use Rattle.std.proofs.Common.{cond, ◌≡◌, refl, ℕ, ◌+◌, ◌*◌, ◌≤◌, add-zero, arith, length, length-append}
use Rattle.std.proofs.Math.Option.{Option, none, some}
use Rattle.std.specs.Prelude.{ltb}
use Rattle.grammar.specs.Grammar.{Span, Ref, new, known, Value, Item, most, counted_name, counted_value, after}
use Rattle.grammar.specs.Scan.{adds_ref, adds_name, adds_value, adds_item, lengths}
use Rattle.grammar.proofs.Choice.{by_test}
use Rattle.grammar.proofs.Stores.{lengths-append}
use Rattle.wire.specs.Limits.{max_store}
use Rattle.extent.specs.Tally.{RefSmall, NameSmall, ValueSmall, ItemSmall, Joins, Counts}
use Rattle.extent.specs.declared.Tally.{Tally}

pub joins-none : (t : Tally) → Joins 0 0 t.names t t
joins-none t =
    record { names-are = refl; rows_stay = refl; added_more = omega arith; bytes-more = omega arith }

-- a new name of the span t
module _ (names : ℕ) (t : Span) where
  pub new-added : cond (ltb names most) 1 0 ≡ length (adds_ref names (new t))
  unfolding adds_ref
  new-added = by_test (ltb names most) (λ e. rw e) (λ e. rw e)

  pub new-bytes : cond (ltb names most) t.len 0 ≡ lengths (adds_ref names (new t))
  unfolding adds_ref lengths
  new-bytes = by_test (ltb names most) (λ e. rw (e, add-zero)) (λ e. rw e)

-- a row's name, then its value, then the row itself
pub counts : (i : Item) (a b c d : Tally) → Joins (length (adds_name a.names i.name)) (lengths (adds_name a.names i.name)) (counted_name a.names i.name) a b
    → Joins (length (adds_value b.names i.value)) (lengths (adds_value b.names i.value)) (counted_value b.names i.value) b c
    → d.names ≡ c.names → d.rows ≡ c.rows + 1 → d.added ≡ c.added → d.bytes ≡ c.bytes → Counts i a d
unfolding adds_item after
counts i a b c d j k p r n m =
    let v = rw j.names-are at k in
    record {
      names-are = rw p v.names-are;
      rows_more = omega arith;
      added_more = rw length-append (omega (arith, v.added_more));
      bytes-more = rw lengths-append (omega (arith, v.bytes-more));
    }

-- a row adds two names at most, each no longer than the input
pub ref-adds : (names : ℕ) (r : Ref) → RefSmall r → (length (adds_ref names r) ≤ 1) × (lengths (adds_ref names r) ≤ max_store)
unfolding adds_ref lengths
ref-adds names (new t) h = by_test (ltb names most) (λ e. rw e (omega arith, omega arith)) (λ e. rw e (omega arith, omega arith))
ref-adds names (known i) h = (omega arith, omega arith)

pub name-adds : (names : ℕ) (o : Option Ref) → NameSmall o → (length (adds_name names o) ≤ 1) × (lengths (adds_name names o) ≤ max_store)
unfolding adds_name lengths
name-adds names none h = (omega arith, omega arith)
name-adds names (some r) h = ref-adds names r h

value-adds : (names : ℕ) (v : Value) → ValueSmall v → (length (adds_value names v) ≤ 1) × (lengths (adds_value names v) ≤ max_store)
unfolding adds_value lengths
value-adds names Value.nothing h = (omega arith, omega arith)
value-adds names Value.empty h = (omega arith, omega arith)
value-adds names (Value.span t) h = (omega arith, omega arith)
value-adds names (Value.interned r) h = ref-adds names r h
value-adds names (Value.word w) h = (omega arith, omega arith)
value-adds names (Value.pair a b) h = (omega arith, omega arith)

pub item-adds : (names : ℕ) (i : Item) → ItemSmall i → (length (adds_item names i) ≤ 2) × (lengths (adds_item names i) ≤ 2 * max_store)
unfolding adds_item
item-adds names i h =
    let n = name-adds names i.name h.name-small in
    let v = value-adds (counted_name names i.name) i.value h.value-small in
    (rw length-append (omega arith), rw lengths-append (omega arith))
