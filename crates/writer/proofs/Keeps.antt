-- The pair of a name that joins the pool, and none for any other.
use mathlib.Core.Bool.{Bool, true, false}
use mathlib.Core.Option.{Option, none, some}
use mathlib.Core.List.{List}
use mathlib.Core.Path.{◌≡◌, refl}
use Prim.Native.Nat.{ℕ, ◌+◌, ◌*◌, ◌≤◌, ◌<◌}
use native.Mathlib.Numerals.{add-one}
use borrow.Author.Tests.{lt-ltb, le-ltb}
use lib.ListN.{length, get_or, set}
use lib.Seq.{sets}
use Rattle.wire.specs.Token.{interned_new}
use Rattle.event.specs.Span.{span}
use Rattle.event.specs.Row.{Row, has_name, row_at}
use Rattle.grammar.specs.Grammar.{most}
use Rattle.grammar.proofs.Choice.{cond-by}
use Rattle.writer.specs.Passes.{joins_by, pairs_by}

module _ (first second w : List ℕ) (names : ℕ) where
  abbrev row : Row
  row = row_at first second w

  pub joins : has_name (get_or w 0 0) ≡ true → names < interned_new → joins_by none row names ≡ true
  unfolding joins_by row_at most
  joins h k = rw (h, lt-ltb names interned_new k)

  pub full : interned_new ≤ names → joins_by none row names ≡ false
  unfolding joins_by most
  full k = rw (le-ltb names interned_new k) (cond-by (λ (x : Bool). x ≡ false) (has_name row.kind) false false (λ _. refl) (λ _. refl))

  pub bare : (o : Option ℕ) → has_name (get_or w 0 0) ≡ false → joins_by o row names ≡ false
  unfolding joins_by row_at
  bare none h = rw h
  bare (some i) h = refl

  pub there : (i : ℕ) → joins_by (some i) row names ≡ false
  unfolding joins_by
  there i = refl

  pub name-is : has_name (get_or w 0 0) ≡ true → row.name ≡ span first second (get_or w 1 0) (get_or w 2 0) (get_or w 3 0)
  unfolding row_at
  name-is h = rw h

module _ (table : List ℕ) (o : Option ℕ) (r : Row) (names at : ℕ) where
  pub pair-length : joins_by o r names ≡ true → length (pairs_by o r names at) ≡ 2
  unfolding pairs_by
  pair-length h = rw h

  pub pair-stored : (n : ℕ) → joins_by o r names ≡ true → n ≡ length r.name
      → set (set table (2 * names) (at + 5)) (2 * names + 1) n ≡ sets table (2 * names) (pairs_by o r names at)
  unfolding pairs_by
  pair-stored n h e = rw (h, add-one, e)

  pub none-stored : joins_by o r names ≡ false → table ≡ sets table (2 * names) (pairs_by o r names at)
  unfolding pairs_by
  none-stored h = rw h
