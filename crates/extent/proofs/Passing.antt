-- What was read of a field, and what joins a tally.
use Rattle.std.specs.Prelude.{Bool, false, List, [], ◌≡◌, ℕ, ◌+◌, ◌≤◌, ◌<◌, length, get_or, Result, Ok, Err, IsErrAnd}
use Rattle.std.proofs.Math.Option.{Option, some}
use Rattle.std.proofs.Common.{refl, sym, ap, ◌∙◌, arith}
use Rattle.wire.specs.Token as Token
use Rattle.wire.specs.declared.Refusal.{Refusal}
use Rattle.wire.specs.Limits.{max_store}
use Rattle.wire.specs.Answers.{number_of, detail_of}
use Rattle.grammar.proofs.Choice.{by_test}
use Rattle.grammar.specs.Reader.{Read, got, short, refused}
use Rattle.grammar.specs.Grammar.{Ref, Value, Item, counted_name, counted_value, name, value, attribute, first}
use Rattle.grammar.specs.Scan.{adds_name, adds_value, lengths}
use Rattle.grammar.proofs.Laws.{good-name}
use Rattle.grammar.proofs.Rows.{name-within, attribute-short, attribute-refused, attribute-is, Plain, first_plain}
use Rattle.extent.specs.Answers.{is_short, unread_of}
use Rattle.extent.specs.Past.{mapped, name_in, name_of_row, Unread, PassedItem}
use Rattle.extent.specs.Tally.{RefSmall, NameSmall, ValueSmall, ItemSmall, Small, Bounded, Joins, Counts}
use Rattle.extent.specs.declared.Tally.{Tally}
use Rattle.extent.proofs.Tallies.{joins-none, counts, name-adds}
use Rattle.extent.proofs.Measuring.{ref-small, attribute-small}

-- a `?` that hands an error up
pub err-is : {A : Type 0} (x : Result A Refusal) (r : Refusal) → IsErrAnd x (λ e. e ≡ r) → x ≡ Err r
err-is (Ok a) r h = absurd h
err-is (Err e) r h = ap Err h

-- ---- what was read, or not, of something of it

pub record Mapped {A B : Type 0} (f : A → B) (x : Read A) (b : B) (n : ℕ) : Type 0 where
  pub it : A
  pub is : x ≡ got it n
  pub said : f it ≡ b

pub mapped-got : {A B : Type 0} (f : A → B) (x : Read A) (b : B) (n : ℕ) → got b n ≡ mapped f x → Mapped f x b n
mapped-got f (got a m) b n e = record { it = a; is = cc; said = cc }
mapped-got f (short k) b n e = absurd (cc)
mapped-got f (refused m d) b n e = absurd (cc)

pub mapped-unread : {A B : Type 0} (f : A → B) (x : Read A) (r : Refusal) → unread_of r ≡ mapped f x → x ≡ unread_of r
mapped-unread f (got a n) r e = by_test (is_short r) (λ b. let z = rw b at e in absurd (cc)) (λ b. let z = rw b at e in absurd (cc))
mapped-unread f (short k) r e = by_test (is_short r) (λ b. let z = rw b at e in rw b (cc)) (λ b. let z = rw b at e in absurd (cc))
mapped-unread f (refused n d) r e = by_test (is_short r) (λ b. let z = rw b at e in absurd (cc)) (λ b. let z = rw b at e in rw b (cc))

unread-mapped : {A B : Type 0} (f : A → B) (r : Refusal) → mapped f (unread_of r) ≡ unread_of r
unread-mapped f r = by_test (is_short r) (λ b. rw b) (λ b. rw b)

pub unread-row : {A B C : Type 0} (f : B → C) (g : A → B) (r : Refusal) → unread_of r ≡ mapped f (mapped g (unread_of r))
unread-row f g r = by_test (is_short r) (λ b. rw b) (λ b. rw b)

pub unread-is : (A : Type 0) (r : Refusal) → Unread {A = A} (unread_of r)
unread-is A r = by_test (is_short r) (λ b. rw b tt) (λ b. rw b tt)

-- ---- what a value adds is what its name adds

value-adds-is : (names : ℕ) (v : Value) → (adds_value names v ≡ adds_name names (name_in v)) × (counted_value names v ≡ counted_name names (name_in v))
unfolding adds_value adds_name counted_value counted_name
value-adds-is names Value.nothing = (refl, refl)
value-adds-is names Value.empty = (refl, refl)
value-adds-is names (Value.span t) = (refl, refl)
value-adds-is names (Value.interned r) = (refl, refl)
value-adds-is names (Value.word w) = (refl, refl)
value-adds-is names (Value.pair a b) = (refl, refl)

name-small-in : (v : Value) → ValueSmall v → NameSmall (name_in v)
name-small-in Value.nothing h = tt
name-small-in Value.empty h = tt
name-small-in (Value.span t) h = tt
name-small-in (Value.interned r) h = h
name-small-in (Value.word w) h = tt
name-small-in (Value.pair a b) h = tt

-- from t to u this name joined the pool
abbrev pub NameJoins : Option Ref → Tally → Tally → Type 0
NameJoins o t u = Joins (length (adds_name t.names o)) (lengths (adds_name t.names o)) (counted_name t.names o) t u

value-joins : (v : Value) (t u : Tally) → NameJoins (name_in v) t u
    → Joins (length (adds_value t.names v)) (lengths (adds_value t.names v)) (counted_value t.names v) t u
value-joins v t u j = let e = value-adds-is t.names v in rw (e.0, e.1) j

-- ---- an attribute: its name, and then its value

module _ (S : ℕ → Bool) (s : List ℕ) (t : Tally) (at : ℕ) (h : at < length s) (l : length s ≤ max_store) where
  pub name-unread : (r : Refusal) → unread_of r ≡ name S t.names s (at + 1) → attribute S t.names s at ≡ unread_of r
  name-unread r e =
      by_test (is_short r)
      (λ b. rw b (attribute-short S t.names s at h (number_of r) (sym e ∙ rw b)))
      (λ b. rw b (attribute-refused S t.names s at h (number_of r) (detail_of r) (sym e ∙ rw b)))

  value_same : (n m m' y y' : ℕ) → m ≡ m' → y ≡ y' → value S m y s n ≡ value S m' y' s n
  value_same n m m' y y' c e = rw (c, e)

  module _ (r : Ref) (n : ℕ) (e : got r n ≡ name S t.names s (at + 1)) where
    pub passed-within : n ≤ length s
    passed-within = name-within S t.names s (at + 1) n r (omega arith) (sym e)

    pub passed-small : RefSmall r
    passed-small = ref-small (length s) l t.names r (rw (← e) at ((good-name s [] S t.names).law (at + 1) (omega (arith, h)))).2

    module _ (u : Tally) (j : NameJoins (some r) t u) where
      pub small-still : Bounded at t → Small u
      small-still b =
          let few = name-adds t.names (some r) passed-small in
          record {
            added-small = omega (arith, j.added_more, few.0, b.added-bounded, b.rows-bounded, h, l);
            bytes_small = omega (arith, j.bytes-more, few.1, b.bytes-bounded, b.rows-bounded, h, l);
          }

      module _ (type : ℕ) (y : type ≡ Token.type (get_or s at 0)) where
        abbrev val : Read Value
        val = value S u.names type s n

        abbrev row : Value → Item
        row v = record { kind = Token.attribute; name = some r; type = Token.type (get_or s at 0); value = v }

        as_read : attribute S t.names s at ≡ mapped row val
        unfolding counted_name
        as_read =
            attribute-is S t.names s at h r n (sym e)
            ∙ ap (mapped row) (sym (value_same n _ _ _ _ j.names-are y))

        pub value-unread : (w : Refusal) → unread_of w ≡ mapped name_in val → attribute S t.names s at ≡ unread_of w
        value-unread w f = as_read ∙ ap (mapped row) (mapped-unread name_in val w f) ∙ unread-mapped row w

        module _ (o : Option Ref) (m : ℕ) (f : got o m ≡ mapped name_in val) where
          abbrev valued : Mapped name_in val o m
          valued = mapped-got name_in val o m f

          abbrev passed : Item
          passed = row valued.it

          passed_is : attribute S t.names s at ≡ got passed m
          passed_is = as_read ∙ ap (mapped row) valued.is

          pub value-small : NameSmall o
          value-small =
              rw (← valued.said)
              (name-small-in valued.it (attribute-small false s S t at (omega (arith, h)) l passed m passed_is).value-small)

          module _ (v : Tally) (k : NameJoins o u v) where
            pub rows-still : v.rows ≡ t.rows
            rows-still = k.rows_stay ∙ j.rows_stay

            pub passes : (w : Tally) → w.names ≡ v.names → w.rows ≡ v.rows + 1 → w.added ≡ v.added → w.bytes ≡ v.bytes
                → PassedItem (attribute S t.names s at) t w m
            passes w a b c d =
                record { it = passed; is = passed_is; counted = counts passed t u v w j (value-joins valued.it u v (rw valued.said k)) a b c d }

-- ---- the event's own row

module _ (S : ℕ → Bool) (names : ℕ) (s : List ℕ) (h : 0 < length s) (kind : ℕ) (k : kind ≡ Token.command (get_or s 0 0)) where
  plain-joins : (v : Value) → Plain v → (u : Tally) → Joins (length (adds_value u.names v)) (lengths (adds_value u.names v)) (counted_value u.names v) u u
  unfolding adds_value counted_value lengths
  plain-joins Value.nothing f u = joins-none u
  plain-joins Value.empty f u = joins-none u
  plain-joins (Value.span t) f u = joins-none u
  plain-joins (Value.interned r) f u = absurd f
  plain-joins (Value.word w) f u = joins-none u
  plain-joins (Value.pair a b) f u = joins-none u

  module _ (o : Option Ref) (n : ℕ) (e : got o n ≡ mapped name_of_row (first S names s 0)) where
    pub own_read : Mapped name_of_row (first S names s 0) o n
    own_read = mapped-got name_of_row (first S names s 0) o n e

    pub own-small : ItemSmall own_read.it → NameSmall o
    own-small f = rw (← own_read.said) f.name-small

    pub own-counts : (t u : Tally) → NameJoins o t u → (w : Tally) → w.names ≡ u.names → w.rows ≡ t.rows + 1 → w.added ≡ u.added → w.bytes ≡ u.bytes → Counts own_read.it t w
    own-counts t u j w a b c d =
        counts own_read.it t u u w (rw own_read.said j) (plain-joins own_read.it.value (first_plain S names s h kind k own_read.it _ own_read.is) u) a
        (omega (arith, b, j.rows_stay)) c d
