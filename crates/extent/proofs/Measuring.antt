-- The attributes from a place on, and what is measured of them: a turn of the loop for each attribute.
use Rattle.std.proofs.Common.{Bool, true, false, List, [], ◌++◌, ◌≡◌, ap, ◌∙◌, ℕ, suc, ◌+◌, ◌≤◌, ◌<◌, arith, length, length-append}
use Rattle.std.proofs.Math.Option.{Option, none, some}
use Rattle.std.specs.Prelude.{leb}
use borrow.Author.Tests.{eq-eqb, ne_eqb, le-leb, lt-leb}
use Rattle.wire.specs.Token as Token
use Rattle.event.specs.declared.Shape.{Shape}
use Rattle.grammar.specs.Reader.{Read, got, short, refused}
use Rattle.grammar.specs.Grammar.{Ref, new, known, Value, Item, Items, item, whole, lacks, stops, after, attribute, first, event}
use Rattle.grammar.specs.Fits.{RefFits, NameFits, ValueFits, ItemFits}
use Rattle.grammar.proofs.Laws.{good-first}
use Rattle.grammar.specs.Turn.{rest}
use Rattle.grammar.proofs.Turn.{attribute-fits}
use Rattle.grammar.specs.Scan.{Outcome, adds, count, lengths, outcome, Measure, measure}
use Rattle.wire.specs.Limits.{max_store}
use Rattle.extent.specs.Tally.{RefSmall, NameSmall, ValueSmall, ItemSmall, Bounded, Counts, plus}
use Rattle.extent.specs.Past.{Unread, ends}
use Rattle.extent.specs.declared.Tally.{Tally}
use Rattle.grammar.specs.Attributes.{is_attribute}
use Rattle.grammar.proofs.Attributes.{Turn, turn_end, turn-row, turn-short, turn-stops, left-names}
use Rattle.grammar.proofs.Stores.{lengths-append}
use Rattle.extent.proofs.Tallies.{item-adds}

-- ---- what is measured

abbrev pub as_told : Tally → Outcome → Measure
as_told t o = record { rows = t.rows; added = t.added; bytes = t.bytes; result = o }

pub measure-more : (finished : Bool) (t r : Tally) (i : Item) (is : Items) → Counts i t r
    → plus r (measure finished r.names is) ≡ plus t (measure finished t.names (item i is))
unfolding plus measure count adds outcome
measure-more finished t r i is c =
    let rows : r.rows + count is ≡ t.rows + suc (count is) = omega (arith, c.rows_more) in
    let added : r.added + length (adds r.names is) ≡ t.added + length (adds t.names (item i is)) =
    rw (c.names-are, length-append) (omega (arith, c.added_more)) in
    let bytes : r.bytes + lengths (adds r.names is) ≡ t.bytes + lengths (adds t.names (item i is)) =
    rw (c.names-are, lengths-append) (omega (arith, c.bytes-more)) in
    λ k. record { rows = rows k; added = added k; bytes = bytes k; result = outcome finished is }

-- where nothing more is read
module _ (finished : Bool) (t : Tally) where
  abbrev done : Outcome → Measure
  done o = record { rows = t.rows + 0; added = t.added + 0; bytes = t.bytes + 0; result = o }

  done-is : (o : Outcome) → as_told t o ≡ done o
  done-is o =
      let rows : t.rows ≡ t.rows + 0 = omega arith in
      let added : t.added ≡ t.added + 0 = omega arith in
      let bytes : t.bytes ≡ t.bytes + 0 = omega arith in
      λ k. record { rows = rows k; added = added k; bytes = bytes k; result = o }

  pub measure-whole : (n : ℕ) (e : Bool) → as_told t (outcome finished (whole n e)) ≡ plus t (measure finished t.names (whole n e))
  unfolding plus measure count adds lengths
  measure-whole n e = done-is (outcome finished (whole n e))

  pub measure-lacks : (j : ℕ) → as_told t (outcome finished (lacks j)) ≡ plus t (measure finished t.names (lacks j))
  unfolding plus measure count adds lengths
  measure-lacks j = done-is (outcome finished (lacks j))

  pub measure-stops : (n d : ℕ) → as_told t (outcome finished (stops n d)) ≡ plus t (measure finished t.names (stops n d))
  unfolding plus measure count adds lengths
  measure-stops n d = done-is (outcome finished (stops n d))

-- ---- spans of an input that is not too long are small

module _ (l : ℕ) (h : l ≤ max_store) where
  pub ref-small : (names : ℕ) (r : Ref) → RefFits l names r → RefSmall r
  ref-small names (new t) f = omega arith
  ref-small names (known i) f = tt

  name-small-of : (names : ℕ) (o : Option Ref) → NameFits l names o → NameSmall o
  name-small-of names none f = tt
  name-small-of names (some r) f = ref-small names r f

  value-small-of : (names : ℕ) (g : Shape) (v : Value) → ValueFits l names g v → ValueSmall v
  value-small-of names g Value.nothing f = tt
  value-small-of names g Value.empty f = tt
  value-small-of names g (Value.span t) f = tt
  value-small-of names g (Value.interned r) f = ref-small names r f.0
  value-small-of names g (Value.word w) f = tt
  value-small-of names g (Value.pair a b) f = tt

  pub fits-small : (names : ℕ) (i : Item) → ItemFits l names i → ItemSmall i
  fits-small names i f = record { name-small = name-small-of names i.name f.name-fits; value-small = value-small-of _ _ i.value f.value-fits }

-- ---- the loop: what is measured from a place on, after a tally

module _ (finished : Bool) (s : List ℕ) (S : ℕ → Bool) where
  abbrev pub Remains : Tally → ℕ → Measure
  Remains t at = plus t (measure finished t.names (rest S s t.names at))

  rest-same : (n m m' : ℕ) → m ≡ m' → rest S s m n ≡ rest S s m' n
  rest-same n m m' g = rw g

  module _ (t : Tally) (at : ℕ) where
    -- the bounds
    module _ (h : at ≤ length s) (l : length s ≤ max_store) (i : Item) (n : ℕ) (e : attribute S t.names s at ≡ got i n) where
      abbrev fine : (at < n) × (n ≤ length s) × ItemFits (length s) t.names i
      fine = attribute-fits S s t.names at i n h e

      pub attribute-small : ItemSmall i
      attribute-small = fits-small (length s) l t.names i fine.2

-- the attributes end before the input does, or with it
module _ (finished : Bool) (s : List ℕ) (t : Tally) (at : ℕ) where
  pub inside : at < length s → as_told t (outcome finished (whole at false)) ≡ as_told t (outcome finished (whole at (leb (length s) at)))
  inside h = rw (lt-leb (length s) at h)

  pub outside : length s ≤ at → as_told t (outcome finished (whole at true)) ≡ as_told t (outcome finished (whole at (leb (length s) at)))
  outside h = rw (le-leb (length s) at h)

-- what is left: these rows, measured after the tally, make M
pub record Measuring (finished : Bool) (s : List ℕ) (M : Measure) (is : Items) (t : Tally) : Type 0 where
  pub measured : plus t (measure finished t.names is) ≡ M

module _ {finished : Bool} {s : List ℕ} (S : ℕ → Bool) {M : Measure} {t : Tally} (at : ℕ) (g : Measuring finished s M (rest S s t.names at) t) where
  abbrev Left : Items → Type 0
  Left is = Measuring finished s M is t

  pub measuring-end : is_attribute s at ≡ false → as_told t (outcome finished (whole at (leb (length s) at))) ≡ M
  measuring-end b = measure-whole finished t at _ ∙ (turn_end Left S s t.names at g b).measured

  module _ (b : is_attribute s at ≡ true) where
    measuring-short : (j : ℕ) → attribute S t.names s at ≡ short j → as_told t (outcome finished (lacks j)) ≡ M
    measuring-short j e = measure-lacks finished t j ∙ (turn-short Left S s t.names at g b j e).measured

    measuring-stops : (n d : ℕ) → attribute S t.names s at ≡ refused n d → as_told t (outcome finished (stops n d)) ≡ M
    measuring-stops n d e = measure-stops finished t n d ∙ (turn-stops Left S s t.names at g b n d e).measured

    pub measuring-unread : (x : Read Item) → attribute S t.names s at ≡ x → Unread x → as_told t (outcome finished (ends x)) ≡ M
    measuring-unread (got i n) e u = absurd u
    measuring-unread (short j) e u = measuring-short j e
    measuring-unread (refused n d) e u = measuring-stops n d e

    module _ (l : length s ≤ max_store) (i : Item) (n : ℕ) (e : attribute S t.names s at ≡ got i n) where
      pub measuring-turn : Turn Left S s t.names at i n
      measuring-turn = turn-row Left S s t.names at g b i n e

      pub measuring-small : ItemSmall i
      measuring-small = fits-small (length s) l t.names i measuring-turn.fits

      -- with the row
      module _ (r : Tally) (c : Counts i t r) where
        pub measuring-bounded : Bounded at t → Bounded n r
        measuring-bounded b =
            let few = item-adds t.names i measuring-small in
            record {
              rows-bounded = omega (arith, measuring-turn.moves, b.rows-bounded, c.rows_more);
              added-bounded = omega (arith, few.0, b.added-bounded, c.added_more, c.rows_more);
              bytes-bounded = omega (arith, few.1, b.bytes-bounded, c.bytes-more, c.rows_more);
            }

        pub measuring-next : Measuring finished s M (rest S s r.names n) r
        measuring-next =
            left-names (λ is. Measuring finished s M is r) S s n _ _ c.names-are
            (record {
              measured = measure-more finished t r i (rest S s (after t.names i) n) c ∙ measuring-turn.left.measured;
            })

-- ---- the whole event

abbrev pub none_yet : ℕ → Tally
none_yet names = record { names = names; rows = 0; added = 0; bytes = 0 }

plus_none : (names : ℕ) (m : Measure) → plus (none_yet names) m ≡ m
unfolding plus
plus_none names m =
    let rows : 0 + m.rows ≡ m.rows = omega arith in
    let added : 0 + m.added ≡ m.added = omega arith in
    let bytes : 0 + m.bytes ≡ m.bytes = omega arith in
    λ k. record { rows = rows k; added = added k; bytes = bytes k; result = m.result }

module _ (finished : Bool) (s : List ℕ) (S : ℕ → Bool) (names : ℕ) where
  abbrev pub Whole : Measure
  Whole = measure finished names (event S names s)

  whole-short : (j : ℕ) → first S names s 0 ≡ short j → as_told (none_yet names) (outcome finished (lacks j)) ≡ Whole
  unfolding event
  whole-short j e = rw e (measure-lacks finished (none_yet names) j ∙ plus_none names _)

  whole-stops : (n d : ℕ) → first S names s 0 ≡ refused n d → as_told (none_yet names) (outcome finished (stops n d)) ≡ Whole
  unfolding event
  whole-stops n d e = rw e (measure-stops finished (none_yet names) n d ∙ plus_none names _)

  pub whole-unread : (x : Read Item) → first S names s 0 ≡ x → Unread x → as_told (none_yet names) (outcome finished (ends x)) ≡ Whole
  whole-unread (got i n) e u = absurd u
  whole-unread (short j) e u = whole-short j e
  whole-unread (refused n d) e u = whole-stops n d e

  module _ (i : Item) (n : ℕ) (e : first S names s 0 ≡ got i n) (l : length s ≤ max_store) where
    abbrev first_fine : (0 + 1 ≤ n) × (n ≤ length s) × ItemFits (length s) names i × (first S names (s ++ []) 0 ≡ got i n)
    first_fine = rw e at ((good-first s [] S names).law 0 (omega arith))

    pub first_small : ItemSmall i
    first_small = fits-small (length s) l names i first_fine.2

    pub first-within : n ≤ length s
    first-within = first_fine.1

    module _ (r : Tally) (c : Counts i (none_yet names) r) where
      pub first-bounded : Bounded n r
      first-bounded =
          let few = item-adds names i first_small in
          record {
            rows-bounded = omega (arith, first_fine.0, c.rows_more);
            added-bounded = omega (arith, few.0, c.added_more, c.rows_more);
            bytes-bounded = omega (arith, few.1, c.bytes-more, c.rows_more);
          }

      pub whole-single : (i.kind ≡ Token.start_tag → ⊥) → as_told r (outcome finished (whole n false)) ≡ Whole
      unfolding event
      whole-single k = rw (e, ne_eqb _ _ k) (measure-whole finished r n false ∙ measure-more finished (none_yet names) r i (whole n false) c ∙ plus_none names _)

      pub whole-tag : i.kind ≡ Token.start_tag → Remains finished s S r n ≡ Whole
      unfolding event
      whole-tag k =
          rw (e, eq-eqb _ _ k)
          (ap (λ (is : Items). plus r (measure finished r.names is)) (rest-same finished s S n _ _ c.names-are)
          ∙ measure-more finished (none_yet names) r i (rest S s (after names i) n) c
          ∙ plus_none names _)
