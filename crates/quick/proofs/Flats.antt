-- The quick way, piece by piece: a name, a span, a number, a value, an attribute.
use Rattle.std.proofs.Common.{Bool, true, List, [], ◌∷◌, ◌++◌, ◌≡◌, refl, sym, ap, ◌∙◌, ℕ, zero, suc, ◌+◌, ◌*◌, ◌/◌, ◌-◌, ◌≤◌, ◌<◌, add-zero, arith, length, get_or, take, drop}
use Rattle.std.proofs.Math.Option.{some}
use Rattle.std.specs.Prelude.{eqb}
use Rattle.std.proofs.lemmas.List.Edits.{sets}
use borrow.Author.Tests.{lt-ltb, le-ltb, le-leb, eqb-true, eqb-false}
use Rattle.std.specs.Prelude.{Option, Some, None, IfSome}
use Rattle.grammar.proofs.Choice.{by_test}
use Rattle.wire.specs.Header.{u32_at}
use Rattle.wire.specs.Token as Token
use Rattle.wire.specs.Token.{interned_new}
use Rattle.utf8.specs.Utf8.{well_formed}
use Rattle.event.specs.Row.{shapes, shape}
use Rattle.event.specs.declared.Shape.{Shape}
use Rattle.grammar.specs.Reader.{got, give}
use Rattle.grammar.specs.Grammar.{known, Value, u16, u32, u64, blob, string, counted, counted_name, counted_value, after, name, shaped, value}
use Rattle.grammar.specs.Document.{type_of}
use Rattle.grammar.specs.Scan.{sound, adds_ref, adds_name, adds_value, adds_item, span_words, ref_words, name_words, value_words, item_words}
use Rattle.quick.specs.declared.Flat.{Flat}
use Rattle.quick.specs.Quick.{words_of, KnownName, ReadSpan, count_of, counts_of, word_counts, numbered, ReadNumber, ReadValue, ReadAttribute}
use Rattle.grammar.proofs.Fields.{blob-good, string-good}
use Rattle.grammar.proofs.Names.{name-known}
use Rattle.grammar.proofs.Values.{value-by}
use Rattle.grammar.proofs.Rows.{as_attribute}
use Rattle.grammar.proofs.Rows.{attribute-is}
use Rattle.grammar.proofs.Binds.{bind-got}

-- ---- a name by index, and the span of a blob or a string

-- an entry of the pool that lies in its store
pub in-store : (names : ℕ) (table : List ℕ) (stored i : ℕ) → i < names → get_or table (2 * i) 0 + get_or table (2 * i + 1) 0 ≤ stored → sound names table stored i ≡ true
unfolding sound
in-store names table stored i h k = rw (lt-ltb i names h, le-leb _ _ k)

module _ (sound : ℕ → Bool) (names : ℕ) (s : List ℕ) (at source : ℕ) (table : List ℕ) where
  pub known-flat : (v : ℕ) → u16 s at ≡ got v (at + 2) → (v ≡ interned_new → ⊥) → v < names → sound v ≡ true
      → KnownName sound names s at source table (record { source = source; a = get_or table (2 * v) 0; b = get_or table (2 * v + 1) 0 })
  known-flat v e o h t = record { index = v; is = name-known sound names s at v (at + 2) e o h t; said = refl }

module _ (s : List ℕ) (at base v : ℕ) (e : u16 s at ≡ got v (at + 2)) (h : v ≤ length s - (at + 2)) where
  abbrev flat : Flat
  flat = record { source = 0; a = base + (at + 2); b = v }

  pub blob-flat : ReadSpan blob s at base flat (at + 2 + v)
  blob-flat = record { span = record { start = at + 2; len = v }; is = blob-good s at v (at + 2) e h; said = refl }

  pub string-flat : well_formed (take v (drop (at + 2) s)) ≡ true → ReadSpan string s at base flat (at + 2 + v)
  string-flat w = record { span = record { start = at + 2; len = v }; is = string-good s at v (at + 2) e h w; said = refl }

-- ---- a number: where eight bytes are left, it is not cut

-- the words of a number, out of three
number-words : (source base : ℕ) (table : List ℕ) (count high low : ℕ) → count < 3
    → 0 ∷ get_or (0 ∷ high ∷ low ∷ []) (count / 2) 0 ∷ get_or (0 ∷ high ∷ low ∷ []) count 0 ∷ [] ≡ value_words source base table (numbered count high low)
unfolding value_words numbered
number-words source base table zero high low h = refl
number-words source base table (suc zero) high low h = refl
number-words source base table (suc (suc zero)) high low h = refl
number-words source base table (suc (suc (suc n))) high low h = absurd (omega arith)

pub number-flat : (s : List ℕ) (at count high low : ℕ) → high ≡ u32_at s at → low ≡ u32_at s (at + 4) → count < 3
    → ReadNumber count s at
    (record { source = 0; a = get_or (0 ∷ high ∷ low ∷ []) (count / 2) 0; b = get_or (0 ∷ high ∷ low ∷ []) count 0 })
number-flat s at count high low e g h =
    record {
      said = λ source base table. number-words source base table count high low h
          ∙ ap (value_words source base table) (ap (λ (x : ℕ). numbered count x low) e ∙ ap (numbered count (u32_at s at)) g);
    }

count_at : (hs : List Shape) (k : ℕ) → k < length hs → get_or (counts_of hs) k 0 ≡ count_of (get_or hs k Shape.Unknown)
unfolding counts_of
count_at [] k h = absurd (omega arith)
count_at (x ∷ hs) zero h = refl
count_at (x ∷ hs) (suc k) h = count_at hs k (omega arith)

pub count-of : (type : ℕ) → type < 16 → get_or word_counts type 0 ≡ count_of (shape type)
unfolding word_counts shapes shape
count-of type h = count_at shapes type h

pub count_small : (g : Shape) → count_of g < 4
unfolding count_of
count_small Shape.Nothing = omega arith
count_small Shape.String = omega arith
count_small Shape.Interned = omega arith
count_small Shape.Blob = omega arith
count_small Shape.Word = omega arith
count_small Shape.Pair = omega arith
count_small Shape.Unknown = omega arith

module _ (sound : ℕ → Bool) (names type : ℕ) (s : List ℕ) (at : ℕ) where
  four : at + 8 ≤ length s → u32 s at ≡ got (u32_at s at) (at + 4)
  unfolding u32
  four h = rw (le-ltb (length s - at) 4 (omega arith))

  eight : at + 8 ≤ length s → u64 s at ≡ got (u32_at s at, u32_at s (at + 4)) (at + 8)
  unfolding u64
  eight h = rw (le-ltb (length s - at) 8 (omega arith))

  shaped-number : (g : Shape) → count_of g < 3 → at + 8 ≤ length s
      → shaped sound names type g s at ≡ got (numbered (count_of g) (u32_at s at) (u32_at s (at + 4))) (at + 4 * count_of g)
  unfolding shaped count_of numbered
  shaped-number Shape.Nothing k h = rw add-zero
  shaped-number Shape.String k h = absurd (omega arith)
  shaped-number Shape.Interned k h = absurd (omega arith)
  shaped-number Shape.Blob k h = absurd (omega arith)
  shaped-number Shape.Word k h = rw (four h)
  shaped-number Shape.Pair k h = rw (eight h)
  shaped-number Shape.Unknown k h = absurd (omega arith)

same-numbered : (names count high low : ℕ) → counted_value names (numbered count high low) ≡ names
unfolding counted_value numbered
same-numbered names zero high low = refl
same-numbered names (suc zero) high low = refl
same-numbered names (suc (suc n)) high low = refl

none-numbered : (names count high low : ℕ) → adds_value names (numbered count high low) ≡ []
unfolding adds_value numbered
none-numbered names zero high low = refl
none-numbered names (suc zero) high low = refl
none-numbered names (suc (suc n)) high low = refl

-- ---- a value, by its shape

pub shape-blob : (type : ℕ) → 4 ≤ type → type ≤ 5 → shape type ≡ Shape.Blob
unfolding shape shapes
shape-blob type g h = by_test (eqb type 4) (λ e. ap shape (eqb-true type 4 e)) (λ e. let k : type ≡ 5 = omega (arith, eqb-false type 4 e) in ap shape k)

pub some-map : {A : Type 0} {P Q : A → Type 0} (x : Option A) → ((a : A) → P a → Q a) → IfSome x P → IfSome x Q
some-map (Some a) f h = f a h
some-map None f h = tt

module _ (sound : ℕ → Bool) (names type : ℕ) (s : List ℕ) (at source base : ℕ) (table : List ℕ) (f : Flat) where
  abbrev Gives : ℕ → Type 0
  Gives next = ReadValue sound names type s at source base table f next

  pub number-value : (count : ℕ) → count ≡ count_of (shape type) → count < 3 → at + 8 ≤ length s → ReadNumber count s at f → Gives (at + 4 * count)
  number-value count e k h r =
      record {
        it = numbered count (u32_at s at) (u32_at s (at + 4));
        is = value-by sound names type s at (shape type) refl ∙ shaped-number sound names type s at (shape type) (rw (← e) k) h
            ∙ rw (← e);
        said = r.said source base table;
        none-new = none-numbered names count (u32_at s at) (u32_at s (at + 4));
        same_names = same-numbered names count (u32_at s at) (u32_at s (at + 4));
      }

  pub string-value : (next : ℕ) → shape type ≡ Shape.String → ReadSpan string s at base f next → Gives next
  unfolding shaped value_words span_words adds_value counted_value
  string-value next e r =
      record {
        it = Value.span r.span;
        is = value-by sound names type s at Shape.String e ∙ bind-got string (λ t. give (Value.span t)) s at _ _ r.is;
        said = r.said;
        none-new = refl;
        same_names = refl;
      }

  pub blob-value : (next : ℕ) → shape type ≡ Shape.Blob → ReadSpan blob s at base f next → Gives next
  unfolding shaped value_words span_words adds_value counted_value
  blob-value next e r =
      record {
        it = Value.span r.span;
        is = value-by sound names type s at Shape.Blob e ∙ bind-got blob (λ t. give (Value.span t)) s at _ _ r.is;
        said = r.said;
        none-new = refl;
        same_names = refl;
      }

  pub known-value : shape type ≡ Shape.Interned → KnownName sound names s at source table f → Gives (at + 2)
  unfolding shaped value_words ref_words adds_value adds_ref counted_value counted
  known-value e r =
      record {
        it = Value.interned (known r.index);
        is = value-by sound names type s at Shape.Interned e ∙ bind-got (name sound names) (λ x. give (Value.interned x)) s at _ _ r.is;
        said = r.said;
        none-new = refl;
        same_names = refl;
      }

-- ---- a row

row_words : (kind type : ℕ) (x x' y y' : List ℕ) → x ≡ x' → y ≡ y' → kind ∷ (x ++ (type ∷ y)) ≡ kind ∷ (x' ++ (type ∷ y'))
row_words kind type x x' y y' e g = rw (e, g)

-- an attribute, by its name and its value
module _ (sound : ℕ → Bool) (names : ℕ) (s : List ℕ) (at source base : ℕ) (table ws ws' : List ℕ) (to : ℕ) where
  pub attribute-row : (type : ℕ) (n v : Flat) (next : ℕ) → at < length s → type ≡ Token.type (get_or s at 0)
      → KnownName sound names s (at + 1) source table n → ReadValue sound names type s (at + 3) source base table v next
      → ws' ≡ sets ws to (Token.attribute ∷ (words_of n ++ (type_of type ∷ words_of v)))
      → ReadAttribute sound names s at source base table ws ws' to next
  unfolding adds_item adds_name adds_ref after counted_name counted item_words name_words ref_words
  attribute-row type n v next h t k r e =
      let moved : at + 1 + 2 ≡ at + 3 = omega arith in
      let valued : value sound names (Token.type (get_or s at 0)) s (at + 1 + 2) ≡ got r.it next = rw (← t, moved) r.is in
      record {
        it = record { kind = Token.attribute; name = some (known k.index); type = type; value = r.it };
        is = attribute-is sound names s at h (known k.index) (at + 1 + 2) k.is
            ∙ ap (as_attribute (some (known k.index)) (Token.type (get_or s at 0))) valued
            ∙ ap (λ (x : ℕ). got (record { kind = Token.attribute; name = some (known k.index); type = x; value = r.it }) next) (sym t);
        stored = e ∙ ap (sets ws to) (row_words Token.attribute (type_of type) _ _ _ _ k.said r.said);
        none-new = r.none-new;
        same_names = r.same_names;
      }
