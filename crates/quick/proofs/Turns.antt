-- The quick way's loop over attributes, and the event that it reads.
use Rattle.std.proofs.Common.{Bool, false, List, [], ◌∷◌, ◌++◌, ◌≡◌, refl, sym, ap, ◌∙◌, ℕ, ◌+◌, ◌*◌, ◌≤◌, ◌<◌, arith, length, get_or}
use Rattle.std.proofs.Math.Option.{some}
use Rattle.std.proofs.lemmas.List.Edits.{sets}
use borrow.Author.Tests.{eq-eqb, ne_eqb}
use Rattle.wire.specs.Token as Token
use Rattle.wire.specs.Token.{command}
use Rattle.grammar.specs.Reader.{got}
use Rattle.grammar.specs.Grammar.{known, Value, Item, Items, item, whole, counted, counted_name, counted_value, after, first, event}
use Rattle.grammar.specs.Document.{type_of}
use Rattle.grammar.proofs.Said.{item-length}
use Rattle.grammar.specs.Scan.{adds, adds_item, adds_name, adds_ref, adds_value, count, ref_words, name_words, value_words, item_words, words, outcome, complete}
use Rattle.grammar.proofs.Stores.{sets-append}
use Rattle.quick.specs.declared.Flat.{Flat}
use Rattle.quick.specs.declared.Taken.{Taken}
use Rattle.grammar.proofs.Rows.{as_tag}
use Rattle.quick.specs.Quick.{words_of, KnownName, ReadAttribute, ReadRest, ReadEvent}
use Rattle.grammar.specs.Turn.{rest}
use Rattle.grammar.proofs.Turn.{rest_more, rest-other}
use Rattle.grammar.proofs.Rows.{first-tag}

module _ (names source base : ℕ) (table : List ℕ) where
  -- what was to be read and stored at the start, and what is left of it now
  pub record Left (is₀ is : Items) (rows₀ rows : ℕ) (ws₀ ws : List ℕ) : Type 0 where
    pub ends : (finished : Bool) → outcome finished is₀ ≡ outcome finished is
    pub counted : rows₀ + count is₀ ≡ rows + count is
    pub none-new : adds names is₀ ≡ adds names is
    pub stored : sets ws₀ (8 * rows₀) (words source base table is₀) ≡ sets ws (8 * rows) (words source base table is)

  pub left-all : (is : Items) (rows : ℕ) (ws : List ℕ) → Left is is rows rows ws ws
  left-all is rows ws = record { ends = λ f. refl; counted = refl; none-new = refl; stored = refl }

  -- a row fewer, which adds no name
  row-less : (i : Item) (is : Items) (rows : ℕ) (ws ws' : List ℕ) → adds_item names i ≡ [] → after names i ≡ names
      → ws' ≡ sets ws (8 * rows) (item_words source base table i) → Left (item i is) is rows (rows + 1) ws ws'
  unfolding outcome count adds words
  row-less i is rows ws ws' a n e =
      let place : 8 * rows + length (item_words source base table i) ≡ 8 * (rows + 1) = omega (arith, item-length source base table i) in
      record {
        ends = λ f. refl;
        counted = omega arith;
        none-new = rw (a, n);
        stored = rw (sets-append ws (8 * rows) (item_words source base table i) (words source base table is), place, e);
      }

  left-then : (is₀ is is' : Items) (rows₀ rows rows' : ℕ) (ws₀ ws ws' : List ℕ) → Left is₀ is rows₀ rows ws₀ ws → Left is is' rows rows' ws ws'
      → Left is₀ is' rows₀ rows' ws₀ ws'
  left-then is₀ is is' rows₀ rows rows' ws₀ ws ws' a b =
      record {
        ends = λ f. a.ends f ∙ b.ends f;
        counted = a.counted ∙ b.counted;
        none-new = a.none-new ∙ b.none-new;
        stored = a.stored ∙ b.stored;
      }

  -- where nothing is left
  left-none : (is₀ : Items) (at rows₀ rows : ℕ) (ws₀ ws : List ℕ) → Left is₀ (whole at false) rows₀ rows ws₀ ws
      → ((finished : Bool) → outcome finished is₀ ≡ complete at) × (rows₀ + count is₀ ≡ rows) × (adds names is₀ ≡ [])
      × (ws ≡ sets ws₀ (8 * rows₀) (words source base table is₀))
  unfolding outcome count adds words
  left-none is₀ at rows₀ rows ws₀ ws l = (λ f. l.ends f, omega (arith, l.counted), l.none-new, sym l.stored)

  -- ---- the loop

  module _ (sound : ℕ → Bool) (s : List ℕ) (is₀ : Items) (ws₀ : List ℕ) (at rows : ℕ) (ws : List ℕ) (h : at < length s)
      (l : Left is₀ (rest sound s names at) 1 rows ws₀ ws) where
    pub left-more : (ws' : List ℕ) (next : ℕ) → command (get_or s at 0) ≡ Token.attribute
        → ReadAttribute sound names s at source base table ws ws' (8 * rows) next → Left is₀ (rest sound s names next) 1 (rows + 1) ws₀ ws'
    left-more ws' next k r =
        let more : rest sound s names at ≡ item r.it (rest sound s names next) =
        rest_more sound s names at h k r.it next r.is ∙ ap (λ (n : ℕ). item r.it (rest sound s n next)) r.same_names in
        let here : Left is₀ (item r.it (rest sound s names next)) 1 rows ws₀ ws = rw more at l in
        left-then is₀ _ _ 1 rows (rows + 1) ws₀ ws ws' here (row-less r.it (rest sound s names next) rows ws ws' r.none-new r.same_names r.stored)

    pub left_other : (command (get_or s at 0) ≡ Token.attribute → ⊥) → 0 < at → rows ≤ 10 → ReadRest is₀ names source base table ws₀ ws (record { rows = rows; len = at })
    left_other k z m =
        let here : Left is₀ (whole at false) 1 rows ws₀ ws = rw (rest-other sound s names at h k) at l in
        let n = left-none is₀ at 1 rows ws₀ ws here in
        record { long = z; ends = n.0; counted = n.1; few = m; none-new = n.2; stored = n.3 }

  -- ---- the event

  -- its own row, and the rows after it
  row-then : (i : Item) (is : Items) (ws ws' ws'' : List ℕ) (t : Taken) → Left (item i is) is 0 1 ws ws' → ReadRest is names source base table ws' ws'' t
      → ReadEvent (item i is) names source base table ws ws'' t
  row-then i is ws ws' ws'' t l r =
      record {
        long = r.long;
        ends = λ f. l.ends f ∙ r.ends f;
        counted = omega (arith, l.counted, r.counted);
        some-rows = omega (arith, r.counted);
        few = r.few;
        none-new = l.none-new ∙ r.none-new;
        stored = r.stored ∙ sym l.stored;
      }

  module _ (sound : ℕ → Bool) (s : List ℕ) (h : 0 < length s) (n : Flat) (r : KnownName sound names s 1 source table n) (ws ws' : List ℕ) where
    abbrev tag : ℕ → Item
    tag kind = record { kind = kind; name = some (known r.index); type = 0; value = Value.nothing }

    module _ (kind : ℕ) (k : kind ≡ command (get_or s 0 0)) (a : Token.start_tag ≤ kind) (b : kind < Token.text)
        (e : ws' ≡ sets ws 0 (kind ∷ (words_of n ++ (0 ∷ 0 ∷ 0 ∷ 0 ∷ [])))) where
      tag-first : first sound names s 0 ≡ got (tag kind) 3
      tag-first =
          first-tag sound names s h kind k a b ∙ ap (as_tag kind) r.is

      tag-words : ws' ≡ sets ws 0 (item_words source base table (tag kind))
      unfolding item_words name_words ref_words value_words type_of
      tag-words = e ∙ ap (λ (w : List ℕ). sets ws 0 (kind ∷ (w ++ (0 ∷ 0 ∷ 0 ∷ 0 ∷ [])))) r.said

      tag-less : (is : Items) → Left (item (tag kind) is) is 0 1 ws ws'
      unfolding adds_item adds_name adds_ref adds_value after counted_name counted_value counted
      tag-less is = row-less (tag kind) is 0 ws ws' refl refl tag-words

      pub end-tag : (kind ≡ Token.start_tag → ⊥) → ReadEvent (event sound names s) names source base table ws ws' (record { rows = 1; len = 3 })
      unfolding event
      end-tag o =
          let m = left-none (item (tag kind) (whole 3 false)) 3 0 1 ws ws' (tag-less (whole 3 false)) in
          rw (tag-first, ne_eqb _ _ o)
          (record { long = omega arith; ends = m.0; counted = omega (arith, m.1); some-rows = omega arith; few = omega arith; none-new = m.2; stored = m.3 })

      pub start-tag : (ws'' : List ℕ) (t : Taken) → kind ≡ Token.start_tag → ReadRest (rest sound s names 3) names source base table ws' ws'' t
          → ReadEvent (event sound names s) names source base table ws ws'' t
      unfolding event after counted_name counted_value counted
      start-tag ws'' t o q =
          rw (tag-first, eq-eqb _ _ o) (row-then (tag kind) (rest sound s names 3) ws ws' ws'' t (tag-less (rest sound s names 3)) q)
