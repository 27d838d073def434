-- What the notes know of the pool, name by name.
use mathlib.Core.Bool.{Bool, true, false, cond}
use mathlib.Core.Option.{Option, none, some}
use mathlib.Core.List.{List, [], ◌∷◌, ◌++◌}
use mathlib.Core.Path.{◌≡◌, refl, sym, ap, ◌∙◌}
use Prim.Native.Nat.{ℕ, ◌+◌, ◌%◌, ◌≤◌, ◌<◌}
use native.Mathlib.Omega.{arith}
use borrow.Author.Tests.{eqb-true, eqb-false}
use lib.Dec.{eqb}
use lib.ListN.{length, get_or, set}
use Rattle.event.specs.Span.{span}
use Rattle.event.specs.Row.{Row, has_name, row_at}
use Rattle.grammar.specs.Document.{Pool}
use Rattle.grammar.proofs.Choice.{by_test}
use Rattle.writer_spec.specs.Encode.{find}
use Rattle.writer_spec.specs.Faults.{string_fault}
use Rattle.slots.specs.Slots.{slot_of, Fresh}
use Rattle.writer.specs.Notes.{note_name, note_index, count, Unnoted, LookSays, Noted}
use Rattle.writer.specs.Passes.{Settled}
use Rattle.std.specs.Prelude.{Some, None}
use Rattle.writer.proofs.Pools.{find-there, find-new, find-other, find-below, find-one, find-front, find-later, find-never, pigeons}
use Rattle.writer.proofs.Links.{more, count-more, word-old, word-new, name-old, name_new, linked-more}

module _ (first second : List ℕ) (bad : List ℕ → Bool) (pool₀ : Pool) where
  -- none yet
  pub noted-none : (heads : List ℕ) → Fresh heads → Noted first second bad pool₀ pool₀ [] heads
  noted-none heads f =
      record {
        linked = record {
          whole = omega arith;
          by_heads = λ s h. record { below = omega (arith, f s); its-slot = λ k e. absurd (omega (arith, f s)); last = λ j a b e. absurd (omega arith) };
          by-links = λ k h. absurd (omega arith);
        };
        places = λ k h. absurd (omega arith);
        faultless = λ k h. absurd (omega arith);
        searchable = λ k h. absurd (omega arith);
        distinct = λ j k h i e. absurd (omega arith);
        complete = λ n u. refl;
      }

  module _ (pool : Pool) (notes heads : List ℕ) (t : Noted first second bad pool₀ pool notes heads) where
    -- no more notes than names
    pub few : count first second notes ≤ length pool
    few =
        pigeons (length pool) (count first second notes) (note_index first second notes)
        (λ k h. find-below pool (note_name first second notes k) (note_index first second notes k) (t.places k h))
        (λ j k hj hk e.
        t.distinct j k hj hk
        (find-one pool (note_name first second notes j) (note_name first second notes k) (note_index first second notes k) (rw e at (t.places j hj)) (t.places k hk)))

    -- a note more, of a name that has none
    module _ (source start len index link slot : ℕ) (u : Unnoted first second notes (span first second source start len)) where
      abbrev n : List ℕ
      n = span first second source start len

      abbrev whole : length notes % 5 ≡ 0
      whole = t.linked.whole

      abbrev notes' : List ℕ
      notes' = more first second notes whole source start len index link

      abbrev top : ℕ
      top = count first second notes

      top-is : count first second notes' ≡ top + 1
      top-is = count-more first second notes whole source start len index link

      each : (Q : List ℕ → ℕ → Type 0) → Q n index → ((k : ℕ) → k < top → Q (note_name first second notes k) (note_index first second notes k))
          → (k : ℕ) → k < count first second notes' → Q (note_name first second notes' k) (note_index first second notes' k)
      each Q new old k h =
          by_test (eqb k top)
          (λ e. let s : k ≡ top = eqb-true k top e in
          rw (s, name_new first second notes whole source start len index link, word-new first second notes whole source start len index link 3) new)
          (λ e. let g : k < top = omega (arith, eqb-false k top e, top-is) in
          rw (name-old first second notes whole source start len index link k g, word-old first second notes whole source start len index link k 3 (omega arith) g) (old k g))

      pub still : (m : List ℕ) → Unnoted first second notes' m → Unnoted first second notes m
      still m v k h e = v k (omega (arith, top-is)) (name-old first second notes whole source start len index link k h ∙ e)

      other : (m : List ℕ) → Unnoted first second notes' m → n ≡ m → ⊥
      other m v e = v top (omega (arith, top-is)) (name_new first second notes whole source start len index link ∙ e)

      apart : (j k : ℕ) → j < count first second notes' → k < count first second notes' → note_name first second notes' j ≡ note_name first second notes' k → j ≡ k
      apart j k hj hk e =
          by_test (eqb j top)
          (λ a. by_test (eqb k top) (λ b. eqb-true j top a ∙ sym (eqb-true k top b))
          (λ b. let g : k < top = omega (arith, eqb-false k top b, top-is) in
          absurd (u k g (sym (name-old first second notes whole source start len index link k g) ∙ sym e ∙ ap (note_name first second notes') (eqb-true j top a) ∙ name_new first second notes whole source start len index link))))
          (λ a. let h : j < top = omega (arith, eqb-false j top a, top-is) in
          by_test (eqb k top)
          (λ b. absurd (u j h (sym (name-old first second notes whole source start len index link j h) ∙ e ∙ ap (note_name first second notes') (eqb-true k top b) ∙ name_new first second notes whole source start len index link)))
          (λ b. let g : k < top = omega (arith, eqb-false k top b, top-is) in
          t.distinct j k h g (sym (name-old first second notes whole source start len index link j h) ∙ e ∙ name-old first second notes whole source start len index link k g)))

      module _ (its : slot ≡ slot_of (length heads) n) (h : slot < length heads) (l : link ≡ get_or heads slot 0) (f : string_fault n ≡ none) (b : bad n ≡ false) where
        abbrev heads' : List ℕ
        heads' = set heads slot (top + 1)

        into : (pool' : Pool) → find pool' n ≡ some index → ((m : List ℕ) (i : ℕ) → find pool m ≡ some i → find pool' m ≡ some i)
            → ((m : List ℕ) → (n ≡ m → ⊥) → find pool' m ≡ find pool m) → Noted first second bad pool₀ pool' notes' heads'
        into pool' p g o =
            record {
              linked = linked-more first second notes whole source start len index link heads t.linked slot its h l;
              places = each (λ m i. find pool' m ≡ some i) p (λ k c. g _ _ (t.places k c));
              faultless = each (λ m i. string_fault m ≡ none) f t.faultless;
              searchable = each (λ m i. bad m ≡ false) b t.searchable;
              distinct = apart;
              complete = λ m v. o m (other m v) ∙ t.complete m (still m v);
            }

        -- of a name in the pool
        pub noted-kept : find pool n ≡ some index → Noted first second bad pool₀ pool notes' heads'
        noted-kept p = into pool p (λ m i e. e) (λ m d. refl)

        -- of one that joins it
        pub noted-new : find pool n ≡ none → index ≡ length pool → Noted first second bad pool₀ (pool ++ (n ∷ [])) notes' heads'
        noted-new p e =
            into (pool ++ (n ∷ [])) (rw e (find-new pool n p)) (λ m i q. find-there pool (n ∷ []) m i q) (λ m d. find-other pool n m d)

-- ---- where a name stands in the beginning of the pool that the notes know

module _ (first second w : List ℕ) (names : ℕ) (notes heads : List ℕ) where
  abbrev row : Row
  row = row_at first second w

  abbrev pub name : List ℕ
  name = span first second (get_or w 1 0) (get_or w 2 0) (get_or w 3 0)

  name-is : has_name (get_or w 0 0) ≡ true → row.name ≡ name
  unfolding row_at
  name-is h = rw h

  abbrev Told : Option ℕ → Type 0
  Told o =
      (bad : List ℕ → Bool) (pool₀ pool after : Pool) → length pool ≡ names → Noted first second bad pool₀ (pool ++ after) notes heads
      → (has_name row.kind ≡ true → Settled first second (pool ++ after) notes row.name) → o ≡ cond (has_name row.kind) (find pool row.name) none

  pub told-bare : has_name (get_or w 0 0) ≡ false → Told none
  unfolding row_at
  told-bare h bad pool₀ pool after e t s = rw h

  module _ (h : has_name (get_or w 0 0) ≡ true) where
    told : (o : Option ℕ) (pool : Pool) → find pool name ≡ o → o ≡ cond (has_name row.kind) (find pool row.name) none
    unfolding row_at
    told o pool e = rw h (sym e)

    pub told_at : (i : ℕ) → LookSays first second notes name (Some i) → i < names → Told (some i)
    told_at i l b bad pool₀ pool after e t s =
        told (some i) pool
        (find-front pool after name i (sym (ap (find (pool ++ after)) l.2) ∙ t.places l.0 l.1 ∙ ap some l.3) (omega arith))

    pub told-late : (i : ℕ) → LookSays first second notes name (Some i) → names ≤ i → Told none
    told-late i l b bad pool₀ pool after e t s =
        told none pool
        (find-later pool after name i (sym (ap (find (pool ++ after)) l.2) ∙ t.places l.0 l.1 ∙ ap some l.3) (omega arith))

    pub told-new : Unnoted first second notes name → Told none
    unfolding row_at
    told-new u bad pool₀ pool after e t s =
        told none pool (find-never pool after name (ap (find (pool ++ after)) (sym (name-is h)) ∙ (s h (rw (name-is h) u)).0))
