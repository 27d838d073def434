-- Notes by their slots: a look goes from a slot's last note to the ones before it, and a new note goes in front.
use mathlib.Core.Bool.{true, false, false≢true}
use mathlib.Core.List.{List, [], ◌∷◌, ◌++◌}
use mathlib.Core.Path.{◌≡◌, sym, ap, ◌∙◌}
use Prim.Native.Nat.{ℕ, ◌+◌, ◌*◌, ◌-◌, ◌%◌, ◌≤◌, ◌<◌}
use native.Mathlib.Nat.{add-zero}
use native.Mathlib.Omega.{arith}
use borrow.Author.Tests.{eqb-true, eqb-false, ltb-true, ltb-false}
use lib.Dec.{ltb, eqb}
use lib.ListN.{length, get_or, set, length-append, length-set, get_or-append}
use lib.Seq.{get_or-append-add, get_or-set_same, get_or-set_other}
use Rattle.event.specs.Span.{span, same}
use Rattle.event.specs.Laws.{same_refl}
use Rattle.grammar.proofs.Choice.{by_test}
use Rattle.slots.specs.Slots.{slot_of}
use Rattle.writer.specs.Notes.{note_name, note_link, count, Chain, Linked, LookSays, Recalled}
use Rattle.std.specs.Prelude.{Some, None, is_some}
use Rattle.std.specs.Prelude as Code

-- ---- a look

same_not : (a b : List ℕ) → same a b ≡ false → a ≡ b → ⊥
same_not a b h e = false≢true (sym h ∙ ap (λ (x : List ℕ). same a x) (sym e) ∙ same_refl a)

pub noted-again : (first second w notes n : List ℕ) (k : ℕ) → get_or notes (5 * k) 0 ≡ get_or w 1 0 → get_or notes (5 * k + 1) 0 ≡ get_or w 2 0
    → get_or notes (5 * k + 2) 0 ≡ get_or w 3 0 → n ≡ span first second (get_or w 1 0) (get_or w 2 0) (get_or w 3 0) → true ≡ same (note_name first second notes k) n
unfolding note_name
noted-again first second w notes n k a b c e = rw (a, b, c, e) (sym (same_refl _))

-- a guess that its note confirms
pub recalled : (first second w notes : List ℕ) (i : ℕ) → Recalled w notes (Some i)
    → LookSays first second notes (span first second (get_or w 1 0) (get_or w 2 0) (get_or w 3 0)) (Some i)
unfolding note_name
recalled first second w notes i r = (r.0, r.1, rw (r.2, r.3, r.4), r.5)

pub found_some : (first second w notes : List ℕ) (o : Code.Option ℕ) → is_some o ≡ true → Recalled w notes o
    → (i : ℕ) × LookSays first second notes (span first second (get_or w 1 0) (get_or w 2 0) (get_or w 3 0)) (Some i)
found_some first second w notes (Some i) h r = (i, recalled first second w notes i r)
found_some first second w notes None h r = absurd (false≢true h)

module _ (first second notes heads n : List ℕ) where
  abbrev slots : ℕ
  slots = length heads

  -- from here on back: those that are left out are of other names
  pub record Looking (next : ℕ) : Type 0 where
    pub below : next ≤ count first second notes
    pub its-slot : (k : ℕ) → next ≡ k + 1 → slot_of slots (note_name first second notes k) ≡ slot_of slots n
    pub others : (j : ℕ) → next ≤ j → j < count first second notes → note_name first second notes j ≡ n → ⊥

  module _ (l : Linked first second notes heads) where
    pub begins : (slot : ℕ) → slot ≡ slot_of slots n → slot < slots → Looking (get_or heads slot 0)
    begins slot e h =
        let c = l.by_heads slot h in
        record {
          below = c.below;
          its-slot = λ k d. c.its-slot k d ∙ e;
          others = λ j a b d. c.last j a b (ap (slot_of slots) d ∙ sym e);
        }

    link-below : (k : ℕ) → k < count first second notes → note_link first second notes k ≤ k
    link-below k h = (l.by-links k h).below

    -- the note here is of another name
    pub goes_on : (next : ℕ) → 0 < next → Looking next → same (note_name first second notes (next - 1)) n ≡ false → Looking (note_link first second notes (next - 1))
    goes_on next p i d =
        let k : ℕ = next - 1 in
        let here : k < count first second notes = omega (arith, i.below) in
        let c = l.by-links k here in
        let mine : slot_of slots (note_name first second notes k) ≡ slot_of slots n = i.its-slot k (omega arith) in
        record {
          below = omega (arith, c.below);
          its-slot = λ j e. c.its-slot j e ∙ mine;
          others = λ j a b e.
              by_test (ltb j k) (λ t. c.last j a (ltb-true j k t) (ap (slot_of slots) e ∙ sym mine))
              (λ t. by_test (eqb j k) (λ s. same_not (note_name first second notes k) n d (ap (note_name first second notes) (sym (eqb-true j k s)) ∙ e))
              (λ s. i.others j (omega (arith, ltb-false j k t, eqb-false j k s)) b e));
        }

    pub falls : (next : ℕ) → 0 < next → Looking next → note_link first second notes (next - 1) < next
    falls next p i = omega (arith, link-below (next - 1) (omega (arith, i.below)))

-- ---- a note more

module _ (first second notes : List ℕ) (whole : length notes % 5 ≡ 0) (source start len index link : ℕ) where
  abbrev pub more : List ℕ
  more = notes ++ (source ∷ start ∷ len ∷ index ∷ link ∷ [])

  abbrev top : ℕ
  top = count first second notes

  pub count-more : count first second more ≡ top + 1
  count-more = omega (arith, length-append notes (source ∷ start ∷ len ∷ index ∷ link ∷ []))

  pub word-old : (k j : ℕ) → j < 5 → k < top → get_or more (5 * k + j) 0 ≡ get_or notes (5 * k + j) 0
  word-old k j a b = get_or-append notes (source ∷ start ∷ len ∷ index ∷ link ∷ []) 0 (5 * k + j) (omega arith)

  pub word-new : (j : ℕ) → get_or more (5 * top + j) 0 ≡ get_or (source ∷ start ∷ len ∷ index ∷ link ∷ []) j 0
  word-new j = (let e : 5 * top ≡ length notes = omega arith in rw (e, get_or-append-add))

  pub name-old : (k : ℕ) → k < top → note_name first second more k ≡ note_name first second notes k
  unfolding note_name
  name-old k h =
      let source-old : get_or more (5 * k) 0 ≡ get_or notes (5 * k) 0 = get_or-append notes (source ∷ start ∷ len ∷ index ∷ link ∷ []) 0 (5 * k) (omega arith) in
      rw (source-old, word-old k 1 (omega arith) h, word-old k 2 (omega arith) h)

  pub name_new : note_name first second more top ≡ span first second source start len
  unfolding note_name
  name_new =
      let source-new : get_or more (5 * top) 0 ≡ source = ap (λ (i : ℕ). get_or more i 0) (sym (add-zero (5 * top))) ∙ word-new 0 in
      rw (source-new, word-new 1, word-new 2)

  module _ (slots : ℕ) where
    chain-old : (slot next below : ℕ) → below ≤ top → Chain first second slots notes slot next below → Chain first second slots more slot next below
    chain-old slot next below h c =
        record {
          below = c.below;
          its-slot = λ k e. ap (slot_of slots) (name-old k (omega (arith, c.below))) ∙ c.its-slot k e;
          last = λ j a b e. c.last j a b (ap (slot_of slots) (sym (name-old j (omega arith))) ∙ e);
        }

    chain-top : (slot next : ℕ) → (slot_of slots (note_name first second more top) ≡ slot → ⊥) → Chain first second slots more slot next top
        → Chain first second slots more slot next (top + 1)
    chain-top slot next d c =
        record {
          below = omega (arith, c.below);
          its-slot = c.its-slot;
          last = λ j a b e.
              by_test (eqb j top) (λ t. d (ap (λ (k : ℕ). slot_of slots (note_name first second more k)) (sym (eqb-true j top t)) ∙ e))
              (λ t. c.last j a (omega (arith, eqb-false j top t)) e);
        }

    chain-new : (slot : ℕ) → slot_of slots (note_name first second more top) ≡ slot → Chain first second slots more slot (top + 1) (top + 1)
    chain-new slot e =
        record {
          below = omega arith;
          its-slot = λ k h. (let g : k ≡ top = omega arith in ap (λ (m : ℕ). slot_of slots (note_name first second more m)) g ∙ e);
          last = λ j a b h. absurd (omega arith);
        }

  module _ (heads : List ℕ) (l : Linked first second notes heads) (slot : ℕ) (its : slot ≡ slot_of (length heads) (span first second source start len))
      (h : slot < length heads) (linked : link ≡ get_or heads slot 0) where
    abbrev heads' : List ℕ
    heads' = set heads slot (top + 1)

    mine : slot_of (length heads) (note_name first second more top) ≡ slot
    mine = ap (slot_of (length heads)) name_new ∙ sym its

    heads-more : (t : ℕ) → t < length heads → Chain first second (length heads) more t (get_or heads' t 0) (top + 1)
    heads-more t b =
        by_test (eqb t slot)
        (λ e. let s : t ≡ slot = eqb-true t slot e in rw (s, get_or-set_same heads slot (top + 1) 0 h) (chain-new (length heads) slot mine))
        (λ e. let d : t ≡ slot → ⊥ = eqb-false t slot e in
        rw (get_or-set_other heads slot t (top + 1) 0 d)
        (chain-top (length heads) t (get_or heads t 0) (λ g. d (sym g ∙ mine)) (chain-old (length heads) t (get_or heads t 0) top (omega arith) (l.by_heads t b))))

    links-more : (k : ℕ) → k < top + 1
        → Chain first second (length heads) more (slot_of (length heads) (note_name first second more k)) (note_link first second more k) k
    links-more k b =
        by_test (eqb k top)
        (λ e. let s : k ≡ top = eqb-true k top e in
        rw (s, mine, word-new 4) (rw (← linked) at (chain-old (length heads) slot (get_or heads slot 0) top (omega arith) (l.by_heads slot h))))
        (λ e. let g : k < top = omega (arith, eqb-false k top e) in
        rw (name-old k g, word-old k 4 (omega arith) g) (chain-old (length heads) _ (note_link first second notes k) k (omega arith) (l.by-links k g)))

    pub linked-more : Linked first second more heads'
    linked-more =
        record {
          whole = omega (arith, length-append notes (source ∷ start ∷ len ∷ index ∷ link ∷ []));
          by_heads = λ t b. rw (length-set, count-more) (heads-more t (rw length-set at b));
          by-links = λ k b. rw length-set (links-more k (rw count-more at b));
        }
