-- The pool's index: a pair more goes in front of its slot.
use mathlib.Core.List.{List}
use mathlib.Core.Path.{◌≡◌, sym, ap, ◌∙◌}
use Prim.Native.Nat.{ℕ, ◌+◌, ◌-◌, ◌≤◌, ◌<◌}
use native.Mathlib.Omega.{arith}
use borrow.Author.Tests.{eqb-true, eqb-false}
use lib.Dec.{eqb}
use lib.ListN.{length, get_or, set, length-set}
use lib.Seq.{get_or-set_same, get_or-set_other}
use Rattle.slots.specs.Slots.{Fresh}
use Rattle.grammar.proofs.Choice.{by_test}
use Rattle.writer_spec.specs.Search.{end_of}
use Rattle.pool_index.specs.Index.{Inside, slot_at, Up, Chained, Indexed}

-- ---- building

pub inside-more : (output pool : List ℕ) (i : ℕ) → ((j : ℕ) → j < i → end_of pool j ≤ length output) → end_of pool i ≤ length output
    → (j : ℕ) → j < i + 1 → end_of pool j ≤ length output
inside-more output pool i o h j b =
    by_test (eqb j i) (λ t. rw (eqb-true j i t) h) (λ t. o j (omega (arith, eqb-false j i t)))

module _ (output pool : List ℕ) (bound : ℕ) (few : bound ≤ 65535) where
  -- no pair yet
  pub chained-none : (index : List ℕ) → length index ≡ 81920 → Fresh index → Chained output pool bound index bound
  chained-none index w f =
      record {
        whole = w;
        by_slots = λ s h. record { small = omega (arith, f s); its = λ p. absurd (omega (arith, f s)); skips = λ j a b e. absurd (omega arith) };
        by-pairs = λ k a b. absurd (omega arith);
      }

  -- a pair more
  module _ (index : List ℕ) (i : ℕ) (h : i < bound) (c : Chained output pool bound index (i + 1)) (slot : ℕ) (its : slot ≡ slot_at output pool bound i) (small : slot < 16384) where
    abbrev linked : List ℕ
    linked = set index (16385 + i) (get_or index slot 0)

    abbrev index' : List ℕ
    index' = set linked slot (65535 - i)

    head-old : (t : ℕ) → t < 16384 → (t ≡ slot → ⊥) → get_or index' t 0 ≡ get_or index t 0
    head-old t b d = get_or-set_other linked slot t (65535 - i) 0 d ∙ get_or-set_other index (16385 + i) t (get_or index slot 0) 0 (λ e. omega arith)

    head-new : get_or index' slot 0 ≡ 65535 - i
    head-new = get_or-set_same linked slot (65535 - i) 0 (rw length-set (omega (arith, c.whole)))

    link-old : (k : ℕ) → (k ≡ i → ⊥) → get_or index' (16385 + k) 0 ≡ get_or index (16385 + k) 0
    link-old k d =
        get_or-set_other linked slot (16385 + k) (65535 - i) 0 (λ e. omega arith)
        ∙ get_or-set_other index (16385 + i) (16385 + k) (get_or index slot 0) 0 (λ e. d (omega arith))

    link-new : get_or index' (16385 + i) 0 ≡ get_or index slot 0
    link-new =
        get_or-set_other linked slot (16385 + i) (65535 - i) 0 (λ e. omega arith)
        ∙ get_or-set_same index (16385 + i) (get_or index slot 0) 0 (omega (arith, c.whole))

    up-new : Up output pool bound slot (65535 - i) i
    up-new =
        let back : 65535 - (65535 - i) ≡ i = omega arith in
        record {
          small = omega arith;
          its = λ p. (omega arith, omega arith, rw back (sym its));
          skips = λ j a b e. omega arith;
        }

    up-other : (t next : ℕ) → (t ≡ slot → ⊥) → Up output pool bound t next (i + 1) → Up output pool bound t next i
    up-other t next d u =
        record {
          small = u.small;
          its = λ p. let q = u.its p in (omega (arith, q.0), q.1, q.2);
          skips = λ j a b e.
              by_test (eqb j i) (λ s. absurd (d (sym e ∙ ap (slot_at output pool bound) (eqb-true j i s) ∙ sym its)))
              (λ s. u.skips j (omega (arith, eqb-false j i s)) b e);
        }

    pub chained_more : Chained output pool bound index' i
    chained_more =
        record {
          whole = rw (length-set, length-set) c.whole;
          by_slots = λ t b.
              by_test (eqb t slot)
              (λ e. let s : t ≡ slot = eqb-true t slot e in rw (s, head-new) up-new)
              (λ e. let d : t ≡ slot → ⊥ = eqb-false t slot e in rw (head-old t b d) (up-other t (get_or index t 0) d (c.by_slots t b)));
          by-pairs = λ k a b.
              by_test (eqb k i)
              (λ e. let s : k ≡ i = eqb-true k i e in rw (s, link-new, ← its) (c.by_slots slot small))
              (λ e. let d : k ≡ i → ⊥ = eqb-false k i e in rw (link-old k d) (c.by-pairs k (omega (arith, d)) b));
        }

  -- with the number of the pairs
  pub indexed : (names : ℕ) → names ≤ 65535 → Inside output pool names bound → (index : List ℕ) → Chained output pool bound index 0 → Indexed output pool names (set index 16384 bound)
  indexed names n s index c =
      let here : get_or (set index 16384 bound) 16384 0 ≡ bound = get_or-set_same index 16384 bound 0 (omega (arith, c.whole)) in
      record {
        few = n;
        inside = rw here s;
        chained = rw here
            (record {
              whole = rw length-set c.whole;
              by_slots = λ t b. rw (get_or-set_other index 16384 t bound 0 (λ e. omega arith)) (c.by_slots t b);
              by-pairs = λ k a b. rw (get_or-set_other index 16384 (16385 + k) bound 0 (λ e. omega arith)) (c.by-pairs k a b);
            });
      }
