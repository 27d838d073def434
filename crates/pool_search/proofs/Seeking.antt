-- A search by the pool's index finds what a search of all pairs does.
use mathlib.Core.Bool.{true, false, false≢true}
use mathlib.Core.Option.{none, some}
use mathlib.Core.List.{List}
use mathlib.Core.Path.{◌≡◌, sym, ap, ◌∙◌}
use Prim.Native.Nat.{ℕ, zero, suc, ◌+◌, ◌-◌, ◌≤◌, ◌<◌}
use native.Mathlib.Omega.{arith}
use borrow.Author.Tests.{eqb-true, eqb-false}
use lib.Dec.{eqb}
use lib.ListN.{length, get_or}
use Rattle.event.specs.Span.{same}
use Rattle.event.specs.Laws.{same_refl}
use Rattle.names.specs.Laws.{same_not}
use Rattle.slots.specs.Slots.{slot_of}
use Rattle.grammar.proofs.Choice.{by_test}
use Rattle.writer_spec.specs.Search.{end_of}
use Rattle.pool_search.specs.Search.{searched}
use Rattle.pool_index.specs.Index.{pair_name, slot_at, Up, Indexed}
use Rattle.pool_search.proofs.Searches.{left, left-all, left_end, left-bad, left-found, left_other}

-- ---- searching
module _ (output name pool : List ℕ) (names : ℕ) where
  abbrev Other : ℕ → Type 0
  Other j = (end_of pool j ≤ length output) × (same (pair_name output pool j) name ≡ false)

  -- pairs that are passed over
  passed : (i : ℕ) → i ≤ names → ((j : ℕ) → j < i → Other j) → left output name pool names i ≡ searched output names pool name
  passed zero h o = left-all output name pool names
  passed (suc i) h o =
      let here = o i (omega arith) in
      let next : i + 1 ≡ suc i = omega arith in
      rw next at (sym (left_other output name pool names i (omega arith) here.0 here.1)) ∙ passed i (omega arith) (λ j b. o j (omega arith))

  -- every pair of this name is here or later
  pub record Seeking (bound next : ℕ) : Type 0 where
    pub small : next ≤ 65535
    pub here : 0 < next → (65535 - next < bound) × (slot_at output pool bound (65535 - next) ≡ slot_of 16384 name)
    pub ahead : (j : ℕ) → j < bound → pair_name output pool j ≡ name → 65535 ≤ j + next

  module _ (index : List ℕ) (x : Indexed output pool names index) where
    abbrev bound : ℕ
    bound = get_or index 16384 0

    pub seek-begins : (slot : ℕ) → slot ≡ slot_of 16384 name → slot < 16384 → Seeking bound (get_or index slot 0)
    seek-begins slot e h =
        let u = x.chained.by_slots slot h in
        record {
          small = u.small;
          here = λ p. let q = u.its p in (q.1, q.2 ∙ e);
          ahead = λ j b d. u.skips j (omega arith) b (ap (slot_of 16384) d ∙ sym e);
        }

    pub seek-goes-on : (next : ℕ) → 0 < next → Seeking bound next → same (pair_name output pool (65535 - next)) name ≡ false
        → Seeking bound (get_or index (16385 + (65535 - next)) 0)
    seek-goes-on next p s d =
        let k : ℕ = 65535 - next in
        let at = s.here p in
        let u = x.chained.by-pairs k (omega arith) at.0 in
        record {
          small = u.small;
          here = λ q. let r = u.its q in (r.1, r.2 ∙ at.1);
          ahead = λ j b e.
              by_test (eqb j k)
              (λ t. absurd (false≢true (sym d ∙ ap (λ (i : ℕ). same (pair_name output pool i) name) (sym (eqb-true j k t)) ∙ ap (λ (m : List ℕ). same m name) e ∙ same_refl name)))
              (λ t. u.skips j (omega (arith, s.ahead j b e, eqb-false j k t)) b (ap (slot_of 16384) e ∙ sym at.1));
        }

    pub seek-falls : (next : ℕ) → 0 < next → Seeking bound next → get_or index (16385 + (65535 - next)) 0 < next
    seek-falls next p s = by (get_or index (16385 + (65535 - next)) 0) (x.chained.by-pairs (65535 - next) (omega arith) (s.here p).0)
      where
        by : (n : ℕ) → Up output pool bound (slot_at output pool bound (65535 - next)) n (65535 - next + 1) → n < next
        by zero u = p
        by (suc n) u = omega (arith, (u.its (omega arith)).0, u.small)

    others : (top : ℕ) → top ≤ bound → ((j : ℕ) → j < top → pair_name output pool j ≡ name → ⊥) → (j : ℕ) → j < top → Other j
    others top h o j b = (x.inside.each j (omega arith), same_not (pair_name output pool j) name (o j b))

    pub seek_found : (next : ℕ) → 0 < next → Seeking bound next → same (pair_name output pool (65535 - next)) name ≡ true
        → some (some (65535 - next)) ≡ searched output names pool name
    seek_found next p s d =
        let k : ℕ = 65535 - next in
        let b = (s.here p).0 in
        let l = x.inside.below in
        sym (left-found output name pool names k (omega arith) (x.inside.each k b) d)
        ∙ passed k (omega arith) (others k (omega arith) (λ j a e. omega (arith, s.ahead j (omega arith) e)))

    none_here : Seeking bound 0 → (j : ℕ) → j < bound → pair_name output pool j ≡ name → ⊥
    none_here s j b e = omega (arith, s.ahead j b e, x.inside.below, x.few)

    pub seek-bad : Seeking bound 0 → bound < names → none ≡ searched output names pool name
    seek-bad s h =
        sym (left-bad output name pool names bound h (x.inside.stops h)) ∙ passed bound x.inside.below (others bound (omega arith) (none_here s))

    pub seek-nowhere : Seeking bound 0 → names ≤ bound → some none ≡ searched output names pool name
    seek-nowhere s h =
        let l = x.inside.below in
        let all : bound ≡ names = omega arith in
        sym (left_end output name pool names names (omega arith)) ∙ passed names (omega arith) (others names (omega arith) (rw all at (none_here s)))
