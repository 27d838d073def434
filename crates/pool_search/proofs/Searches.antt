-- A turn of the pool's search: what is left of it from a pair on, by what that pair spans.
use mathlib.Core.Bool.{true, false}
use mathlib.Core.Option.{Option, none, some, map}
use mathlib.Core.List.{List}
use mathlib.Core.Path.{◌≡◌, refl, sym, ap, ◌∙◌}
use Prim.Native.Nat.{ℕ, suc, ◌+◌, ◌*◌, ◌-◌, ◌≤◌, ◌<◌}
use native.Mathlib.Nat.{add-zero, zero-add, sub-zero}
use native.Mathlib.Omega.{arith}
use borrow.Author.Tests.{le-leb, lt-leb}
use lib.ListN.{length, get_or, take, drop}
use lib.Seq.{drop-drop, get_or-drop}
use Rattle.event.specs.Span.{part, same}
use Rattle.grammar.proofs.Choice.{by_test}
use Rattle.writer_spec.specs.Encode.{find}
use Rattle.writer_spec.specs.Writer.{pool_at, meets_bad}
use Rattle.pool_search.specs.Search.{searched}

-- a place found after so many pairs
abbrev pub after : ℕ → Option (Option ℕ) → Option (Option ℕ)
after i none = none
after i (some none) = some none
after i (some (some k)) = some (some (k + i))

abbrev later : Option (Option ℕ) → Option (Option ℕ)
later none = none
later (some o) = some (map suc o)

pub after_none : (x : Option (Option ℕ)) → after 0 x ≡ x
after_none none = refl
after_none (some none) = refl
after_none (some (some k)) = rw add-zero

after-later : (i : ℕ) (x : Option (Option ℕ)) → after i (later x) ≡ after (i + 1) x
after-later i none = refl
after-later i (some none) = refl
after-later i (some (some k)) = (let e : suc k + i ≡ k + (i + 1) = omega arith in rw e)

module _ (output name : List ℕ) where
  -- by the first pair
  first-bad : (n : ℕ) (pairs : List ℕ) → length output < get_or pairs 0 0 + get_or pairs 1 0 → searched output (suc n) pairs name ≡ none
  unfolding searched meets_bad
  first-bad n pairs h = rw (lt-leb _ _ h)

  module _ (n : ℕ) (pairs : List ℕ) (h : get_or pairs 0 0 + get_or pairs 1 0 ≤ length output) where
    abbrev here : List ℕ
    here = take (get_or pairs 1 0) (drop (get_or pairs 0 0) output)

    first_found : same here name ≡ true → searched output (suc n) pairs name ≡ some (some 0)
    unfolding searched meets_bad pool_at find part
    first_found e = rw (le-leb _ _ h, e)

    first-other : same here name ≡ false → searched output (suc n) pairs name ≡ later (searched output n (drop 2 pairs) name)
    unfolding searched meets_bad pool_at find part
    first-other e = by_test (meets_bad output n (drop 2 pairs) name) (λ t. rw (le-leb _ _ h, e, t)) (λ t. rw (le-leb _ _ h, e, t))

  module _ (table : List ℕ) (names : ℕ) where
    -- what is left from pair i on
    abbrev pub left : ℕ → Option (Option ℕ)
    left i = after i (searched output (names - i) (drop (2 * i) table) name)

    pub left-all : left 0 ≡ searched output names table name
    left-all = rw sub-zero (after_none (searched output names table name))

    pub left_end : (i : ℕ) → names ≤ i → left i ≡ some none
    unfolding searched meets_bad pool_at find
    left_end i h = (let e : names - i ≡ 0 = omega arith in rw e)

    pub left-none : names ≡ 0 → some none ≡ searched output names table name
    left-none e = sym (left_end 0 (omega arith)) ∙ left-all

    module _ (i : ℕ) (k : i < names) where
      count-is : names - i ≡ suc (names - (i + 1))
      count-is = omega arith

      start_is : get_or (drop (2 * i) table) 0 0 ≡ get_or table (2 * i) 0
      start_is = rw (get_or-drop, add-zero)

      len_is : get_or (drop (2 * i) table) 1 0 ≡ get_or table (2 * i + 1) 0
      len_is = rw get_or-drop

      next-is : drop 2 (drop (2 * i) table) ≡ drop (2 * (i + 1)) table
      next-is = (let e : 2 * i + 2 ≡ 2 * (i + 1) = omega arith in rw (drop-drop, e))

      pub left-bad : length output < get_or table (2 * i) 0 + get_or table (2 * i + 1) 0 → left i ≡ none
      left-bad h = ap (after i) (ap (λ (n : ℕ). searched output n (drop (2 * i) table) name) count-is ∙ first-bad _ _ (rw (start_is, len_is) h))

      module _ (h : get_or table (2 * i) 0 + get_or table (2 * i + 1) 0 ≤ length output) where
        inside : get_or (drop (2 * i) table) 0 0 + get_or (drop (2 * i) table) 1 0 ≤ length output
        inside = rw (start_is, len_is) h

        pub left-found : same (take (get_or table (2 * i + 1) 0) (drop (get_or table (2 * i) 0) output)) name ≡ true → left i ≡ some (some i)
        left-found e =
            ap (after i) (ap (λ (n : ℕ). searched output n (drop (2 * i) table) name) count-is ∙ first_found _ _ inside (rw (start_is, len_is) e))
            ∙ ap (λ (n : ℕ). some (some n)) (zero-add i)

        pub left_other : same (take (get_or table (2 * i + 1) 0) (drop (get_or table (2 * i) 0) output)) name ≡ false → left i ≡ left (i + 1)
        left_other e =
            ap (after i) (ap (λ (n : ℕ). searched output n (drop (2 * i) table) name) count-is ∙ first-other _ _ inside (rw (start_is, len_is) e))
            ∙ after-later i (searched output (names - (i + 1)) (drop 2 (drop (2 * i) table)) name) ∙ ap (λ (l : List ℕ). after (i + 1) (searched output (names - (i + 1)) l name)) next-is
