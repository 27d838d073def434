-- The 19 of a search: exactly where a pair ends outside the output that is compared on the way to the first equal one.
use Rattle.std.specs.Prelude.{true, false, List, ◌≡◌, length, get_or, drop, leb}
use Rattle.std.proofs.lemmas.Bool.{false≢true}
use Rattle.std.proofs.Math.Option.{Option, none, some, map}
use Rattle.std.proofs.Common.{sym, arith, get_or-drop}
use Prim.Native.Nat.{ℕ, zero, suc, ◌+◌, ◌*◌, ◌≤◌, ◌<◌}
use borrow.Author.Tests.{leb-true, leb-false}
use Rattle.event.specs.Span.{part, same}
use Rattle.grammar.proofs.Choice.{by_test}
use Rattle.writer_spec.specs.Encode.{find}
use Rattle.writer_spec.specs.Writer.{pool_at, meets_bad}

-- entry i is compared in a search that ends so: it is not after the first equal one
abbrev pub Compared : ℕ → Option ℕ → Type 0
Compared i none = Unit {0}
Compared i (some k) = i ≤ k

-- where pair i ends
abbrev pub end_of : List ℕ → ℕ → ℕ
end_of pairs i = get_or pairs (2 * i) 0 + get_or pairs (2 * i + 1) 0

earlier : (i : ℕ) (o : Option ℕ) → Compared (suc i) (map suc o) → Compared i o
earlier i none c = tt
earlier i (some k) c = omega arith

later : (i : ℕ) (o : Option ℕ) → Compared i o → Compared (suc i) (map suc o)
later i none c = tt
later i (some k) c = omega arith

end_of-next : (pairs : List ℕ) (i : ℕ) → end_of (drop 2 pairs) i ≡ end_of pairs (suc i)
end_of-next pairs i =
    let e₀ : 2 + 2 * i ≡ 2 * suc i = omega arith in
    let e₁ : 2 + (2 * i + 1) ≡ 2 * suc i + 1 = omega arith in
    rw (get_or-drop 2 pairs (2 * i) 0, get_or-drop 2 pairs (2 * i + 1) 0, e₀, e₁)

-- a pair among so many is compared and ends outside
abbrev pub Outside : List ℕ → ℕ → List ℕ → Option ℕ → Type 0
Outside output n pairs o = (i : ℕ) × (i < n) × Compared i o × (length output < end_of pairs i)

outside-later : (output : List ℕ) (n : ℕ) (pairs : List ℕ) (o : Option ℕ) → Outside output n (drop 2 pairs) o → Outside output (suc n) pairs (map suc o)
outside-later output n pairs o (i, k, c, e) = (suc i, omega arith, later i o c, rw (end_of-next pairs i) at e)

outside-first : (output : List ℕ) (n : ℕ) (pairs : List ℕ) (o : Option ℕ) → length output < end_of pairs 0 → Outside output (suc n) pairs o
outside-first output n pairs none e = (0, omega arith, tt, e)
outside-first output n pairs (some k) e = (0, omega arith, omega arith, e)

module _ (output name : List ℕ) where
  -- a search that is not refused compares no such pair
  pub compared-inside : (n : ℕ) (pairs : List ℕ) (i : ℕ) → meets_bad output n pairs name ≡ false
      → i < n → Compared i (find (pool_at output n pairs) name) → end_of pairs i ≤ length output
  unfolding meets_bad pool_at find
  compared-inside zero pairs i h k c = absurd (omega arith)
  compared-inside (suc n) pairs zero h k c =
      by_test (leb (end_of pairs 0) (length output)) (λ a. leb-true _ _ a) (λ a. absurd (false≢true (sym (rw a at h))))
  compared-inside (suc n) pairs (suc i) h k c =
      by_test (leb (end_of pairs 0) (length output))
      (λ a.
      by_test (same (part output (get_or pairs 0 0) (get_or pairs 1 0)) name)
      (λ b. absurd (let c₀ : suc i ≤ 0 = rw b at c in omega arith))
      (λ b. rw (← end_of-next pairs i) (compared-inside n (drop 2 pairs) i (rw (a, b) at h) (omega arith) (earlier i (find (pool_at output n (drop 2 pairs)) name) (rw b at c)))))
      (λ a. absurd (false≢true (sym (rw a at h))))

  -- a search that is refused compares one
  pub refused-outside : (n : ℕ) (pairs : List ℕ) → meets_bad output n pairs name ≡ true → Outside output n pairs (find (pool_at output n pairs) name)
  unfolding meets_bad pool_at find
  refused-outside zero pairs h = absurd (false≢true h)
  refused-outside (suc n) pairs h =
      by_test (leb (end_of pairs 0) (length output))
      (λ a.
      by_test (same (part output (get_or pairs 0 0) (get_or pairs 1 0)) name)
      (λ b. absurd (false≢true (rw (a, b) at h)))
      (λ b. rw b (outside-later output n pairs (find (pool_at output n (drop 2 pairs)) name) (refused-outside n (drop 2 pairs) (rw (a, b) at h)))))
      (λ a. outside-first output n pairs (find (pool_at output (suc n) pairs) name) (leb-false _ _ a))
