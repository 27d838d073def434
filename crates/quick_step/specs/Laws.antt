-- What a step's first refusal says of its stores, and what it says where there is none.
use Rattle.std.specs.Prelude.{Bool, true, false, List, ◌≡◌, ℕ, ◌+◌, ◌*◌, ◌≤◌, ltb, length}
use Rattle.std.proofs.Common.{true≢false, ◌∙◌, arith}
use borrow.Author.Tests.{ltb-false}
use Rattle.wire.specs.Limits.{max_store}
use Rattle.grammar.proofs.Choice.{by_test}
use Rattle.quick_step.specs.Step.{refused, too_long, outside, refused_first, step}

module _ (base len : ℕ) (copied : Bool) (store : ℕ) where
  pub not-long : too_long base len copied store ≡ false → (base + len ≤ max_store) × (copied ≡ true → store ≤ max_store)
  unfolding too_long
  not-long e =
      by_test (ltb max_store (base + len)) (λ a. absurd (true≢false (rw a at e)))
      (λ a. (ltb-false max_store (base + len) a, λ c. ltb-false max_store store (rw (a, c) at e)))

module _ (words names : ℕ) (copied : Bool) (used store : ℕ) where
  pub not-outside : outside words names copied used store ≡ false → (2 * names ≤ words) × (copied ≡ true → used ≤ store)
  unfolding outside
  not-outside e =
      by_test (ltb words (2 * names)) (λ a. absurd (true≢false (rw a at e)))
      (λ a. (ltb-false words (2 * names) a, λ c. ltb-false store used (rw (a, c) at e)))

module _ (base len : ℕ) (copied : Bool) (store words names used : ℕ) where
  pub not-refused : refused_first base len copied store words names used ≡ 0 → (too_long base len copied store ≡ false) × (outside words names copied used store ≡ false)
  unfolding refused_first
  not-refused e =
      by_test (too_long base len copied store) (λ a. let z = rw a at e in absurd (omega (arith, z))) (λ a.
      by_test (outside words names copied used store) (λ b. let z = rw (a, b) at e in absurd (omega (arith, z))) (λ b. (a, b)))

-- a step that is refused first, with every lent word as it was
pub first-refused : (s : List ℕ) (base : ℕ) (finished copied : Bool) (names used : ℕ) (table store rows : List ℕ) (number detail : ℕ)
    → number ≡ refused_first base (length s) copied (length store) (length table) names used → (number ≡ 0 → ⊥) → detail ≡ 0
    → record { reply = refused number detail; table = table; store = store; rows = rows } ≡ step s base finished copied names used table store rows
unfolding refused_first step
first-refused s base finished copied names used table store rows number detail e n d =
    by_test (too_long base (length s) copied (length store)) (λ a. rw (e, a, d)) (λ a.
    by_test (outside (length table) names copied used (length store)) (λ b. rw (e, a, b, d)) (λ b. absurd (n (e ∙ rw (a, b)))))
