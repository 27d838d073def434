-- A row's tag by its kind.
use Rattle.std.specs.Prelude.{true, false, List, ◌∷◌, ◌≡◌, refl}
use Rattle.std.proofs.Common.{◌∙◌, arith}
use Prim.Native.Nat.{ℕ, zero, suc, ◌<◌}
use borrow.Author.Tests.{ne_eqb}
use Rattle.wire.specs.Token.{start_document, end_document, start_tag, end_tag}
use Rattle.event.specs.Row.{Row}
use Rattle.grammar.proofs.Choice.{by_test}
use Rattle.nesting_spec.specs.OnePass.{Tag, start, end, begins, ends, anywhere, inside, outside, else_tag, tag_of, begun}

pub by_kind : {X : Type 0} (k : ℕ) → (k ≡ start_document → X) → (k ≡ end_document → X) → (k ≡ start_tag → X) → (k ≡ end_tag → X)
    → (end_tag < k → X) → X
by_kind zero a b c d e = a refl
by_kind (suc zero) a b c d e = b refl
by_kind (suc (suc zero)) a b c d e = c refl
by_kind (suc (suc (suc zero))) a b c d e = d refl
by_kind (suc (suc (suc (suc n)))) a b c d e = e (omega arith)

module _ (r : Row) where
  pub tag-begins : r.kind ≡ start_document → tag_of r ≡ begins
  unfolding tag_of
  tag-begins e = rw e

  pub tag-ends : r.kind ≡ end_document → tag_of r ≡ ends
  unfolding tag_of
  tag-ends e = rw e

  pub tag-start : r.kind ≡ start_tag → tag_of r ≡ start r.name
  unfolding tag_of
  tag-start e = rw e

  pub tag-end : r.kind ≡ end_tag → tag_of r ≡ end r.name
  unfolding tag_of
  tag-end e = rw e

  -- neither an element's tag nor a document's
  tag-else : end_tag < r.kind → tag_of r ≡ else_tag r.kind
  unfolding tag_of
  tag-else h =
      let k : ℕ = r.kind in
      rw (ne_eqb k start_tag (λ e. omega arith), ne_eqb k end_tag (λ e. omega arith), ne_eqb k start_document (λ e. omega arith), ne_eqb k end_document (λ e. omega arith))

  pub tag-anywhere : end_tag < r.kind → outside r.kind ≡ true → tag_of r ≡ anywhere
  tag-anywhere h o = tag-else h ∙ (unfold else_tag in rw o)

  pub tag-inside : end_tag < r.kind → outside r.kind ≡ false → tag_of r ≡ inside
  tag-inside h o = tag-else h ∙ (unfold else_tag in rw o)

  -- a first row that is no StartDocument stays
  pub begun_kept : (rest : List Tag) → (r.kind ≡ start_document → ⊥) → begun (tag_of r ∷ rest) ≡ tag_of r ∷ rest
  unfolding begun
  begun_kept rest not =
      by_kind r.kind
      (λ e. absurd (not e))
      (λ e. rw (tag-ends e))
      (λ e. rw (tag-start e))
      (λ e. rw (tag-end e))
      (λ h. by_test (outside r.kind) (λ o. rw (tag-anywhere h o)) (λ o. rw (tag-inside h o)))
