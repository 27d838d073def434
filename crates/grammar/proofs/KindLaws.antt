-- Laws of tokens and of the kinds of rows: which of them have a name, and what a token's nibbles are.
use Rattle.std.specs.Prelude.{true, false, ◌≡◌, ℕ, ◌+◌, ◌*◌, ◌≤◌, ◌<◌, eqb}
use Rattle.std.proofs.Common.{arith}
use borrow.Author.Tests.{eqb-false, eq-eqb, ne_eqb}
use Rattle.wire.specs.Token.{command}
use Rattle.wire.specs.Token as Token
use Rattle.event.specs.Row.{has_name}
use Rattle.grammar.proofs.Choice.{by_test}

pub command-token : (type kind : ℕ) → kind < 16 → command (type * 16 + kind) ≡ kind
unfolding command
command-token type kind h = omega arith

pub type-token : (type kind : ℕ) → kind < 16 → Token.type (type * 16 + kind) ≡ type
unfolding Token.type
type-token type kind h = omega arith

module _ (kind : ℕ) where
  pub bare-unnamed : kind < Token.start_tag → has_name kind ≡ false
  unfolding has_name
  bare-unnamed h = rw (ne_eqb kind 2 (λ z. omega arith), ne_eqb kind 3 (λ z. omega arith), ne_eqb kind 15 (λ z. omega arith))

  pub tag-named : Token.start_tag ≤ kind → kind < Token.text → has_name kind ≡ true
  unfolding has_name
  tag-named a b = by_test (eqb kind 2) (λ x. rw x) (λ x. rw (x, eq-eqb kind 3 (omega (arith, eqb-false kind 2 x))))

  pub text-unnamed : Token.text ≤ kind → kind ≤ Token.doc_decl → has_name kind ≡ false
  unfolding has_name
  text-unnamed a b = rw (ne_eqb kind 2 (λ z. omega arith), ne_eqb kind 3 (λ z. omega arith), ne_eqb kind 15 (λ z. omega arith))
