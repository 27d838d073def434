-- A name's own faults, and then its search.
use mathlib.Core.Option.{Option, none, some}
use mathlib.Core.List.{List}
use mathlib.Core.Path.{◌≡◌, sym, ap}
use Rattle.std.specs.Prelude.{Ok, Some, None}
use Rattle.std.specs.Prelude as Code
use Prim.Native.Nat.{ℕ}
use native.Mathlib.Omega.{arith}
use Rattle.grammar.proofs.Choice.{by_test}
use Rattle.wire.specs.Refusal.{bad_state}
use Rattle.writer_spec.specs.Encode.{find}
use Rattle.writer_spec.specs.Faults.{string_fault}
use Rattle.writer_spec.specs.Writer.{pool_at, meets_bad}
use Rattle.pool_search.specs.Search.{searched, found_of}
use Rattle.writer.specs.Answers.{Place, placed, barred, placed_by, name_found_of}
use Rattle.writer.specs.Passes.{name_refusal}

module _ (output pairs name : List ℕ) (names : ℕ) where
  abbrev Answer : Place
  Answer = placed_by (name_refusal (meets_bad output names pairs) name) (find (pool_at output names pairs) name)

  pub name-faulty : (number detail : ℕ) → string_fault name ≡ some (number, detail) → barred number detail ≡ Answer
  name-faulty number detail e = rw e

  module _ (f : string_fault name ≡ none) where
    pub name-found : (o : Option ℕ) → searched output names pairs name ≡ some o → placed o ≡ Answer
    unfolding searched
    name-found o e =
        by_test (meets_bad output names pairs name) (λ t. absurd (let z : ◌≡◌ {A = ℕ} 0 1 = cc (rw t at e) in omega arith))
        (λ t. rw (f, t) (ap placed (let z : o ≡ find (pool_at output names pairs) name = cc (rw t at e) in z)))

    -- the same of the code's answer
    pub name-placed : (o : Code.Option ℕ) → found_of (Ok o) ≡ searched output names pairs name → name_found_of (Ok o) ≡ Answer
    name-placed (Some i) e = name-found (some i) (sym e)
    name-placed None e = name-found none (sym e)

    pub name-barred : searched output names pairs name ≡ none → barred bad_state 0 ≡ Answer
    unfolding searched
    name-barred e =
        by_test (meets_bad output names pairs name) (λ t. rw (f, t))
        (λ t. absurd (let z : ◌≡◌ {A = ℕ} 0 1 = cc (rw t at e) in omega arith))
