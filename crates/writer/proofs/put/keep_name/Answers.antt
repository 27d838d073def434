use native.Mathlib.Omega.{arith}
use mathlib.Core.Path.{◌≡◌, sym, ap, ◌∙◌}
use mathlib.Core.Bool.{true, false, cond}
use Prim.Native.Nat.{◌+◌}
use lib.ListN.{length, length-set}
use Rattle.event.specs.Row.{row_at}
use Rattle.writer.specs.Answers.{known_of}
use Rattle.writer.specs.Passes.{joins_by}
use Rattle.writer.proofs.Keeps.{joins, full, bare, there, name-is, pair-length, pair-stored, none-stored}
use Rattle.writer.proofs.put.keep_name.Goals as goal

pub bounds-pool-names : goal.bounds-pool-names
bounds-pool-names c =
    let a = c.args in
    let f = a.first.now in
    let s = a.second.now in
    let w = a.w.now in
    let named = sym c.has_name.ensures ∙ c.if-has_name.true in
    let j : joins_by (known_of a.known) (row_at f s w) a.names ≡ true = ap (λ k. joins_by (known_of k) (row_at f s w) a.names) c.in-None.is ∙ joins f s w a.names named c.if-names.true in
    omega (arith, pair-length a.pool.now (known_of a.known) (row_at f s w) a.names a.at j, c.requires.at_in_bounds)

pub overflow_cast-pool-then-names : goal.overflow_cast-pool-then-names
overflow_cast-pool-then-names c =
    let a = c.args in
    let f = a.first.now in
    let s = a.second.now in
    let w = a.w.now in
    omega (arith, c.name_in-name.ensures.short)

pub bounds-pool-names-then-names : goal.bounds-pool-names-then-names
bounds-pool-names-then-names c =
    let a = c.args in
    let f = a.first.now in
    let s = a.second.now in
    let w = a.w.now in
    let named = sym c.has_name.ensures ∙ c.if-has_name.true in
    let j : joins_by (known_of a.known) (row_at f s w) a.names ≡ true = ap (λ k. joins_by (known_of k) (row_at f s w) a.names) c.in-None.is ∙ joins f s w a.names named c.if-names.true in
    simp length-set (omega (arith, pair-length a.pool.now (known_of a.known) (row_at f s w) a.names a.at j, c.requires.at_in_bounds))

pub returns-then-names : goal.returns-then-names
returns-then-names c =
    let a = c.args in
    let f = a.first.now in
    let s = a.second.now in
    let w = a.w.now in
    let named = sym c.has_name.ensures ∙ c.if-has_name.true in
    let j : joins_by (known_of a.known) (row_at f s w) a.names ≡ true = ap (λ k. joins_by (known_of k) (row_at f s w) a.names) c.in-None.is ∙ joins f s w a.names named c.if-names.true in
    record { pairs = pair-stored a.pool.now (known_of a.known) (row_at f s w) a.names a.at _ j (ap length (c.name_in-name.ensures.bytes ∙ sym (name-is f s w a.names named))); count = sym (ap (λ b. cond b (a.names + 1) a.names) j) }

pub returns-else-names : goal.returns-else-names
returns-else-names c =
    let a = c.args in
    let f = a.first.now in
    let s = a.second.now in
    let w = a.w.now in
    let j : joins_by (known_of a.known) (row_at f s w) a.names ≡ false = ap (λ k. joins_by (known_of k) (row_at f s w) a.names) c.in-None.is ∙ full f s w a.names c.if-names.false in
    record { pairs = none-stored a.pool.now (known_of a.known) (row_at f s w) a.names a.at j; count = sym (ap (λ b. cond b (a.names + 1) a.names) j) }

pub returns-in_default : goal.returns-in_default
returns-in_default c =
    let a = c.args in
    let f = a.first.now in
    let s = a.second.now in
    let w = a.w.now in
    let j : joins_by (known_of a.known) (row_at f s w) a.names ≡ false = ap (λ k. joins_by (known_of k) (row_at f s w) a.names) c.in_default.is ∙ there f s w a.names _ in
    record { pairs = none-stored a.pool.now (known_of a.known) (row_at f s w) a.names a.at j; count = sym (ap (λ b. cond b (a.names + 1) a.names) j) }

pub returns-else-has_name : goal.returns-else-has_name
returns-else-has_name c =
    let a = c.args in
    let f = a.first.now in
    let s = a.second.now in
    let w = a.w.now in
    let j : joins_by (known_of a.known) (row_at f s w) a.names ≡ false = bare f s w a.names (known_of a.known) (sym c.has_name.ensures ∙ c.if-has_name.false) in
    record { pairs = none-stored a.pool.now (known_of a.known) (row_at f s w) a.names a.at j; count = sym (ap (λ b. cond b (a.names + 1) a.names) j) }
