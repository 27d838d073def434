use Rattle.std.proofs.Common.{ℕ, ◌≡◌, ◌<◌, refl, sym, ap, ◌∙◌, arith}
use borrow.Author.Tests.{eqb-true, eqb-false}
use Rattle.grammar.specs.Grammar.{Item}
use Rattle.grammar.specs.Scan.{outcome}
use Rattle.grammar.proofs.Rows.{command-is, first-empty, first_kind}
use Rattle.extent.proofs.Measuring.{as_told, none_yet, whole-unread, first_small, first-within, first-bounded, whole-single, whole-tag}
use Rattle.extent.specs.Answers.{sound_of}
use Rattle.extent.specs.Past.{name_of_row}
use Rattle.extent.proofs.Passing.{mapped-unread, unread-is, own_read, own-small, own-counts}
use Rattle.extent.proofs.measure_event.Goals as goal

not-none : (n : ℕ) → (n ≡ 0 → ⊥) → 0 < n
not-none n h = omega arith

pub returns-then-is_empty : goal.returns-then-is_empty
returns-then-is_empty c =
    let a = c.args in
    let ok = sound_of a.pool.now in
    let none = eqb-true _ _ (sym c.is_empty.ensures ∙ c.if-is_empty.true) in
    c.told.ensures ∙ ap (as_told (none_yet a.names)) c.ended.ensures ∙ whole-unread a.finished a.s.now ok a.names _ (first-empty ok a.names a.s.now none) tt

pub own_at-requires-clause-s_nonzero : goal.own_at-requires-clause-s_nonzero
own_at-requires-clause-s_nonzero c =
    let a = c.args in
    let p = c.requires in
    (not-none _ (eqb-false _ _ (sym c.is_empty.ensures ∙ c.if-is_empty.false)), (command-is a.tokens.now _ _ p.tokens_value (omega (arith, c.type_inv.s 0)) (c.number-kind.ensures ∙ c.new.ensures.number)))

pub returns-in-Err : goal.returns-in-Err
returns-in-Err c =
    let a = c.args in
    let ok = sound_of a.pool.now in
    c.told-in-Err.ensures ∙ ap (as_told (none_yet a.names)) c.ended-in-Err.ensures
    ∙ whole-unread a.finished a.s.now ok a.names _ (mapped-unread name_of_row _ c.in-Err.refusal c.in-Err.ensures) (unread-is Item c.in-Err.refusal)

pub with-named-requires-clause-name_small : goal.with-named-requires-clause-name_small
with-named-requires-clause-name_small c =
    let a = c.args in
    let p = c.requires in
    let ok = sound_of a.pool.now in
    let some = not-none _ (eqb-false _ _ (sym c.is_empty.ensures ∙ c.if-is_empty.false)) in
    let own = own_read ok a.names a.s.now some _ (command-is a.tokens.now _ _ p.tokens_value (omega (arith, c.type_inv.s 0)) (c.number-kind.ensures ∙ c.new.ensures.number)) _ _ c.in-Ok.ensures in
    own-small ok a.names a.s.now some _ (command-is a.tokens.now _ _ p.tokens_value (omega (arith, c.type_inv.s 0)) (c.number-kind.ensures ∙ c.new.ensures.number)) _ _ c.in-Ok.ensures (first_small a.finished a.s.now ok a.names _ _ own.is p.s_len_bound)

pub measure_rest-requires : goal.measure_rest-requires
measure_rest-requires c =
    let a = c.args in
    let p = c.requires in
    let ok = sound_of a.pool.now in
    let some = not-none _ (eqb-false _ _ (sym c.is_empty.ensures ∙ c.if-is_empty.false)) in
    let own = own_read ok a.names a.s.now some _ (command-is a.tokens.now _ _ p.tokens_value (omega (arith, c.type_inv.s 0)) (c.number-kind.ensures ∙ c.new.ensures.number)) _ _ c.in-Ok.ensures in
    let u = c.with-named.result in
    let n = own-counts ok a.names a.s.now some _ (command-is a.tokens.now _ _ p.tokens_value (omega (arith, c.type_inv.s 0)) (c.number-kind.ensures ∙ c.new.ensures.number)) _ _ c.in-Ok.ensures (none_yet a.names) u c.with-named.ensures (record { names = u.names; rows = 1; added = u.added; bytes = u.bytes }) refl refl refl refl in
    record { from_in_bounds = (first-within a.finished a.s.now ok a.names _ _ own.is p.s_len_bound, p.s_len_bound); tokens_value = p.tokens_value; bounded = first-bounded a.finished a.s.now ok a.names _ _ own.is p.s_len_bound _ n }

pub returns-then-kind-eq-START_TAG : goal.returns-then-kind-eq-START_TAG
returns-then-kind-eq-START_TAG c =
    let a = c.args in
    let p = c.requires in
    let ok = sound_of a.pool.now in
    let some = not-none _ (eqb-false _ _ (sym c.is_empty.ensures ∙ c.if-is_empty.false)) in
    let own = own_read ok a.names a.s.now some _ (command-is a.tokens.now _ _ p.tokens_value (omega (arith, c.type_inv.s 0)) (c.number-kind.ensures ∙ c.new.ensures.number)) _ _ c.in-Ok.ensures in
    let u = c.with-named.result in
    let n = own-counts ok a.names a.s.now some _ (command-is a.tokens.now _ _ p.tokens_value (omega (arith, c.type_inv.s 0)) (c.number-kind.ensures ∙ c.new.ensures.number)) _ _ c.in-Ok.ensures (none_yet a.names) u c.with-named.ensures (record { names = u.names; rows = 1; added = u.added; bytes = u.bytes }) refl refl refl refl in
    c.measure_rest.ensures ∙ whole-tag a.finished a.s.now ok a.names _ _ own.is p.s_len_bound _ n (first_kind ok a.names a.s.now some _ (command-is a.tokens.now _ _ p.tokens_value (omega (arith, c.type_inv.s 0)) (c.number-kind.ensures ∙ c.new.ensures.number)) _ _ own.is ∙ c.if-kind-eq-START_TAG.true)

pub returns : goal.returns
unfolding outcome
returns c =
    let a = c.args in
    let p = c.requires in
    let ok = sound_of a.pool.now in
    let some = not-none _ (eqb-false _ _ (sym c.is_empty.ensures ∙ c.if-is_empty.false)) in
    let own = own_read ok a.names a.s.now some _ (command-is a.tokens.now _ _ p.tokens_value (omega (arith, c.type_inv.s 0)) (c.number-kind.ensures ∙ c.new.ensures.number)) _ _ c.in-Ok.ensures in
    let u = c.with-named.result in
    let n = own-counts ok a.names a.s.now some _ (command-is a.tokens.now _ _ p.tokens_value (omega (arith, c.type_inv.s 0)) (c.number-kind.ensures ∙ c.new.ensures.number)) _ _ c.in-Ok.ensures (none_yet a.names) u c.with-named.ensures (record { names = u.names; rows = 1; added = u.added; bytes = u.bytes }) refl refl refl refl in
    c.told-2.ensures ∙ whole-single a.finished a.s.now ok a.names _ _ own.is p.s_len_bound _ n (λ k. c.if-kind-eq-START_TAG.false (sym (first_kind ok a.names a.s.now some _ (command-is a.tokens.now _ _ p.tokens_value (omega (arith, c.type_inv.s 0)) (c.number-kind.ensures ∙ c.new.ensures.number)) _ _ own.is) ∙ k))
