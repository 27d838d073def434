use Rattle.std.proofs.Common.{◌<◌, refl, ◌∙◌, get_or, arith}
use Rattle.grammar.proofs.Rows.{type-is, type-small}
use Rattle.extent.specs.Answers.{sound_of}
use Rattle.extent.proofs.Passing.{err-is, name-unread, passed-within, passed-small, small-still, value-unread, value-small, rows-still, passes}
use Rattle.extent.proofs.attribute_at.Goals as goal

pub returns-in_err-name-clause-err : goal.returns-in_err-name-clause-err
returns-in_err-name-clause-err c =
    let a = c.args in
    let p = c.requires in
    rw (err-is c.from_residual.result _ c.from_residual.ensures.1) (name-unread (sound_of a.pool.now) a.s.now a.tally a.at p.at_in_bounds.0 p.at_in_bounds.1 _ c.in_err-name.ensures)

pub with-named-requires-clause-name_small : goal.with-named-requires-clause-name_small
with-named-requires-clause-name_small c =
    let a = c.args in
    let p = c.requires in
    passed-small (sound_of a.pool.now) a.s.now a.tally a.at p.at_in_bounds.0 p.at_in_bounds.1 _ _ c.in_ok-name.ensures

pub value_at-requires-clause-at_in_bounds : goal.value_at-requires-clause-at_in_bounds
value_at-requires-clause-at_in_bounds c =
    let a = c.args in
    let p = c.requires in
    passed-within (sound_of a.pool.now) a.s.now a.tally a.at p.at_in_bounds.0 p.at_in_bounds.1 _ _ c.in_ok-name.ensures

pub value_at-requires-clause-type_bound : goal.value_at-requires-clause-type_bound
value_at-requires-clause-type_bound c =
    let a = c.args in
    let p = c.requires in
    let small : get_or a.s.now a.at 0 < 256 = omega (arith, c.type_inv.s a.at) in
    type-small (get_or a.s.now a.at 0) _ small (type-is a.tokens.now (get_or a.s.now a.at 0) _ p.tokens_value small (c.number-type_.ensures ∙ c.new.ensures.number))

pub returns-in_err-interned-clause-err : goal.returns-in_err-interned-clause-err
returns-in_err-interned-clause-err c =
    let a = c.args in
    let p = c.requires in
    let small : get_or a.s.now a.at 0 < 256 = omega (arith, c.type_inv.s a.at) in
    let typed = type-is a.tokens.now (get_or a.s.now a.at 0) _ p.tokens_value small (c.number-type_.ensures ∙ c.new.ensures.number) in
    rw (err-is c.from_residual-in_err-interned.result _ c.from_residual-in_err-interned.ensures.1) (value-unread (sound_of a.pool.now) a.s.now a.tally a.at p.at_in_bounds.0 p.at_in_bounds.1 _ _ c.in_ok-name.ensures _ c.with-named.ensures _ typed _ c.in_err-interned.ensures)

pub with-valued-requires-clause-small : goal.with-valued-requires-clause-small
with-valued-requires-clause-small c =
    let a = c.args in
    let p = c.requires in
    small-still (sound_of a.pool.now) a.s.now a.tally a.at p.at_in_bounds.0 p.at_in_bounds.1 _ _ c.in_ok-name.ensures _ c.with-named.ensures p.bounded

pub with-valued-requires-clause-name_small : goal.with-valued-requires-clause-name_small
with-valued-requires-clause-name_small c =
    let a = c.args in
    let p = c.requires in
    let small : get_or a.s.now a.at 0 < 256 = omega (arith, c.type_inv.s a.at) in
    let typed = type-is a.tokens.now (get_or a.s.now a.at 0) _ p.tokens_value small (c.number-type_.ensures ∙ c.new.ensures.number) in
    value-small (sound_of a.pool.now) a.s.now a.tally a.at p.at_in_bounds.0 p.at_in_bounds.1 _ _ c.in_ok-name.ensures _ c.with-named.ensures _ typed _ _ c.in_ok-interned.ensures

pub overflow_add-rows : goal.overflow_add-rows
overflow_add-rows c =
    let a = c.args in
    let p = c.requires in
    let small : get_or a.s.now a.at 0 < 256 = omega (arith, c.type_inv.s a.at) in
    let typed = type-is a.tokens.now (get_or a.s.now a.at 0) _ p.tokens_value small (c.number-type_.ensures ∙ c.new.ensures.number) in
    omega (arith, rows-still (sound_of a.pool.now) a.s.now a.tally a.at p.at_in_bounds.0 p.at_in_bounds.1 _ _ c.in_ok-name.ensures _ c.with-named.ensures _ typed _ _ c.in_ok-interned.ensures _ c.with-valued.ensures, p.bounded.rows-bounded, p.at_in_bounds.0, p.at_in_bounds.1)

pub returns-clause-ok : goal.returns-clause-ok
returns-clause-ok c =
    let a = c.args in
    let p = c.requires in
    let small : get_or a.s.now a.at 0 < 256 = omega (arith, c.type_inv.s a.at) in
    let typed = type-is a.tokens.now (get_or a.s.now a.at 0) _ p.tokens_value small (c.number-type_.ensures ∙ c.new.ensures.number) in
    passes (sound_of a.pool.now) a.s.now a.tally a.at p.at_in_bounds.0 p.at_in_bounds.1 _ _ c.in_ok-name.ensures _ c.with-named.ensures _ typed _ _ c.in_ok-interned.ensures _ c.with-valued.ensures _ refl refl refl refl
