use Rattle.std.proofs.Common.{arith, ℕ, ◌/◌, get_or, refl, ap, ◌∙◌, ◌∷◌, ◌++◌}
use Rattle.std.proofs.lemmas.List.Edits.{sets}
use Rattle.quick.specs.Quick.{words_of}
use Rattle.wire.specs.Token as Token
use Rattle.grammar.specs.Scan.{sound}
use Rattle.quick.proofs.Flats.{attribute-row}
use Rattle.quick.proofs.attribute.Goals as goal

pub overflow_cast-type_ : goal.overflow_cast-type_
overflow_cast-type_ c = omega (arith, c.type_inv.s c.args.at)

pub value-requires : goal.value-requires
value-requires c =
    let a = c.args in
    let p = c.requires in
    record { at_in_bounds = (omega arith, p.at_in_bounds.1); counts_value = p.counts_value; type_bound = omega (arith, c.type_inv.s a.at) }

pub returns : goal.returns
unfolding Token.type
returns c =
    let a = c.args in
    let ok = sound a.pool.now.names a.pool.now.table.now a.pool.now.stored in
    let n = c.in_ok-name.name in
    let v = c.in_ok-v.v in
    let type = get_or a.s.now a.at 0 / 16 in
    attribute-row ok a.pool.now.names a.s.now a.at a.pool.now.source a.base a.pool.now.table.now a.words.now _ a.to type n v _ (omega arith) refl
    c.in_ok-name.ensures c.in_ok-v.ensures
    (c.put_row.ensures ∙ ap (λ (t : ℕ). sets a.words.now a.to (15 ∷ (words_of n ++ (t ∷ words_of v)))) c.row_type.ensures)
