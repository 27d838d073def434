use Rattle.std.proofs.Common.{ℕ, ◌∷◌, ◌++◌, refl, ap, ◌∙◌, arith}
use Rattle.std.proofs.Math.Seq.{sets}
use Rattle.quick.specs.Quick.{words_of}
use Rattle.wire.specs.Token as Token
use Rattle.scanner.proofs.Rowing.{name-asks, value-within, value-asks, row-filled}
use Rattle.scanner.proofs.fill.attribute.Goals as goal

pub name-n-requires : goal.name-n-requires
name-n-requires c =
    let a = c.args in
    let p = c.requires in
    record { within = p.within; has = name-asks a.home a.s.now a.kept a.at a.table.now a.store.now p.within p.has }

pub value-v-requires : goal.value-v-requires
unfolding Token.type
value-v-requires c =
    let a = c.args in
    let p = c.requires in
    record { within = value-within a.home a.s.now a.kept a.at a.table.now a.store.now p.within p.has _ _ _ c.name-n.ensures; type_bound = omega (arith, c.type_inv.s a.at); has = value-asks a.home a.s.now a.kept a.at a.table.now a.store.now p.within p.has _ _ _ c.name-n.ensures _ refl }

pub returns : goal.returns
unfolding Token.type
returns c =
    let a = c.args in
    let p = c.requires in
    row-filled a.home a.s.now a.kept a.at a.table.now a.store.now p.within p.has _ _ _ c.name-n.ensures _ refl _ _ _ c.value-v.ensures a.rows.now _ a.to _ _ c.row_type.ensures
    (c.put_row.ensures ∙ ap (λ (k : ℕ). sets a.rows.now a.to (k ∷ (words_of c.name-n.result.words ++ (c.row_type.result ∷ words_of c.value-v.result.words)))) c.number.ensures) refl refl
