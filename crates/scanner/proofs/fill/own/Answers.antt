use Rattle.std.proofs.Common.{ℕ, ◌≤◌, [], ◌∷◌, refl, sym, ap, ◌∙◌, arith}
use Rattle.std.proofs.Math.Seq.{sets}
use Rattle.quick.specs.Quick.{words_of}
use Rattle.wire.specs.Token as Token
use Rattle.wire.proofs.Arms.{documents, tags}
use Rattle.scanner.proofs.Rowing.{no-tag, bare-filled, textless-filled, text-asks, text-filled, tag-asks, tag-filled}
use Rattle.scanner.proofs.fill.own.Goals as goal

pub returns-in-StartDocument : goal.returns-in-StartDocument
returns-in-StartDocument c =
    let a = c.args in
    let p = c.requires in
    let k = documents _ c.in-StartDocument.is in
    let n = c.from.ensures.0 in
    bare-filled a.home a.s.now a.kept a.table.now a.store.now p.within.0 a.kind p.within.1 p.has a.rows.now _ _ _ _ refl (omega arith) refl refl refl
    c.put_row.ensures

pub name-n-requires : goal.name-n-requires
name-n-requires c =
    let a = c.args in
    let p = c.requires in
    let k = tags _ c.in-StartTag.is in
    let n = c.from.ensures.0 in
    record { within = p.within.0; has = tag-asks a.home a.s.now a.kept a.table.now a.store.now p.within.0 a.kind p.within.1 p.has (omega arith) (omega arith) }

pub returns-in-StartTag : goal.returns-in-StartTag
returns-in-StartTag c =
    let a = c.args in
    let p = c.requires in
    let k = tags _ c.in-StartTag.is in
    let n = c.from.ensures.0 in
    tag-filled a.home a.s.now a.kept a.table.now a.store.now p.within.0 a.kind p.within.1 p.has (omega arith) (omega arith) _ _ a.rows.now _ _ _ _ c.name-n.ensures refl refl refl
    c.put_row-in-StartTag.ensures

pub returns-then-s-string : goal.returns-then-s-string
unfolding Token.type
returns-then-s-string c =
    let a = c.args in
    let p = c.requires in
    let d = c.in_default in
    let k : Token.text ≤ a.kind = no-tag a.kind _ c.from.ensures.1 d.not-StartDocument d.not-EndDocument d.not-StartTag d.not-EndTag in
    textless-filled a.home a.s.now a.kept a.table.now a.store.now p.within.0 a.kind p.within.1 p.has a.rows.now _ _ _ _ refl (omega arith) k (λ z. c.if-s-string.true (z ∙ sym c.number-string.ensures)) refl refl refl
    (c.put_row-then-s-string.ensures ∙ ap (λ (y : ℕ). sets a.rows.now 0 (a.kind ∷ 0 ∷ 0 ∷ 0 ∷ y ∷ 0 ∷ 0 ∷ 0 ∷ [])) c.number-string.ensures)

pub text-t-requires : goal.text-t-requires
unfolding Token.type
text-t-requires c =
    let a = c.args in
    let p = c.requires in
    let d = c.in_default in
    let k : Token.text ≤ a.kind = no-tag a.kind _ c.from.ensures.1 d.not-StartDocument d.not-EndDocument d.not-StartTag d.not-EndTag in
    record { within = p.within.0; has = text-asks a.home a.s.now a.kept a.table.now a.store.now p.within.0 a.kind p.within.1 p.has a.rows.now a.rows.now (record { next = 0; kept = a.kept }) (0 ∷ 0 ∷ 0 ∷ []) [] refl (omega arith) k (c.if-s-string.false ∙ c.number-string.ensures) }

pub returns-else-s-string : goal.returns-else-s-string
unfolding Token.type
returns-else-s-string c =
    let a = c.args in
    let p = c.requires in
    let d = c.in_default in
    let k : Token.text ≤ a.kind = no-tag a.kind _ c.from.ensures.1 d.not-StartDocument d.not-EndDocument d.not-StartTag d.not-EndTag in
    text-filled a.home a.s.now a.kept a.table.now a.store.now p.within.0 a.kind p.within.1 p.has a.rows.now _ _ _ _ refl (omega arith) k (c.if-s-string.false ∙ c.number-string.ensures) _ c.text-t.ensures refl refl refl
    (c.put_row-in_default.ensures ∙ ap (λ (y : ℕ). sets a.rows.now 0 (a.kind ∷ 0 ∷ 0 ∷ 0 ∷ y ∷ words_of c.text-t.result.words)) c.number-string.ensures)
