use Rattle.std.proofs.Math.Option.{none, some}
use Rattle.std.proofs.Common.{ℕ, sym, ap, ◌∙◌, arith}
use Rattle.wire.specs.Token as Token
use Rattle.grammar.specs.Grammar.{Span, Ref, Value, Item}
use Rattle.grammar.proofs.Rows.{as_tag, as_text_row, type-is, first-bare, first-tag, first-other, first-text, first-textless}
use Rattle.extent.specs.Answers.{sound_of, named_of}
use Rattle.extent.specs.Past.{mapped, name_of_row}
use Rattle.extent.proofs.Passing.{err-is, unread-row}
use Rattle.extent.proofs.past.own_at.Goals as goal

abbrev tag : ℕ → Ref → Item
tag kind r = record { kind = kind; name = some r; type = 0; value = Value.nothing }

abbrev text : ℕ → Span → Item
text kind t = record { kind = kind; name = none; type = Token.string; value = Value.span t }

pub returns-then-kind-lt-START_TAG : goal.returns-then-kind-lt-START_TAG
returns-then-kind-lt-START_TAG c =
    let a = c.args in
    let p = c.requires in
    let ok = sound_of a.pool.now in
    ap (mapped name_of_row) (sym (first-bare ok a.names a.s.now p.s_nonzero.0 _ p.s_nonzero.1 c.if-kind-lt-START_TAG.true))

pub returns-in_err-name : goal.returns-in_err-name
returns-in_err-name c =
    let a = c.args in
    let p = c.requires in
    let ok = sound_of a.pool.now in
    let e = c.in_err-name.ensures in
    ap named_of (err-is c.from_residual.result _ c.from_residual.ensures.1) ∙ unread-row name_of_row (tag a.kind) _
    ∙ ap (mapped name_of_row) (ap (as_tag a.kind) e ∙ sym (first-tag ok a.names a.s.now p.s_nonzero.0 _ p.s_nonzero.1 c.if-kind-lt-START_TAG.false c.if-kind-lt-TEXT.true))

pub returns-then-kind-lt-TEXT : goal.returns-then-kind-lt-TEXT
returns-then-kind-lt-TEXT c =
    let a = c.args in
    let p = c.requires in
    let ok = sound_of a.pool.now in
    let e = c.in_ok-name.ensures in
    ap (mapped name_of_row) (ap (as_tag a.kind) e ∙ sym (first-tag ok a.names a.s.now p.s_nonzero.0 _ p.s_nonzero.1 c.if-kind-lt-START_TAG.false c.if-kind-lt-TEXT.true))

pub returns-then-kind-gt-DOC_DECL : goal.returns-then-kind-gt-DOC_DECL
returns-then-kind-gt-DOC_DECL c =
    let a = c.args in
    let p = c.requires in
    let ok = sound_of a.pool.now in
    ap (mapped name_of_row) (sym (first-other ok a.names a.s.now p.s_nonzero.0 _ p.s_nonzero.1 c.if-kind-lt-START_TAG.false c.if-kind-lt-TEXT.false c.if-kind-gt-DOC_DECL.true))

pub returns-in_err-next : goal.returns-in_err-next
returns-in_err-next c =
    let a = c.args in
    let p = c.requires in
    let ok = sound_of a.pool.now in
    let e = c.in_err-next.ensures in
    let typed = type-is a.tokens.now _ _ p.tokens_value (omega (arith, c.type_inv.s 0)) (c.number.ensures ∙ c.new.ensures.number) in
    ap named_of (err-is c.from_residual-in_err-next.result _ c.from_residual-in_err-next.ensures.1) ∙ unread-row name_of_row (text a.kind) _
    ∙ ap (mapped name_of_row) (ap (as_text_row a.kind) e ∙ sym (first-text ok a.names a.s.now p.s_nonzero.0 _ p.s_nonzero.1 c.if-kind-lt-START_TAG.false c.if-kind-lt-TEXT.false c.if-kind-gt-DOC_DECL.false (sym typed ∙ c.if-number-eq-STRING.true)))

pub returns-then-number-eq-STRING : goal.returns-then-number-eq-STRING
returns-then-number-eq-STRING c =
    let a = c.args in
    let p = c.requires in
    let ok = sound_of a.pool.now in
    let e = c.in_ok-next.ensures in
    let typed = type-is a.tokens.now _ _ p.tokens_value (omega (arith, c.type_inv.s 0)) (c.number.ensures ∙ c.new.ensures.number) in
    ap (mapped name_of_row) (ap (as_text_row a.kind) e ∙ sym (first-text ok a.names a.s.now p.s_nonzero.0 _ p.s_nonzero.1 c.if-kind-lt-START_TAG.false c.if-kind-lt-TEXT.false c.if-kind-gt-DOC_DECL.false (sym typed ∙ c.if-number-eq-STRING.true)))

pub returns : goal.returns
returns c =
    let a = c.args in
    let p = c.requires in
    let ok = sound_of a.pool.now in
    let typed = type-is a.tokens.now _ _ p.tokens_value (omega (arith, c.type_inv.s 0)) (c.number.ensures ∙ c.new.ensures.number) in
    ap (mapped name_of_row) (sym (first-textless ok a.names a.s.now p.s_nonzero.0 _ p.s_nonzero.1 c.if-kind-lt-START_TAG.false c.if-kind-lt-TEXT.false c.if-kind-gt-DOC_DECL.false (λ t. c.if-number-eq-STRING.false (typed ∙ t))))
