use Rattle.std.proofs.Common.{Bool, ◌&&◌, length, refl, ap, ◌∙◌, arith, sym}
use Rattle.grammar.specs.Grammar.{event}
use Rattle.grammar.specs.Trusted.{always}
use Rattle.scanner.proofs.Stepping.{some-row}
use Rattle.scanner.proofs.Choosing.{grown-long, event-kind, single-grown, single-chosen, tag-ready, tag-still, tag-grown, own-fits, own-few, others-from, others-room, all-chosen}
use Rattle.scanner.proofs.select.take_event.Goals as goal

pub one-ahead-requires : goal.one-ahead-requires
one-ahead-requires c =
    let a = c.args in
    let p = c.requires in
    record { from_in_bounds = omega arith; ready_at = p.ready_at; nonzero = some-row always a.start.names a.s.now p.ready_at.ended }

pub shape_of-table-then-kind-number : goal.shape_of-table-then-kind-number
shape_of-table-then-kind-number c =
    let a = c.args in
    let p = c.requires in
    ap length (single-grown a.start.at a.s.now a.start.names a.table.now _ _ _ p.ready_at c.one-ahead.ensures (λ z. c.if-kind-number.true (z ∙ sym c.number.ensures))) ∙ grown-long a.start.at a.start.names a.table.now (event always a.start.names a.s.now)

pub returns-then-kind-number : goal.returns-then-kind-number
returns-then-kind-number c =
    let a = c.args in
    let p = c.requires in
    record { rows = single-chosen a.start.at a.s.now a.start.names a.table.now _ _ _ p.ready_at c.one-ahead.ensures (λ z. c.if-kind-number.true (z ∙ sym c.number.ensures)) a.wanted.query a.start.document.now a.wanted.element.now a.wanted.name.now a.rows.now a.to; kind = event-kind a.start.at a.s.now a.start.names a.table.now _ _ _ p.ready_at c.one-ahead.ensures; names = single-grown a.start.at a.s.now a.start.names a.table.now _ _ _ p.ready_at c.one-ahead.ensures (λ z. c.if-kind-number.true (z ∙ sym c.number.ensures)) }

pub take_first-first-requires : goal.take_first-first-requires
take_first-first-requires c =
    let a = c.args in
    let p = c.requires in
    own-fits a.start.at a.s.now a.start.names a.table.now _ _ _ p.ready_at c.one-ahead.ensures (c.if-kind-number.false ∙ c.number.ensures) a.wanted.query a.start.document.now a.wanted.element.now a.wanted.name.now _ _ _ _ c.is_element-look.ensures refl refl (ap (λ (b : Bool). c.is_element-look.result && b) c.takes_all-all.ensures) a.to a.rows.now p.room

pub overflow_mul-first : goal.overflow_mul-first
overflow_mul-first c =
    let a = c.args in
    let p = c.requires in
    omega (arith, own-few a.start.at a.s.now a.start.names a.table.now _ _ _ p.ready_at c.one-ahead.ensures (c.if-kind-number.false ∙ c.number.ensures) a.wanted.query a.start.document.now a.wanted.element.now a.wanted.name.now _ _ _ _ c.is_element-look.ensures refl refl (ap (λ (b : Bool). c.is_element-look.result && b) c.takes_all-all.ensures) a.to a.rows.now p.room _ _ c.take_first-first.ensures p.to_value)

pub overflow_add-to : goal.overflow_add-to
overflow_add-to c =
    let a = c.args in
    let p = c.requires in
    omega (arith, others-from a.start.at a.s.now a.start.names a.table.now _ _ _ p.ready_at c.one-ahead.ensures (c.if-kind-number.false ∙ c.number.ensures) a.wanted.query a.start.document.now a.wanted.element.now a.wanted.name.now _ _ _ _ c.is_element-look.ensures refl refl (ap (λ (b : Bool). c.is_element-look.result && b) c.takes_all-all.ensures) a.to a.rows.now p.room _ _ c.take_first-first.ensures p.to_value)

pub take_rest-more-requires : goal.take_rest-more-requires
take_rest-more-requires c =
    let a = c.args in
    let p = c.requires in
    let t = tag-ready a.start.at a.s.now a.start.names a.table.now _ _ _ p.ready_at c.one-ahead.ensures (c.if-kind-number.false ∙ c.number.ensures) in
    record { from_nonzero = t.0; ready_at = t.1; from_len = tag-still a.start.at a.s.now a.start.names a.table.now _ _ _ p.ready_at c.one-ahead.ensures (c.if-kind-number.false ∙ c.number.ensures) a.still p.s_len; room = others-room a.start.at a.s.now a.start.names a.table.now _ _ _ p.ready_at c.one-ahead.ensures (c.if-kind-number.false ∙ c.number.ensures) a.wanted.query a.start.document.now a.wanted.element.now a.wanted.name.now _ _ _ _ c.is_element-look.ensures refl refl (ap (λ (b : Bool). c.is_element-look.result && b) c.takes_all-all.ensures) a.to a.rows.now p.room _ _ c.take_first-first.ensures p.to_value }

pub overflow_add-result : goal.overflow_add-result
overflow_add-result c =
    let a = c.args in
    let p = c.requires in
    omega (arith, own-few a.start.at a.s.now a.start.names a.table.now _ _ _ p.ready_at c.one-ahead.ensures (c.if-kind-number.false ∙ c.number.ensures) a.wanted.query a.start.document.now a.wanted.element.now a.wanted.name.now _ _ _ _ c.is_element-look.ensures refl refl (ap (λ (b : Bool). c.is_element-look.result && b) c.takes_all-all.ensures) a.to a.rows.now p.room _ _ c.take_first-first.ensures p.to_value, c.take_rest-more.ensures.few, p.ready_at.in-store)

pub returns : goal.returns
returns c =
    let a = c.args in
    let p = c.requires in
    record { rows = all-chosen a.start.at a.s.now a.start.names a.table.now _ _ _ p.ready_at c.one-ahead.ensures (c.if-kind-number.false ∙ c.number.ensures) a.wanted.query a.start.document.now a.wanted.element.now a.wanted.name.now _ _ _ _ c.is_element-look.ensures refl refl (ap (λ (b : Bool). c.is_element-look.result && b) c.takes_all-all.ensures) a.to a.rows.now p.room _ _ c.take_first-first.ensures p.to_value _ _ c.take_rest-more.ensures.rows; kind = event-kind a.start.at a.s.now a.start.names a.table.now _ _ _ p.ready_at c.one-ahead.ensures; names = tag-grown a.start.at a.s.now a.start.names a.table.now _ _ _ p.ready_at c.one-ahead.ensures (c.if-kind-number.false ∙ c.number.ensures) _ c.take_rest-more.ensures.names }
