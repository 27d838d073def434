use Rattle.std.proofs.Common.{sym, ◌∙◌, ◌/◌, length, arith, []}
use Rattle.std.proofs.Math.Nat.{sub-zero}
use Rattle.event.specs.Words.{list_forms}
use Rattle.event.proofs.Rows.{row-of-words}
use Rattle.forms.proofs.Rows.{rows_turn, rows_end}
use Rattle.forms.proofs.list_forms.Goals as goal

pub returns-then-not-is_empty : goal.returns-then-not-is_empty
unfolding list_forms
returns-then-not-is_empty c = rw (rw c.as_chunks.ensures.back_len at (sym c.is_empty.ensures ∙ c.if-not-is_empty.true))

pub loop-row-init : goal.loop-row-init
unfolding list_forms
loop-row-init c = rw (rw c.as_chunks.ensures.back_len at (sym c.is_empty.ensures ∙ c.if-not-is_empty.false), sub-zero)

pub returns-then-not-row_forms_in : goal.returns-then-not-row_forms_in
returns-then-not-row_forms_in c =
    let w = c.args.rows.now in
    let l = c.loop-row in
    let row = row-of-words (length w / 8) l.row-index w [] (omega arith) in
    let turn = rows_turn c.args.first.now c.args.second.now l.inside w _ (length w / 8) l.row-index (omega arith) row in
    sym (sym l.invariant ∙ turn ∙ rw (← c.as_chunks.ensures.front, ← c.row_forms_in.ensures, c.if-not-row_forms_in.true))

pub loop-row-preserved : goal.loop-row-preserved
loop-row-preserved c =
    let w = c.args.rows.now in
    let l = c.loop-row in
    let row = row-of-words (length w / 8) l.row-index w [] (omega arith) in
    let turn = rows_turn c.args.first.now c.args.second.now l.inside w _ (length w / 8) l.row-index (omega arith) row in
    sym (rw (← c.as_chunks.ensures.front, ← c.row_forms_in.ensures, c.if-not-row_forms_in.false, ← c.opens_attributes-inside.ensures) at turn) ∙ l.invariant

pub returns : goal.returns
returns c = sym (sym c.loop-row.invariant ∙ rows_end c.args.first.now c.args.second.now c.loop-row.inside c.args.rows.now _ _ (omega arith))
