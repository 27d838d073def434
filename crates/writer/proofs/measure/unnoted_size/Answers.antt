use Rattle.std.proofs.Common.{arith, rules, ◌≡◌, ap, ◌∙◌, Ok, Err}
use Rattle.writer.specs.declared.Stop.TheVariants.{Refused}
use Rattle.std.proofs.Common.{get_or}
use Rattle.event.specs.Laws.{span-short}
use Rattle.writer.proofs.Measures.{used-small, there-small, there-crowded, there-asks, there-takes, joins-crowded, joins-asks, joins-takes, full-takes, stays-refused}
use Rattle.writer.proofs.measure.unnoted_size.Goals as goal

pub find_name-requires : goal.find_name-requires
find_name-requires c =
    let a = c.args in
    let p = c.requires in
    let k = p.kept in
    let w = a.w.now in
    record { maybe_indexed = c.requires.maybe_indexed; kept_in_bounds = p.kept_in_bounds; name_len_bound = p.name_len_bound }

pub returns-then-notes-used-lt5 : goal.returns-then-notes-used-lt5
returns-then-notes-used-lt5 c =
    let a = c.args in
    let p = c.requires in
    let said = c.find_name in
    there-crowded a.first.now a.second.now a.output.now a.pool.now a.kept a.w.now a.name.now a.notes.now a.heads.now a.used a.slot a.names p.name_value p.used_in_bounds p.slot_value p.kept p.unnoted said.result said.ensures c.in-Some.i (c.in_ok-i.was ∙ ap Ok c.in-Some.is) c.if-notes-used-lt5.true

pub overflow_cast-i : goal.overflow_cast-i
overflow_cast-i c =
    let a = c.args in
    let p = c.requires in
    let said = c.find_name in
    record { fits = there-small a.first.now a.second.now a.output.now a.pool.now a.kept a.w.now a.name.now a.notes.now a.heads.now a.used a.slot a.names p.name_value p.used_in_bounds p.slot_value p.kept p.unnoted said.result said.ensures c.in-Some.i (c.in_ok-i.was ∙ ap Ok c.in-Some.is) }

pub note-requires : goal.note-requires
note-requires c =
    let a = c.args in
    let p = c.requires in
    let said = c.find_name in
    let asked = there-asks a.first.now a.second.now a.output.now a.pool.now a.kept a.w.now a.name.now a.notes.now a.heads.now a.used a.slot a.names p.name_value p.used_in_bounds p.slot_value p.kept p.unnoted said.result said.ensures c.in-Some.i (c.in_ok-i.was ∙ ap Ok c.in-Some.is) c.if-notes-used-lt5.false in record { used_in_bounds = asked.0; slot_in_bounds = asked.1 }

pub overflow_add-result : goal.overflow_add-result
overflow_add-result c =
    let a = c.args in
    let p = c.requires in
    let said = c.find_name in
    record { fits = used-small a.first.now a.second.now a.output.now a.pool.now a.kept a.w.now a.name.now a.notes.now a.heads.now a.used a.slot a.names p.name_value p.used_in_bounds p.slot_value p.kept p.unnoted said.result said.ensures }

pub returns-then-notes-used-lt5-2 : goal.returns-then-notes-used-lt5-2
returns-then-notes-used-lt5-2 c =
    let a = c.args in
    let p = c.requires in
    let said = c.find_name in
    joins-crowded a.first.now a.second.now a.output.now a.pool.now a.kept a.w.now a.name.now a.notes.now a.heads.now a.used a.slot a.names p.name_value p.used_in_bounds p.slot_value p.kept p.unnoted said.result said.ensures (c.in_ok-i.was ∙ ap Ok c.in-None.is) c.if-names.true c.if-notes-used-lt5-2.true

pub note-requires-then-names : goal.note-requires-then-names
note-requires-then-names c =
    let a = c.args in
    let p = c.requires in
    let said = c.find_name in
    let asked = joins-asks a.first.now a.second.now a.output.now a.pool.now a.kept a.w.now a.name.now a.notes.now a.heads.now a.used a.slot a.names p.name_value p.used_in_bounds p.slot_value p.kept p.unnoted said.result said.ensures (c.in_ok-i.was ∙ ap Ok c.in-None.is) c.if-names.true c.if-notes-used-lt5-2.false in record { used_in_bounds = asked.0; slot_in_bounds = asked.1 }

pub overflow_add-result-then-names-2 : goal.overflow_add-result-then-names-2
overflow_add-result-then-names-2 c =
    let a = c.args in
    let p = c.requires in
    let said = c.find_name in
    record { fits = used-small a.first.now a.second.now a.output.now a.pool.now a.kept a.w.now a.name.now a.notes.now a.heads.now a.used a.slot a.names p.name_value p.used_in_bounds p.slot_value p.kept p.unnoted said.result said.ensures }

pub returns-then-names : goal.returns-then-names
returns-then-names c =
    let a = c.args in
    let p = c.requires in
    let said = c.find_name in
    let noted = c.note-then-names in
    joins-takes a.first.now a.second.now a.output.now a.pool.now a.kept a.w.now a.name.now a.notes.now a.heads.now a.used a.slot a.names p.name_value p.used_in_bounds p.slot_value p.kept p.unnoted said.result said.ensures (c.in_ok-i.was ∙ ap Ok c.in-None.is) c.if-names.true _ _ noted.ensures.notes_after noted.ensures.heads_after c.if-notes-used-lt5-2.false

pub returns-in_err-i : goal.returns-in_err-i
returns-in_err-i c =
    let a = c.args in
    let p = c.requires in
    let said = c.find_name in
    let f = c.in_err-i in
    let e : c.from_residual.result ≡ Err (Refused f.field-0.0) = search rules in
    rw e (stays-refused a.first.now a.second.now a.output.now a.pool.now a.kept a.w.now a.name.now a.notes.now a.heads.now a.used a.slot a.names p.name_value p.used_in_bounds p.slot_value p.kept p.unnoted said.result said.ensures f.field-0.0 f.was)

pub returns-else-notes-used-lt5 : goal.returns-else-notes-used-lt5
returns-else-notes-used-lt5 c =
    let a = c.args in
    let p = c.requires in
    let said = c.find_name in
    let noted = c.note in
    there-takes a.first.now a.second.now a.output.now a.pool.now a.kept a.w.now a.name.now a.notes.now a.heads.now a.used a.slot a.names p.name_value p.used_in_bounds p.slot_value p.kept p.unnoted said.result said.ensures c.in-Some.i (c.in_ok-i.was ∙ ap Ok c.in-Some.is) _ _ noted.ensures.notes_after noted.ensures.heads_after c.if-notes-used-lt5.false

pub returns-else-names : goal.returns-else-names
returns-else-names c =
    let a = c.args in
    let p = c.requires in
    let said = c.find_name in
    full-takes a.first.now a.second.now a.output.now a.pool.now a.kept a.w.now a.name.now a.notes.now a.heads.now a.used a.slot a.names p.name_value p.used_in_bounds p.slot_value p.kept p.unnoted said.result said.ensures (c.in_ok-i.was ∙ ap Ok c.in-None.is) c.if-names.false
