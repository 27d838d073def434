use Rattle.std.proofs.Common.{rules, ◌≡◌, ◌<◌, get_or, Err}
use Rattle.writer.proofs.Measures.{name-stopped, name-fits, value-refused, value-fits, row-measured}
use Rattle.writer.specs.declared.Stop.TheVariants.{Refused}
use Rattle.writer.proofs.measure.measure_row.Goals as goal

pub overflow_add-tally-in-Ok-value_size : goal.overflow_add-tally-in-Ok-value_size
overflow_add-tally-in-Ok-value_size c =
    let a = c.args in
    let p = c.requires in
    let said = c.quick_name_size in
    let b : get_or a.w.now 3 0 < 4294967296 = search rules in
    record { fits = name-fits a.first.now a.second.now a.output.now a.pool.now a.kept a.w.now a.tally.now a.notes.now a.heads.now said.new.notes said.new.heads said.result said.ensures c.in-Ok.name c.in-Ok.is p.kept p.output_len_bound.1 b }

pub overflow_add-tally-in-Ok-value_size-2 : goal.overflow_add-tally-in-Ok-value_size-2
overflow_add-tally-in-Ok-value_size-2 c =
    let a = c.args in
    let p = c.requires in
    let said = c.quick_name_size in
    let value = c.value_size in
    let b : get_or a.w.now 3 0 < 4294967296 = search rules in
    let d : get_or a.w.now 7 0 < 4294967296 = search rules in
    record { fits = value-fits a.first.now a.second.now a.output.now a.pool.now a.kept a.w.now a.tally.now a.notes.now a.heads.now said.new.notes said.new.heads said.result said.ensures c.in-Ok.name c.in-Ok.is value.result value.ensures c.in-Ok-value_size.more c.in-Ok-value_size.is p.kept p.output_len_bound.1 b d }

pub returns-in-Err : goal.returns-in-Err
returns-in-Err c =
    let a = c.args in
    let said = c.quick_name_size in
    name-stopped a.first.now a.second.now a.output.now a.pool.now a.kept a.w.now a.tally.now a.notes.now a.heads.now said.new.notes said.new.heads said.result said.ensures c.in-Err.stop c.in-Err.is

pub returns-in-Err-value_size : goal.returns-in-Err-value_size
returns-in-Err-value_size c =
    let a = c.args in
    let said = c.quick_name_size in
    let value = c.value_size in
    value-refused a.first.now a.second.now a.output.now a.pool.now a.kept a.w.now a.tally.now a.notes.now a.heads.now said.new.notes said.new.heads said.result said.ensures c.in-Ok.name c.in-Ok.is value.result value.ensures c.in-Err-value_size.r c.in-Err-value_size.is

pub returns-in-Ok-value_size : goal.returns-in-Ok-value_size
returns-in-Ok-value_size c =
    let a = c.args in
    let said = c.quick_name_size in
    let value = c.value_size in
    row-measured a.first.now a.second.now a.output.now a.pool.now a.kept a.w.now a.tally.now a.notes.now a.heads.now said.new.notes said.new.heads said.result said.ensures c.in-Ok.name c.in-Ok.is value.result value.ensures c.in-Ok-value_size.more c.in-Ok-value_size.is _ c.capped.ensures
