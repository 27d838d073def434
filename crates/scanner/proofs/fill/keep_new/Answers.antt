use Rattle.std.proofs.Common.{ℕ, ◌+◌, ◌-◌, ◌*◌, [], ◌∷◌, take, drop, ap, ◌∙◌, arith}
use Rattle.std.proofs.Math.Seq.{sets}
use Rattle.std.proofs.Math.Nat.{add-sub_cancel_left}
use Rattle.grammar.specs.Grammar.{most}
use Rattle.scanner.proofs.Keeping.{part-put, new_none, new-pair, new-bytes, new-copied, new-there}
use Rattle.scanner.proofs.fill.keep_new.Goals as goal

pub returns-then-names : goal.returns-then-names
unfolding most
returns-then-names c =
    let a = c.args in
    new_none a.home a.s.now a.kept (record { start = a.start; len = a.len }) a.table.now a.store.now c.if-names.true

pub overflow_cast-used : goal.overflow_cast-used
unfolding most
overflow_cast-used c =
    let a = c.args in
    let b = new-bytes a.home a.s.now a.kept (record { start = a.start; len = a.len }) a.table.now a.store.now c.if-names.false c.requires.room c.if-home.true in
    omega (arith, b.0, b.1)

pub slice_bounds-copy_from_slice-end : goal.slice_bounds-copy_from_slice-end
unfolding most
slice_bounds-copy_from_slice-end c =
    let a = c.args in
    new-pair a.home a.s.now a.kept (record { start = a.start; len = a.len }) a.table.now a.store.now c.if-names.false c.requires.room

pub overflow_add-result-then-home : goal.overflow_add-result-then-home
unfolding most
overflow_add-result-then-home c =
    let a = c.args in
    let b = new-bytes a.home a.s.now a.kept (record { start = a.start; len = a.len }) a.table.now a.store.now c.if-names.false c.requires.room c.if-home.true in
    omega (arith, b.0, b.1)

pub returns-then-home : goal.returns-then-home
unfolding most
returns-then-home c =
    let a = c.args in
    let p = c.requires in
    let n = new-pair a.home a.s.now a.kept (record { start = a.start; len = a.len }) a.table.now a.store.now c.if-names.false p.room in
    new-copied a.home a.s.now a.kept (record { start = a.start; len = a.len }) a.table.now a.store.now c.if-names.false p.room c.if-home.true _ _
    (part-put a.table.now (a.kept.used ∷ a.len ∷ []) _ (2 * a.kept.names) (2 * a.kept.names + 2 - 2 * a.kept.names) c.copy_from_slice.ensures.after (omega arith) n)
    (c.copy.ensures ∙ ap (λ (n : ℕ). sets a.store.now a.kept.used (take n (drop a.start a.s.now))) (add-sub_cancel_left a.start a.len))

pub slice_bounds-copy_from_slice-end-else-home : goal.slice_bounds-copy_from_slice-end-else-home
unfolding most
slice_bounds-copy_from_slice-end-else-home c =
    let a = c.args in
    new-pair a.home a.s.now a.kept (record { start = a.start; len = a.len }) a.table.now a.store.now c.if-names.false c.requires.room

pub returns-else-home : goal.returns-else-home
unfolding most
returns-else-home c =
    let a = c.args in
    let p = c.requires in
    let n = new-pair a.home a.s.now a.kept (record { start = a.start; len = a.len }) a.table.now a.store.now c.if-names.false p.room in
    new-there a.home a.s.now a.kept (record { start = a.start; len = a.len }) a.table.now a.store.now c.if-names.false p.room c.if-home.false _
    (part-put a.table.now ((a.home.base + a.start) ∷ a.len ∷ []) _ (2 * a.kept.names) (2 * a.kept.names + 2 - 2 * a.kept.names) c.copy_from_slice-else-home.ensures.after (omega arith) n)
