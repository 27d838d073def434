use Rattle.std.proofs.Common.{◌+◌, refl, arith}
use Rattle.scanner.proofs.Filling.{field-is, name-begins, new-begins, new-asks, new-filled, known-room, known-filled}
use Rattle.scanner.proofs.fill.name.Goals as goal

pub bounds-s-at : goal.bounds-s-at
bounds-s-at c =
    let a = c.args in
    omega (arith, name-begins a.home a.s.now a.kept a.at a.table.now a.store.now c.requires.within c.requires.has)

pub bounds-s-at-2 : goal.bounds-s-at-2
bounds-s-at-2 c =
    let a = c.args in
    omega (arith, name-begins a.home a.s.now a.kept a.at a.table.now a.store.now c.requires.within c.requires.has)

pub bounds-s-at-then-index : goal.bounds-s-at-then-index
bounds-s-at-then-index c =
    let a = c.args in
    let p = c.requires in
    let i = field-is a.s.now a.at (a.at + 1) c.from_be_bytes-index.result (name-begins a.home a.s.now a.kept a.at a.table.now a.store.now p.within p.has) (omega arith) (omega (arith, c.from_be_bytes-index.ensures)) in
    omega (arith, new-begins a.home a.s.now a.kept a.at a.table.now a.store.now p.within p.has _ i c.if-index.true)

pub bounds-s-at-then-index-2 : goal.bounds-s-at-then-index-2
bounds-s-at-then-index-2 c =
    let a = c.args in
    let p = c.requires in
    let i = field-is a.s.now a.at (a.at + 1) c.from_be_bytes-index.result (name-begins a.home a.s.now a.kept a.at a.table.now a.store.now p.within p.has) (omega arith) (omega (arith, c.from_be_bytes-index.ensures)) in
    omega (arith, new-begins a.home a.s.now a.kept a.at a.table.now a.store.now p.within p.has _ i c.if-index.true)

pub keep_new-more-requires : goal.keep_new-more-requires
keep_new-more-requires c =
    let a = c.args in
    let p = c.requires in
    let i = field-is a.s.now a.at (a.at + 1) c.from_be_bytes-index.result (name-begins a.home a.s.now a.kept a.at a.table.now a.store.now p.within p.has) (omega arith) (omega (arith, c.from_be_bytes-index.ensures)) in
    let l = field-is a.s.now (a.at + 2) (a.at + 3) c.from_be_bytes-len.result (new-begins a.home a.s.now a.kept a.at a.table.now a.store.now p.within p.has _ i c.if-index.true) (omega arith) (omega (arith, c.from_be_bytes-len.ensures)) in
    let asked = new-asks a.home a.s.now a.kept a.at a.table.now a.store.now p.within p.has _ i c.if-index.true _ l in
    record { len_in_bounds = asked.0; room = asked.1 }

pub span_words-requires : goal.span_words-requires
span_words-requires c =
    let a = c.args in
    let p = c.requires in
    let i = field-is a.s.now a.at (a.at + 1) c.from_be_bytes-index.result (name-begins a.home a.s.now a.kept a.at a.table.now a.store.now p.within p.has) (omega arith) (omega (arith, c.from_be_bytes-index.ensures)) in
    let l = field-is a.s.now (a.at + 2) (a.at + 3) c.from_be_bytes-len.result (new-begins a.home a.s.now a.kept a.at a.table.now a.store.now p.within p.has _ i c.if-index.true) (omega arith) (omega (arith, c.from_be_bytes-len.ensures)) in
    let q = new-asks a.home a.s.now a.kept a.at a.table.now a.store.now p.within p.has _ i c.if-index.true _ l in
    omega (arith, q.0.0, q.0.1)

pub returns-then-index : goal.returns-then-index
returns-then-index c =
    let a = c.args in
    let p = c.requires in
    let i = field-is a.s.now a.at (a.at + 1) c.from_be_bytes-index.result (name-begins a.home a.s.now a.kept a.at a.table.now a.store.now p.within p.has) (omega arith) (omega (arith, c.from_be_bytes-index.ensures)) in
    let l = field-is a.s.now (a.at + 2) (a.at + 3) c.from_be_bytes-len.result (new-begins a.home a.s.now a.kept a.at a.table.now a.store.now p.within p.has _ i c.if-index.true) (omega arith) (omega (arith, c.from_be_bytes-len.ensures)) in
    new-filled a.home a.s.now a.kept a.at a.table.now a.store.now p.within p.has _ i c.if-index.true _ l _ _ _ c.keep_new-more.ensures c.span_words.ensures refl

pub pooled_words-requires : goal.pooled_words-requires
pooled_words-requires c =
    let a = c.args in
    let p = c.requires in
    let i = field-is a.s.now a.at (a.at + 1) c.from_be_bytes-index.result (name-begins a.home a.s.now a.kept a.at a.table.now a.store.now p.within p.has) (omega arith) (omega (arith, c.from_be_bytes-index.ensures)) in
    known-room a.home a.s.now a.kept a.at a.table.now a.store.now p.within p.has _ i c.if-index.false

pub returns : goal.returns
returns c =
    let a = c.args in
    let p = c.requires in
    let i = field-is a.s.now a.at (a.at + 1) c.from_be_bytes-index.result (name-begins a.home a.s.now a.kept a.at a.table.now a.store.now p.within p.has) (omega arith) (omega (arith, c.from_be_bytes-index.ensures)) in
    known-filled a.home a.s.now a.kept a.at a.table.now a.store.now p.within p.has _ i c.if-index.false _ refl c.pooled_words.ensures refl
