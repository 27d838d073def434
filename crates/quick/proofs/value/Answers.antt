use Rattle.std.proofs.Common.{ap, ◌∙◌, arith, ℕ, List, get_or}
use Rattle.event.specs.Row.{shapes, shape}
use Rattle.grammar.specs.Scan.{sound}
use Rattle.quick.proofs.Flats.{count-of, count_small, shape-blob, some-map, number-value, string-value, blob-value, known-value}
use Rattle.quick.proofs.value.Goals as goal

pub overflow_cast-count-2 : goal.overflow_cast-count-2
overflow_cast-count-2 c =
    let a = c.args in
    let p = c.requires in
    let e = ap (λ (l : List ℕ). get_or l a.type_ 0) p.counts_value ∙ count-of a.type_ p.type_bound in
    omega (arith, e, count_small (shape a.type_))

pub returns-then-count-lt3 : goal.returns-then-count-lt3
returns-then-count-lt3 c =
    let a = c.args in
    let p = c.requires in
    let e = ap (λ (l : List ℕ). get_or l a.type_ 0) p.counts_value ∙ count-of a.type_ p.type_bound in
    number-value (sound a.pool.now.names a.pool.now.table.now a.pool.now.stored) a.pool.now.names a.type_ a.s.now a.at a.pool.now.source a.base a.pool.now.table.now _ _ e c.if-count-lt3.true p.at_in_bounds.0 c.number.ensures

pub returns-in-2 : goal.returns-in-2
unfolding shape shapes
returns-in-2 c =
    let a = c.args in
    some-map c.string.result (λ p. string-value (sound a.pool.now.names a.pool.now.table.now a.pool.now.stored) a.pool.now.names a.type_ a.s.now a.at a.pool.now.source a.base a.pool.now.table.now p.0 p.1 (ap shape c.in-2.is)) c.string.ensures

pub returns-in_ok-known-in-3 : goal.returns-in_ok-known-in-3
unfolding shape shapes
returns-in_ok-known-in-3 c =
    let a = c.args in
    known-value (sound a.pool.now.names a.pool.now.table.now a.pool.now.stored) a.pool.now.names a.type_ a.s.now a.at a.pool.now.source a.base a.pool.now.table.now _ (ap shape c.in-3.is) c.in_ok-known-in-3.ensures

pub returns-in-4 : goal.returns-in-4
returns-in-4 c =
    let a = c.args in
    let e = shape-blob a.type_ (omega arith) (omega arith) in
    some-map c.blob.result (λ p. blob-value (sound a.pool.now.names a.pool.now.table.now a.pool.now.stored) a.pool.now.names a.type_ a.s.now a.at a.pool.now.source a.base a.pool.now.table.now p.0 p.1 e) c.blob.ensures
