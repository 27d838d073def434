use Rattle.std.proofs.Common.{◌≡◌, ◌+◌, ◌-◌, length, arith}
use borrow.Author.Tests.{le-ltb}
use Rattle.grammar.specs.Reader.{got}
use Rattle.grammar.specs.Grammar.{u16}
use Rattle.quick.proofs.Flats.{in-store, known-flat}
use Rattle.grammar.specs.Scan.{sound}
use Rattle.quick.proofs.known.Goals as goal

pub returns : goal.returns
unfolding u16
returns c =
    let a = c.args in
    let ok = sound a.pool.now.names a.pool.now.table.now a.pool.now.stored in
    let index = c.from_be_bytes-index.result in
    let e : u16 a.s.now a.at ≡ got index (a.at + 2) = rw (le-ltb (length a.s.now - a.at) 2 (omega arith), ← c.from_be_bytes-index.ensures) in
    known-flat ok a.pool.now.names a.s.now a.at a.pool.now.source a.pool.now.table.now _ e c.if-index.false (omega arith) (in-store a.pool.now.names a.pool.now.table.now a.pool.now.stored _ (omega arith) (omega arith))
