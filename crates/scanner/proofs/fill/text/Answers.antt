use Rattle.std.proofs.Common.{◌+◌, refl, arith}
use Rattle.scanner.proofs.Filling.{field-is, span_begins, span-stored, span_filled}
use Rattle.scanner.proofs.fill.text.Goals as goal

pub bounds-s-at : goal.bounds-s-at
bounds-s-at c = omega (arith, span_begins _ _ _ c.args.kept c.requires.within c.requires.has)

pub bounds-s-at-2 : goal.bounds-s-at-2
bounds-s-at-2 c = omega (arith, span_begins _ _ _ c.args.kept c.requires.within c.requires.has)

pub span_words-requires : goal.span_words-requires
span_words-requires c =
    let a = c.args in
    let p = c.requires in
    let b = span_begins a.s.now a.at a.base a.kept p.within p.has in
    let e = field-is a.s.now a.at (a.at + 1) c.from_be_bytes-len.result b (omega arith) (omega (arith, c.from_be_bytes-len.ensures)) in
    span-stored a.s.now a.at a.base a.kept p.within p.has _ e

pub returns : goal.returns
returns c =
    let a = c.args in
    let p = c.requires in
    let b = span_begins a.s.now a.at a.base a.kept p.within p.has in
    let e = field-is a.s.now a.at (a.at + 1) c.from_be_bytes-len.result b (omega arith) (omega (arith, c.from_be_bytes-len.ensures)) in
    span_filled a.s.now a.at a.base a.kept p.within p.has _ e _ c.span_words.ensures refl refl
