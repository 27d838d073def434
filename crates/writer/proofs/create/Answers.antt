use Rattle.std.proofs.Common.{◌≡◌, ◌++◌, drop, sym, ap, ◌∙◌, lt-ltb, le-ltb}
use Rattle.std.proofs.lemmas.List.Edits.{sets, sets-eq}
use Rattle.wire.specs.Header.{magic_bytes}
use Rattle.writer_spec.specs.Writer.{unless, begin, create}
use Rattle.writer.proofs.create.Goals as goal

pub returns-then-sizes_bad : goal.returns-then-sizes_bad
unfolding create unless
returns-then-sizes_bad c = rw (sym c.sizes_bad.ensures ∙ c.if-sizes_bad.true)

pub returns-then-output-lt4 : goal.returns-then-output-lt4
unfolding create unless
returns-then-output-lt4 c = rw (sym c.sizes_bad.ensures ∙ c.if-sizes_bad.false, lt-ltb _ _ c.if-output-lt4.true)

pub returns : goal.returns
unfolding create unless begin
returns c =
    let o = c.args.output.now in
    let said = c.copy_from_slice in
    let e : said.new.self ++ drop 4 o ≡ sets o 0 magic_bytes = ap (λ x. x ++ drop 4 o) said.ensures.after ∙ sym (sets-eq magic_bytes o 0 c.if-output-lt4.false) in
    rw (sym c.sizes_bad.ensures ∙ c.if-sizes_bad.false, le-ltb _ _ c.if-output-lt4.false, e)
