use mathlib.Core.Path.{sym, ◌∙◌}
use Rattle.writer.proofs.Values.{string-none, string-long, string-sound, string-broken, part-outside, part-inside, part_length}
use Rattle.event.specs.Span.{part}
use Rattle.writer.proofs.sizes.part_size.Goals as goal

pub returns-then-store-start : goal.returns-then-store-start
returns-then-store-start c =
    let a = c.args in
    rw (part-outside a.store.now a.start a.len c.if-store-start.true) string-none

pub returns-then-len-gt-MAX_UNSIGNED_SHORT : goal.returns-then-len-gt-MAX_UNSIGNED_SHORT
returns-then-len-gt-MAX_UNSIGNED_SHORT c =
    let a = c.args in
    string-long (part a.store.now a.start a.len) a.len (part_length a.store.now a.start a.len c.if-store-start.false) c.if-len-gt-MAX_UNSIGNED_SHORT.true

pub returns-then-is_utf8_part : goal.returns-then-is_utf8_part
returns-then-is_utf8_part c =
    let a = c.args in
    string-sound (part a.store.now a.start a.len) a.len (part_length a.store.now a.start a.len c.if-store-start.false) c.if-len-gt-MAX_UNSIGNED_SHORT.false
    (rw (part-inside a.store.now a.start a.len c.if-store-start.false) (sym c.is_utf8_part.ensures ∙ c.if-is_utf8_part.true))

pub returns : goal.returns
returns c =
    let a = c.args in
    string-broken (part a.store.now a.start a.len) a.len (part_length a.store.now a.start a.len c.if-store-start.false) c.if-len-gt-MAX_UNSIGNED_SHORT.false
    (rw (part-inside a.store.now a.start a.len c.if-store-start.false) (sym c.is_utf8_part.ensures ∙ c.if-is_utf8_part.false))
