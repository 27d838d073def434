-- How many bytes stand around the string of a text.
use Rattle.std.specs.Prelude.{cond, ℕ, eqb}
use Rattle.wire.specs.Token as Token

unfoldable pub marks : ℕ → ℕ
marks kind =
    cond (eqb kind Token.text) 0
    (cond (eqb kind Token.cdata) 12
    (cond (eqb kind Token.entity_ref) 2
    (cond (eqb kind Token.ignorable_whitespace) 0
    (cond (eqb kind Token.processing_instruction) 4 (cond (eqb kind Token.comment) 7 11)))))
