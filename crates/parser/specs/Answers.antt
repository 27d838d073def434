-- What the code's parser and answers say, in the terms of the parser's definition.
use Rattle.std.specs.Prelude.{List, ℕ, Option, Result}
use Rattle.wire.specs.declared.Refusal.{Refusal}
use Rattle.slice_spec.specs.Parser.{Parser, Left}
use Rattle.slice_spec.specs.Parser as Defined
use Rattle.parser_steps.specs.Answers.{parser_at, left_by, asked_by}
use Rattle.parser_steps.specs.declared.Asked.{Asked}
use Rattle.parser_steps.specs.declared.Refused.{Refused}
use Rattle.parser.specs.declared.AbxParser.{AbxParser}

abbrev pub parser_of : AbxParser → Parser
parser_of p = parser_at p.document.now p.document.ref_ptr p.place p.refusal

abbrev pub left_of : AbxParser → List ℕ → List ℕ → Result (Option ℕ) Refusal → Left
left_of p = left_by (parser_of p)

abbrev pub asked_of : AbxParser → List ℕ → List ℕ → Result Asked Refused → Defined.Asked
asked_of p = asked_by (parser_of p)
