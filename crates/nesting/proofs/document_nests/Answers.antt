use Rattle.std.proofs.Common.{List, ℕ, map, sym, ap, ◌∙◌}
use Rattle.event.specs.Row.{row_at}
use Rattle.nesting_spec.specs.Nesting.{document}
use Rattle.nesting_spec.specs.OnePass.{rooted}
use Rattle.nesting.specs.Reading.{tags}
use Rattle.nesting.proofs.Walk.{document-empty, document-begun, document-plain}
use Rattle.nesting.proofs.document_nests.Goals as goal

pub returns-in-Some : goal.returns-in-Some
returns-in-Some c =
    let s = c.args.stores in
    c.roots.ensures
    ∙ document-begun s.first.now s.second.now c.in-Some.row.now c.in-Some.rest.now c.if-row-eq-START_DOCUMENT.true
    ∙ sym (ap (λ (rows : List (List ℕ)). document (map (row_at s.first.now s.second.now) rows)) c.in-Some.ensures.cases.0)

pub returns-in-Some-2 : goal.returns-in-Some-2
returns-in-Some-2 c =
    let s = c.args.stores in
    c.roots-in-Some-2.ensures
    ∙ ap (λ (rows : List (List ℕ)). rooted (tags s.first.now s.second.now rows)) c.in-Some.ensures.cases.0
    ∙ document-plain s.first.now s.second.now c.in-Some.row.now c.in-Some.rest.now c.if-row-eq-START_DOCUMENT.false
    ∙ sym (ap (λ (rows : List (List ℕ)). document (map (row_at s.first.now s.second.now) rows)) c.in-Some.ensures.cases.0)

pub returns-in-None : goal.returns-in-None
returns-in-None c = document-empty c.args.stores.first.now c.args.stores.second.now c.args.rows.now c.in-None.ensures.cases
