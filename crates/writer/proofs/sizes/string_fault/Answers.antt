use Rattle.std.proofs.Common.{true, false, ◌≡◌, Err, rules, sym, ap, ◌∙◌}
use Rattle.writer.specs.Answers.{fault_of}
use Rattle.writer.proofs.Values.{string-too-long, string-by}
use Rattle.writer.proofs.sizes.string_fault.Goals as goal

pub returns-in_err-blob_fault : goal.returns-in_err-blob_fault
returns-in_err-blob_fault c =
    let f = c.in_err-blob_fault in
    let e : c.from_residual.result ≡ Err f.field-0.0 = search rules in
    rw e (sym (string-too-long c.args.s.now _ (sym c.blob_fault.ensures ∙ ap fault_of f.was)))

pub returns-then-is_utf8 : goal.returns-then-is_utf8
returns-then-is_utf8 c =
    sym (string-by c.args.s.now true (sym c.blob_fault.ensures ∙ ap fault_of c.in_ok-blob_fault.was) (sym c.is_utf8.ensures ∙ c.if-is_utf8.true))

pub returns-else-is_utf8 : goal.returns-else-is_utf8
returns-else-is_utf8 c =
    sym (string-by c.args.s.now false (sym c.blob_fault.ensures ∙ ap fault_of c.in_ok-blob_fault.was) (sym c.is_utf8.ensures ∙ c.if-is_utf8.false))
