use Rattle.std.proofs.Common.{◌≡◌, Err, rules, sym, ap, ◌∙◌, ◌+◌, length}
use Rattle.writer.specs.Answers.{fault_of, measured}
use Rattle.writer.proofs.Values.{size-none, size-string, size-blob, size_word, size-pair}
use Rattle.writer.proofs.sizes.value_size.Goals as goal

pub blob_fault-requires : goal.blob_fault-requires
blob_fault-requires c = c.value_in-s.ensures.short

pub returns-in-Nothing : goal.returns-in-Nothing
returns-in-Nothing c = size-none c.args.first.now c.args.second.now c.args.w.now _ c.shape_of.ensures c.in-Nothing.is

pub returns-in-String : goal.returns-in-String
returns-in-String c = c.string_size.ensures ∙ size-string c.args.first.now c.args.second.now c.args.w.now (sym c.shape_of.ensures ∙ c.in-String.is)

pub returns-in_err-blob_fault-in-Blob : goal.returns-in_err-blob_fault-in-Blob
returns-in_err-blob_fault-in-Blob c =
    let f = c.in_err-blob_fault-in-Blob in
    let e : c.from_residual.result ≡ Err f.field-0.0 = search rules in
    rw e (ap (λ x. measured x (2 + length c.value_in-s.result.now)) (sym (ap fault_of f.was) ∙ c.blob_fault.ensures) ∙ rw c.value_in-s.ensures.bytes (size-blob c.args.first.now c.args.second.now c.args.w.now (sym c.shape_of.ensures ∙ c.in-Blob.is)))

pub returns-in_ok-blob_fault-in-Blob : goal.returns-in_ok-blob_fault-in-Blob
returns-in_ok-blob_fault-in-Blob c =
    let f = c.in_ok-blob_fault-in-Blob in
    ap (λ x. measured x (2 + length c.value_in-s.result.now)) (sym (ap fault_of f.was) ∙ c.blob_fault.ensures) ∙ rw c.value_in-s.ensures.bytes (size-blob c.args.first.now c.args.second.now c.args.w.now (sym c.shape_of.ensures ∙ c.in-Blob.is))

pub returns-in-Word : goal.returns-in-Word
returns-in-Word c = size_word c.args.first.now c.args.second.now c.args.w.now (sym c.shape_of.ensures ∙ c.in-Word.is)

pub returns-in-Pair : goal.returns-in-Pair
returns-in-Pair c = size-pair c.args.first.now c.args.second.now c.args.w.now (sym c.shape_of.ensures ∙ c.in-Pair.is)
