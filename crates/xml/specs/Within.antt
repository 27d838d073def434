-- A text that the code says to have written lies in the output.
use Rattle.std.specs.Prelude.{List, ◌≡◌, ℕ, ◌≤◌, length, Result, Ok}
use Rattle.std.proofs.Common.{sym, ap, ◌∙◌, arith}
use Rattle.xml_spec.specs.ToXml.{Left, to_xml}
use Rattle.xml_spec.specs.Rows.{row_to_xml}
use Rattle.xml_spec.proofs.Within.{taken, list-within, row_within}
use Rattle.xml.specs.Answers.{printed_of}
use Rattle.wire.specs.declared.Refusal.{Refusal}

pub text-within : (first second rows out out' : List ℕ) (r : Result ℕ Refusal) (n : ℕ) → printed_of out' r ≡ to_xml first second rows out → r ≡ Ok n → n ≤ length out
text-within first second rows out out' r n e f =
    let same : n ≡ taken (to_xml first second rows out).reply = ap (λ (x : Left). taken x.reply) (ap (printed_of out') (sym f) ∙ e) in
    omega (arith, same, list-within first second rows out)

pub row-text-within : (first second rows : List ℕ) (row : ℕ) (out out' : List ℕ) (r : Result ℕ Refusal) (n : ℕ) → printed_of out' r ≡ row_to_xml first second rows row out
    → r ≡ Ok n → n ≤ length out
row-text-within first second rows row out out' r n e f =
    let same : n ≡ taken (row_to_xml first second rows row out).reply = ap (λ (x : Left). taken x.reply) (ap (printed_of out') (sym f) ∙ e) in
    omega (arith, same, row_within first second rows row out)
