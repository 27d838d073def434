-- A text that was written lies in the output.
use Rattle.std.specs.Prelude.{not, List, ◌≡◌, refl, ℕ, ◌*◌, ◌≤◌, length, drop, ltb}
use Rattle.std.proofs.Math.Option.{none, some}
use Rattle.std.proofs.Common.{arith, ltb-false}
use Rattle.wire.specs.Refusal.{bad_size, not_rows, invalid_utf8, illegal_char, output_full}
use Rattle.wire.specs.Limits.{max_store}
use Rattle.utf8.specs.Utf8.{well_formed}
use Rattle.event.specs.Row.{Row, row_at}
use Rattle.forms.specs.Placed.{row_forms_at}
use Rattle.writer_spec.proofs.Taken.{no-faults}
use Rattle.writer_spec.proofs.Unrefused.{no-refuse}
use Rattle.writer_spec.specs.Writer.{Refusal, refuse_if}
use Rattle.xml_spec.specs.Chars.{legal}
use Rattle.xml_spec.specs.ToXml.{of_row, Reply, wrote, refused, unless, to_xml}
use Rattle.xml_spec.specs.Rows.{end_refusal, row_text, row_refusal, row_to_xml}
use Rattle.xml_spec.proofs.Laws.{prints}

-- how much of the output a reply took
abbrev pub taken : Reply → ℕ
taken (wrote n) = n
taken (refused n d) = 0

within : (out : List ℕ) (r : Reply) → ((n : ℕ) → r ≡ wrote n → n ≤ length out) → taken r ≤ length out
within out (wrote n) h = h n refl
within out (refused n d) h = omega arith

pub list-within : (first second rows out : List ℕ) → taken (to_xml first second rows out).reply ≤ length out
list-within first second rows out = within out (to_xml first second rows out).reply (λ n e. (prints first second rows out n e).1)

pub row_within : (first second rows : List ℕ) (row : ℕ) (out : List ℕ) → taken (row_to_xml first second rows row out).reply ≤ length out
unfolding row_to_xml row_refusal end_refusal unless
row_within first second rows row out = go (row_refusal first second rows row out) refl
  where
    r : Row
    r = row_at first second (drop (8 * row) rows)

    text : List ℕ
    text = row_text first second rows row

    go : (f : Refusal) → row_refusal first second rows row out ≡ f → taken (unless f out text).reply ≤ length out
    go none q =
        let a = no-faults (refuse_if (ltb max_store (length out)) bad_size) _ q in
        let b = no-faults (refuse_if (not (row_forms_at first second rows row)) not_rows) _ a.1 in
        let c = no-faults (refuse_if (not (of_row well_formed r)) invalid_utf8) _ b.1 in
        let d = no-faults (refuse_if (not (of_row legal r)) illegal_char) _ c.1 in
        ltb-false _ _ (no-refuse _ output_full d.1)
    go (some (m, k)) q = omega arith
