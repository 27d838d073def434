-- What is wrong with a row's strings, string by string.
use Rattle.std.specs.Prelude.{Bool, true, false, ◌&&◌, cond, ◌≡◌, refl, ℕ, eqb}
use Rattle.wire.specs.Refusal.{invalid_utf8, illegal_char}
use Rattle.utf8.specs.Utf8.{well_formed}
use Rattle.event.specs.Row.{Row, shape, has_name}
use Rattle.xml_spec.specs.Chars.{legal}
use Rattle.xml_spec.specs.ToXml.{of_value, of_row}
use Rattle.xml_spec.specs.Rows.{row_fault}

-- of two faults the one that counts
unfoldable pub worse : ℕ → ℕ → ℕ
worse a b = cond (eqb a invalid_utf8) a (cond (eqb b 0) a b)

-- by whether all is well-formed, and whether all is legal
unfoldable pub fault_by : Bool → Bool → ℕ
fault_by formed all_legal = cond formed (cond all_legal 0 illegal_char) invalid_utf8

unfoldable pub name_fault : Row → ℕ
name_fault r = fault_by (cond (has_name r.kind) (well_formed r.name) true) (cond (has_name r.kind) (legal r.name) true)

unfoldable pub value_fault : Row → ℕ
value_fault r = fault_by (of_value well_formed (shape r.type) r.value) (of_value legal (shape r.type) r.value)

both : (a b c d : Bool) → worse (fault_by a b) (fault_by c d) ≡ fault_by (a && c) (b && d)
unfolding worse fault_by
both true true true true = refl
both true true true false = refl
both true true false true = refl
both true true false false = refl
both true false true true = refl
both true false true false = refl
both true false false true = refl
both true false false false = refl
both false b c d = refl

pub worse-is : (r : Row) → worse (name_fault r) (value_fault r) ≡ row_fault r
unfolding name_fault value_fault row_fault of_row fault_by
worse-is r =
    both (cond (has_name r.kind) (well_formed r.name) true) (cond (has_name r.kind) (legal r.name) true)
    (of_value well_formed (shape r.type) r.value) (of_value legal (shape r.type) r.value)
