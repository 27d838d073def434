-- What the words of a row say is wrong with its strings.
use Rattle.std.proofs.Common.{◌≡◌, refl, ◌⊎◌, inl, inr, true, false, List, ℕ, get_or, Result, Ok, Err, IfErr}
use Rattle.std.specs.Result.{result_and}
use Rattle.wire.specs.Answers.{number_of}
use Rattle.wire.specs.declared.Refusal.{Refusal}
use Rattle.wire.specs.declared.Refusal.TheVariants.{InvalidUtf8, IllegalChar}
use Rattle.utf8.specs.Utf8.{well_formed}
use Rattle.event.specs.Span.{span}
use Rattle.event.specs.Row.{shape, has_name, value_at, row_at}
use Rattle.event.specs.declared.Shape.{Shape}
use Rattle.xml_spec.specs.Chars.{legal}
use Rattle.xml_spec.specs.ToXml.{of_value}
use Rattle.xml_spec.specs.Rows.{string_fault}
use Rattle.xml_chars.specs.Answers.{fault_of}
use Rattle.xml_row.specs.Faults.{worse, fault_by, name_fault, value_fault}

module _ (first second w : List ℕ) where
  pub name-fault-of : has_name (get_or w 0 0) ≡ true → name_fault (row_at first second w) ≡ string_fault (span first second (get_or w 1 0) (get_or w 2 0) (get_or w 3 0))
  unfolding row_at name_fault fault_by string_fault
  name-fault-of h = rw h

  pub no-name-fault : has_name (get_or w 0 0) ≡ false → name_fault (row_at first second w) ≡ 0
  unfolding row_at name_fault fault_by
  no-name-fault h = rw h

  pub string-fault-of : shape (get_or w 4 0) ≡ Shape.String
      → value_fault (row_at first second w) ≡ string_fault (span first second (get_or w 5 0) (get_or w 6 0) (get_or w 7 0))
  unfolding row_at value_fault value_at of_value fault_by string_fault
  string-fault-of e = rw e

  pub no-string-fault : (shape (get_or w 4 0) ≡ Shape.String → ⊥) → value_fault (row_at first second w) ≡ 0
  unfolding row_at value_fault value_at of_value fault_by
  no-string-fault n = none (shape (get_or w 4 0)) refl
    where
      none : (h : Shape) → shape (get_or w 4 0) ≡ h
          → fault_by (of_value well_formed h (value_at first second (get_or w 5 0) (get_or w 6 0) (get_or w 7 0) h)) (of_value legal h (value_at first second (get_or w 5 0) (get_or w 6 0) (get_or w 7 0) h)) ≡ 0
      none Shape.String e = absurd (n e)
      none Shape.Nothing e = refl
      none Shape.Interned e = refl
      none Shape.Blob e = refl
      none Shape.Word e = refl
      none Shape.Pair e = refl
      none Shape.Unknown e = refl

-- ---- of a name's fault and a value's the one that counts

abbrev pub IsFault : Refusal → Type 0
IsFault r = (r ≡ InvalidUtf8) ⊎ (r ≡ IllegalChar)

module _ (v : Result Unit Refusal) (g : IfErr v IsFault) where
  pub worse-none : fault_of v ≡ worse 0 (fault_of v)
  unfolding worse
  worse-none = none v g
    where
      none : (v : Result Unit Refusal) → IfErr v IsFault → fault_of v ≡ worse 0 (fault_of v)
      none (Ok u) g = refl
      none (Err r) (inl i) = rw i refl
      none (Err r) (inr i) = rw i refl

  pub worse-illegal : (f : Refusal) → (f ≡ InvalidUtf8 → ⊥) → IsFault f
      → fault_of (result_and v (Err f)) ≡ worse (number_of f) (fault_of v)
  unfolding worse
  worse-illegal f n h = some v f n h g
    where
      some : (v : Result Unit Refusal) (f : Refusal) → (f ≡ InvalidUtf8 → ⊥) → IsFault f → IfErr v IsFault
          → fault_of (result_and v (Err f)) ≡ worse (number_of f) (fault_of v)
      some v f n (inl e) g = absurd (n e)
      some (Ok u) f n (inr e) g = rw e refl
      some (Err r) f n (inr e) (inl i) = rw (e, i) refl
      some (Err r) f n (inr e) (inr i) = rw (e, i) refl
