-- What is wrong with a string: nothing with printable ASCII, block after block; and of any other by its two tests.
use Rattle.std.proofs.Common.{Bool, true, false, cond, List, [], ◌∷◌, ◌≡◌, refl, sym, ◌∙◌, ℕ, ◌-◌, length, take, take_all, arith, le-leb, leb}
use Rattle.std.proofs.Math.Bool.{and-eq-true_iff}
use Rattle.std.proofs.lemmas.Bool.{leb-true, ltb-true}
use Rattle.std.proofs.lemmas.List.Elements.{recursion_from_All}
use Rattle.std.specs.List.{All, AllByRecursion as ByRecursion}
use Rattle.utf8.specs.Utf8.{octets, well_formed}
use Rattle.utf8.specs.Laws.{moves}
use Rattle.wire.specs.Refusal.{invalid_utf8, illegal_char}
use Rattle.xml_spec.specs.Rows.{string_fault}
use Rattle.xml_chars.specs.Scan.{clean, clean-on, legal-is}
use Rattle.xml_chars.specs.Reading.{printable}

-- each octet is a legal character
sound : (s : List ℕ) → ByRecursion (λ x. printable x ≡ true) s → (octets [] s ≡ true) × (clean s ≡ true)
unfolding octets clean
sound [] p = (refl, refl)
sound (x ∷ s) p =
    let e = (and-eq-true_iff (leb 32 x) _).0 p.0 in
    let h = leb-true 32 x e.0 in
    let l = ltb-true x 128 e.1 in
    let r = sound s p.1 in
    (moves [] x s ∙ rw (le-leb 0 x (omega arith), le-leb x 127 (omega arith)) r.0, clean-on x s h (λ e. omega arith) ∙ r.1)

-- ---- the fault

-- the part from 0 on is the whole
pub whole : (s : List ℕ) → take (length s - 0) s ≡ s
whole s = take_all (length s - 0) s (omega arith)

pub not-utf8 : (s : List ℕ) → well_formed s ≡ false → string_fault s ≡ invalid_utf8
unfolding string_fault
not-utf8 s e = rw e

pub by-places : (s : List ℕ) (b : Bool) → well_formed s ≡ true → clean s ≡ b → string_fault s ≡ cond b 0 illegal_char
unfolding string_fault
by-places s b e c = rw (e, legal-is s e, c)

pub all_printable : (s : List ℕ) → All (λ x. printable x ≡ true) s → string_fault s ≡ 0
unfolding well_formed
all_printable s p = let r = sound s (recursion_from_All _ s p) in by-places s true r.0 r.1
