-- Laws of the text.
use Rattle.std.specs.Prelude.{not, List, [], ◌∷◌, ◌++◌, ◌≡◌, refl, ℕ, ◌+◌, ◌≤◌, length, drop, ltb}
use Rattle.std.proofs.Math.Option.{none, some}
use Rattle.std.proofs.Common.{append_assoc, sym, ◌∙◌, zero-add, arith, ltb-false, length-append}
use Rattle.std.proofs.lemmas.List.Edits.{sets-eq}
use Rattle.wire.specs.Refusal.{bad_size}
use Rattle.wire.specs.Limits.{max_store}
use Rattle.utf8.specs.Utf8.{well_formed}
use Rattle.event.specs.Row.{Event}
use Rattle.event.specs.Words.{list_forms}
use Rattle.writer_spec.specs.Faults.{group}
use Rattle.writer_spec.proofs.Taken.{no-faults}
use Rattle.writer_spec.proofs.Unrefused.{no-refuse}
use Rattle.writer_spec.specs.Writer.{Refusal, refuse_if, rows_in}
use Rattle.xml_spec.specs.Chars.{legal}
use Rattle.xml_spec.specs.Xml.{event_xml, xml}
use Rattle.xml_spec.specs.ToXml.{of_event, events_refusal, refusal, wrote, refused, unless, to_xml}

-- nothing stands between events: a list's text is that of its parts, one after another
pub xml-append : (es fs : List Event) → xml (es ++ fs) ≡ xml es ++ xml fs
unfolding xml
xml-append [] fs = refl
xml-append (e ∷ es) fs = rw (xml-append es fs, append_assoc (event_xml e) (xml es))

-- ---- the call

-- a refused call changes nothing
pub refused-stays : (first second rows out : List ℕ) (n d : ℕ) → (to_xml first second rows out).reply ≡ refused n d → (to_xml first second rows out).out ≡ out
unfolding to_xml unless
refused-stays first second rows out n d h = go (refusal first second rows out) h
  where
    go : (f : Refusal) → (unless f out (xml (group (rows_in first second rows)))).reply ≡ refused n d → (unless f out (xml (group (rows_in first second rows)))).out ≡ out
    go none e = absurd (let z : ◌≡◌ {A = ℕ} 0 1 = cc e in omega arith)
    go (some (m, k)) e = refl

-- events that are not refused fit
fits : (es : List Event) (room at : ℕ) → at ≤ room → events_refusal room at es ≡ none → at + length (xml es) ≤ room
unfolding events_refusal xml
fits [] room at h n = omega arith
fits (e ∷ es) room at h n =
    let after : ℕ = at + length (event_xml e) in
    let a = no-faults (refuse_if (not (of_event well_formed e)) 7) _ n in
    let b = no-faults (refuse_if (not (of_event legal e)) 20) _ a.1 in
    let c = no-faults (refuse_if (ltb room after) 15) _ b.1 in
    let rest = fits es room after (ltb-false _ _ (no-refuse _ 15 c.0)) c.1 in
    omega (arith, length-append (event_xml e) (xml es))

-- a call that is not refused leaves the whole text, and the bytes after it as they were
pub prints : (first second rows out : List ℕ) (n : ℕ) → (to_xml first second rows out).reply ≡ wrote n
    → (n ≡ length (xml (group (rows_in first second rows)))) × (n ≤ length out)
    × ((to_xml first second rows out).out ≡ xml (group (rows_in first second rows)) ++ drop n out)
unfolding to_xml refusal unless
prints first second rows out n h = go (refusal first second rows out) refl h
  where
    text : List ℕ
    text = xml (group (rows_in first second rows))

    go : (f : Refusal) → refusal first second rows out ≡ f → (unless f out text).reply ≡ wrote n
        → (n ≡ length text) × (n ≤ length out) × ((unless f out text).out ≡ text ++ drop n out)
    go none q e =
        let a = no-faults (refuse_if (ltb max_store (length out)) bad_size) _ q in
        let b = no-faults (refuse_if (not (list_forms first second rows)) 16) _ a.1 in
        let within = fits (group (rows_in first second rows)) (length out) 0 (omega arith) b.1 in
        let room : length text ≤ length out = omega arith in
        let is : length text ≡ n = cc e in
        (sym is, rw (← is) room, rw (← is) (sets-eq text out 0 within ∙ rw (zero-add (length text))))
    go (some (m, k)) q e = absurd (let z : ◌≡◌ {A = ℕ} 0 1 = cc e in omega arith)
