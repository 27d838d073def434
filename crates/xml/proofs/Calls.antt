-- What a call answers, by the passes.
use Rattle.std.proofs.Common.{Bool, true, false, not, cond, List, ◌≡◌, refl, sym, ap, ◌∙◌, ◌⊎◌, inl, inr, ℕ, ◌+◌, ◌*◌, ◌/◌, ◌%◌, ◌≤◌, ◌<◌, arith, lt-ltb, le-ltb, eqb-true, ltb-true, ltb, eqb, length, take, drop, drop-drop, Result, Ok, Err}
use Rattle.std.specs.Prelude.{IsErrAnd}
use Rattle.std.proofs.Math.Option.{none}
use Rattle.std.proofs.lemmas.Bool.{false≢true}
use Rattle.std.proofs.lemmas.List.Edits.{sets}
use Rattle.wire.specs.Refusal.{output_full}
use Rattle.wire.specs.Limits.{max_store}
use Rattle.wire.specs.Answers.{number_of, detail_of}
use Rattle.wire.specs.declared.Refusal as Coded
use Rattle.wire.specs.declared.Refusal.TheVariants.{InvalidUtf8, IllegalChar}
use Rattle.event.specs.Row.{Row, row_at}
use Rattle.event.specs.Laws.{row-of-eight}
use Rattle.event.specs.Words.{list_forms}
use Rattle.event.specs.Attributes.{list-placed}
use Rattle.forms.specs.Placed.{row_forms_at}
use Rattle.grammar.proofs.Choice.{by_test}
use Rattle.writer_spec.specs.Writer.{rows_in, ends}
use Rattle.text.specs.Put.{after, Put}
use Rattle.text.specs.PutLaws.{after-within}
use Rattle.xml_spec.specs.ToXml.{refusal, Left, wrote, refused, unless, to_xml}
use Rattle.xml_spec.specs.Rows.{row_xml, rows_xml, row_fault, end_refusal, rows_refusal, row_text, row_refusal, row_to_xml}
use Rattle.xml_spec.proofs.Laws.{prints}
use Rattle.xml_spec.proofs.Joined.{rows-joined, rows-refused}
use Rattle.xml.specs.Answers.{printed_of}
use Rattle.xml.specs.Passes.{refused_by, row_alone}
use Rattle.xml.proofs.Laws.{strings-fine, strings-broken, strings-illegal}

-- a refusal that a call hands on
pub handed-on : (out : List ℕ) (u : Result ℕ Coded.Refusal) (e : Coded.Refusal) (x : Left) → IsErrAnd u (λ y. y ≡ e)
    → record { reply = refused (number_of e) (detail_of e); out = out } ≡ x → printed_of out u ≡ x
handed-on out (Ok n) e x h f = absurd h
handed-on out (Err y) e x h f = rw h f

-- ---- a list

pub whole-rows : (first second rows : List ℕ) → list_forms first second rows ≡ true → length rows % 8 ≡ 0
unfolding list_forms
whole-rows first second rows h = by_test (eqb (length rows % 8) 0) (λ e. eqb-true (length rows % 8) 0 e) (λ e. absurd (false≢true (sym (rw e) ∙ h)))

module _ (first second rows out : List ℕ) (formed : list_forms first second rows ≡ true) (fits : length out ≤ max_store) where
  refusal_is : refusal first second rows out ≡ rows_refusal (length out) 0 true (rows_in first second rows)
  unfolding refusal
  refusal_is = rw (le-ltb max_store (length out) fits, formed) (sym (rows-refused (length out) 0 (rows_in first second rows) (list-placed first second rows formed)))

  pub list-refused : (e : Coded.Refusal) → refused_by e ≡ rows_refusal (length out) 0 true (rows_in first second rows)
      → record { reply = refused (number_of e) (detail_of e); out = out } ≡ to_xml first second rows out
  unfolding to_xml unless
  list-refused e h = rw (refusal_is, ← h)

  printed : none ≡ rows_refusal (length out) 0 true (rows_in first second rows)
      → to_xml first second rows out ≡ record { reply = wrote (length (rows_xml (rows_in first second rows))); out = sets out 0 (rows_xml (rows_in first second rows)) }
  unfolding to_xml unless
  printed h = rw (refusal_is, ← h, ← rows-joined (rows_in first second rows) (list-placed first second rows formed))

  pub list-printed : (end : ℕ) (out' : List ℕ) → none ≡ rows_refusal (length out) 0 true (rows_in first second rows)
      → out' ≡ sets out 0 (rows_xml (rows_in first second rows)) → end ≡ after (length out) 0 (length (rows_xml (rows_in first second rows)))
      → record { reply = wrote end; out = out' } ≡ to_xml first second rows out
  list-printed end out' h o e =
      let p = printed h in
      let room = (prints first second rows out (length (rows_xml (rows_in first second rows))) (ap (λ (x : Left). x.reply) p)).1 in
      let n : end ≡ length (rows_xml (rows_in first second rows)) = e ∙ after-within (length out) 0 _ (omega arith) ∙ omega arith in
      rw (p, o, n)

-- ---- a row

pub row-there : (first second rows : List ℕ) (row : ℕ) → row_forms_at first second rows row ≡ true → row < length rows / 8
unfolding row_forms_at
row-there first second rows row h = by_test (ltb row (length rows / 8)) (λ e. ltb-true row (length rows / 8) e) (λ e. absurd (false≢true (sym (rw e) ∙ h)))

module _ (last : Bool) (r : Row) (out : List ℕ) where
  pub alone-refused : (e : Coded.Refusal) → (e ≡ InvalidUtf8) ⊎ (e ≡ IllegalChar) → number_of e ≡ row_fault r
      → record { reply = refused (number_of e) (detail_of e); out = out } ≡ row_alone last r out
  unfolding unless end_refusal
  alone-refused e (inl b) h = rw (b, strings-broken r (rw b at h))
  alone-refused e (inr i) h = let s = strings-illegal r (rw i at h) in rw (i, s.0, s.1)

  module _ (end : ℕ) (f : 0 ≡ row_fault r) (e : end ≡ after (length out + 1) 0 (length (row_xml last r))) where
    pub alone-full : length out < end → record { reply = refused output_full 0; out = out } ≡ row_alone last r out
    unfolding unless end_refusal after
    alone-full l =
        let s = strings-fine r f in
        let t = lt-ltb (length out) (length (row_xml last r)) (omega arith) in
        rw (s.0, s.1, t)

    pub alone-put : (out' : List ℕ) (end' : ℕ) → end ≤ length out → Put out 0 (row_xml last r) out' end'
        → record { reply = wrote end'; out = out' } ≡ row_alone last r out
    unfolding unless end_refusal after
    alone-put out' end' l p =
        let s = strings-fine r f in
        let t = le-ltb (length out) (length (row_xml last r)) (omega arith) in
        let n : end' ≡ length (row_xml last r) = omega (arith, p.place) in
        rw (s.0, s.1, t, n, p.text)

-- the row of a list, where it forms there
pub row-alone-is : (first second rows : List ℕ) (row : ℕ) (out w after : List ℕ) (last : Bool) → row_forms_at first second rows row ≡ true → length out ≤ max_store
    → w ≡ take 8 (drop (8 * row) rows) → after ≡ drop 8 (drop (8 * row) rows) → ends (rows_in first second after) ≡ last
    → row_alone last (row_at first second w) out ≡ row_to_xml first second rows row out
unfolding row_to_xml row_refusal row_text
row-alone-is first second rows row out w after last formed fits f a e =
    let same : row_at first second w ≡ row_at first second (drop (8 * row) rows) = ap (row_at first second) f ∙ row-of-eight first second (drop (8 * row) rows) in
    let rest : drop (8 * row + 8) rows ≡ after = sym (drop-drop 8 (8 * row) rows) ∙ sym a in
    rw (le-ltb max_store (length out) fits, formed, rest, e, same)
