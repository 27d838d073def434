-- Rows as words, and what a row's turn leaves.
use Rattle.std.proofs.Common.{Bool, true, false, ◌&&◌, not, cond, List, [], ◌∷◌, ◌≡◌, refl, sym, ap, ◌∙◌, ℕ, suc, ◌+◌, ◌-◌, ◌/◌, ◌%◌, ◌≤◌, ◌<◌, min, arith, lt-ltb, le-ltb, ltb-true, ltb-false, ltb, eqb, length, get_or, take, drop, length-drop, get_or-take}
use Rattle.std.proofs.Math.Option.{none, some}
use Rattle.std.proofs.Common.{◌⊎◌, inl, inr, ◌∙◌, Result, Ok, Err}
use Rattle.std.specs.Prelude.{IsErrAnd}
use Rattle.wire.specs.Refusal.{invalid_utf8, illegal_char}
use Rattle.wire.specs.Answers.{number_of}
use Rattle.wire.specs.declared.Refusal as Coded
use Rattle.wire.specs.declared.Refusal.TheVariants.{InvalidUtf8, IllegalChar}
use Rattle.event.specs.Row.{Row, row_at, rows_at}
use Rattle.event.specs.Laws.{row-of-eight}
use Rattle.grammar.proofs.Choice.{by_test}
use Rattle.writer_spec.specs.Writer.{◌before◌, rows_in, ends}
use Rattle.text.specs.Put.{after, Put}
use Rattle.text.specs.PutLaws.{put_both}
use Rattle.utf8.specs.Utf8.{well_formed}
use Rattle.xml_spec.specs.Chars.{legal}
use Rattle.xml_spec.specs.ToXml.{of_row}
use Rattle.xml_spec.specs.Rows.{row_xml, rows_xml, row_fault, end_refusal, rows_refusal}
use Rattle.xml.specs.Passes.{refused_by, EndSays, TurnSays}
use Rattle.xml.specs.declared.Tally.{Tally}

-- ---- words

-- the rows of words are the first and those after it
pub rows-next : (first second rows : List ℕ) → 8 ≤ length rows
    → rows_in first second rows ≡ row_at first second (take 8 rows) ∷ rows_in first second (drop 8 rows)
unfolding rows_at
rows-next first second rows h =
    let e : length rows / 8 ≡ suc (length (drop 8 rows) / 8) = omega (arith, length-drop 8 rows) in
    rw (e, row-of-eight first second rows)

pub no-rows : (first second rows : List ℕ) → length rows < 8 → rows_in first second rows ≡ []
unfolding rows_at
no-rows first second rows h = let e : length rows / 8 ≡ 0 = omega arith in rw e

-- an event ends where no attribute follows
pub ends-none : (rows : List ℕ) → length rows < 8 → (first second : List ℕ) → ends (rows_in first second rows) ≡ true
unfolding ends
ends-none rows h first second = rw (no-rows first second rows h)

pub ends-by : (rows : List ℕ) → 8 ≤ length rows → (first second : List ℕ) → ends (rows_in first second rows) ≡ not (eqb (get_or rows 0 0) 15)
unfolding ends row_at
ends-by rows h first second = rw (rows-next first second rows h, get_or-take 8 rows 0 0 (omega arith))

-- ---- places past the room

ltb-cap : (room x y : ℕ) → min (room + 1) x ≡ min (room + 1) y → ltb room x ≡ ltb room y
ltb-cap room x y e =
    by_test (ltb room x)
    (λ b. let l = ltb-true room x b in rw b (sym (lt-ltb room y (omega arith))))
    (λ b. let l = ltb-false room x b in rw b (sym (le-ltb room y (omega arith))))

cap-end : (room x y : ℕ) (ok : Bool) → min (room + 1) x ≡ min (room + 1) y → end_refusal room x ok ≡ end_refusal room y ok
unfolding end_refusal
cap-end room x y ok e = rw (ltb-cap room x y e)

cap-rows : (room : ℕ) (rs : List Row) (x y : ℕ) (ok : Bool) → min (room + 1) x ≡ min (room + 1) y → rows_refusal room x ok rs ≡ rows_refusal room y ok rs
unfolding rows_refusal
cap-rows room [] x y ok e = refl
cap-rows room (r ∷ rs) x y ok e =
    let n : ℕ = length (row_xml (ends rs) r) in
    let f : min (room + 1) (x + n) ≡ min (room + 1) (y + n) = omega arith in
    rw (cap-end room (x + n) (y + n) (ok && of_row legal r) f, cap-rows room rs (x + n) (y + n) true f, cap-rows room rs (x + n) (y + n) (ok && of_row legal r) f)

-- ---- a row's turn

fine : (wf ok : Bool) → 0 ≡ cond wf (cond ok 0 illegal_char) invalid_utf8 → (wf ≡ true) × (ok ≡ true)
fine true true h = (refl, refl)
fine true false h = absurd (omega arith)
fine false ok h = absurd (omega arith)

broken : (wf ok : Bool) → invalid_utf8 ≡ cond wf (cond ok 0 illegal_char) invalid_utf8 → wf ≡ false
broken true true h = absurd (omega arith)
broken true false h = absurd (omega arith)
broken false ok h = refl

illegal : (wf ok : Bool) → illegal_char ≡ cond wf (cond ok 0 illegal_char) invalid_utf8 → (wf ≡ true) × (ok ≡ false)
illegal true true h = absurd (omega arith)
illegal true false h = (refl, refl)
illegal false ok h = absurd (omega arith)

module _ (r : Row) where
  pub strings-fine : 0 ≡ row_fault r → (of_row well_formed r ≡ true) × (of_row legal r ≡ true)
  unfolding row_fault
  strings-fine h = fine (of_row well_formed r) (of_row legal r) h

  pub strings-broken : invalid_utf8 ≡ row_fault r → of_row well_formed r ≡ false
  unfolding row_fault
  strings-broken h = broken (of_row well_formed r) (of_row legal r) h

  pub strings-illegal : illegal_char ≡ row_fault r → (of_row well_formed r ≡ true) × (of_row legal r ≡ false)
  unfolding row_fault
  strings-illegal h = illegal (of_row well_formed r) (of_row legal r) h

  pub strings-other : (e : Coded.Refusal) → (e ≡ InvalidUtf8 → ⊥) → (e ≡ InvalidUtf8) ⊎ (e ≡ IllegalChar) → number_of e ≡ row_fault r
      → (of_row well_formed r ≡ true) × (of_row legal r ≡ false)
  strings-other e n (inl b) h = absurd (n b)
  strings-other e n (inr i) h = strings-illegal (rw i at h)

module _ (room at : ℕ) (ok : Bool) (r : Row) (rs : List Row) where
  pub turn-broken : of_row well_formed r ≡ false → rows_refusal room at ok (r ∷ rs) ≡ some (invalid_utf8, 0)
  unfolding rows_refusal
  turn-broken h = rw h

  module _ (at' : ℕ) (is_legal last : Bool) (wf : of_row well_formed r ≡ true) (lg : of_row legal r ≡ is_legal) (e : ends rs ≡ last)
      (p : at' ≡ after (room + 1) at (length (row_xml last r))) where
    turn : rows_refusal room at ok (r ∷ rs)
        ≡ cond last (end_refusal room at' (ok && is_legal) before rows_refusal room at' true rs) (rows_refusal room at' (ok && is_legal) rs)
    unfolding rows_refusal after
    turn =
        let n : ℕ = length (row_xml last r) in
        let f : min (room + 1) (at + n) ≡ min (room + 1) at' = omega arith in
        rw (wf, lg, e, cap-end room (at + n) at' (ok && is_legal) f, cap-rows room rs (at + n) at' true f, cap-rows room rs (at + n) at' (ok && is_legal) f)

    pub turn-more : last ≡ false → rows_refusal room at ok (r ∷ rs) ≡ rows_refusal room at' (ok && is_legal) rs
    turn-more l = turn ∙ rw l

    pub turn-last : last ≡ true → rows_refusal room at ok (r ∷ rs) ≡ (end_refusal room at' (ok && is_legal) before rows_refusal room at' true rs)
    turn-last l = turn ∙ rw l

-- what an event's end says of the turn of its last row
pub end-says : (room : ℕ) (t m : Tally) (r : Row) (rs : List Row) (u : Result Tally Coded.Refusal) → EndSays room m u
    → rows_refusal room t.at t.legal (r ∷ rs) ≡ (end_refusal room m.at m.legal before rows_refusal room m.at true rs) → TurnSays room t r rs u
end-says room t m r rs (Ok n) s e = e ∙ rw (s.0, s.1, s.2)
end-says room t m r rs (Err e) s f = f ∙ rw s

pub err-says : (room : ℕ) (t : Tally) (r : Row) (rs : List Row) (u : Result Tally Coded.Refusal) (e : Coded.Refusal) → IsErrAnd u (λ y. y ≡ e)
    → rows_refusal room t.at t.legal (r ∷ rs) ≡ refused_by e → TurnSays room t r rs u
err-says room t r rs (Ok n) e h f = absurd h
err-says room t r rs (Err y) e h f = f ∙ ap refused_by (sym h)
