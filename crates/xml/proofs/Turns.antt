-- What is put, and what a text that was put leaves.
use Rattle.std.proofs.Common.{List, [], ◌∷◌, ◌≡◌, sym, ap, ◌∙◌, Bool, ℕ, ◌+◌, ◌≤◌, length, drop, take, arith, Result, Ok, Err}
use Rattle.std.specs.Prelude.{IsErrAnd}
use Rattle.wire.specs.declared.Refusal as Coded
use lib.Seq.{length-sets}
use Rattle.event.specs.Row.{row_at}
use Rattle.writer_spec.specs.Writer.{Refusal, rows_in, ends}
use Rattle.text.specs.Put.{after, Put}
use Rattle.text.specs.PutLaws.{after-within, put-none, put_both}
use Rattle.xml_spec.specs.Rows.{row_xml, rows_xml}
use Rattle.xml.specs.Passes.{refused_by, refusal_of}
use Rattle.xml.proofs.Laws.{rows-next}

-- the rows of words, by the first and those after it
pub rows-split : (first second rows row after : List ℕ) → 8 ≤ length rows → row ≡ take 8 rows → after ≡ drop 8 rows
    → rows_in first second rows ≡ row_at first second row ∷ rows_in first second after
rows-split first second rows row after h r a = rw (r, a) (rows-next first second rows h)

-- a refusal that the first pass hands on
pub refused-on : (u : Result Unit Coded.Refusal) (e : Coded.Refusal) (x : Refusal) → IsErrAnd u (λ y. y ≡ e) → refused_by e ≡ x → refusal_of u ≡ x
refused-on (Ok n) e x h f = absurd h
refused-on (Err y) e x h f = ap refused_by h ∙ f

-- a row is put; what is put after it is put after the rows so far
pub put-turn : (first second rows row after : List ℕ) (last : Bool) (out out₁ : List ℕ) (at at₁ : ℕ) → 8 ≤ length rows → row ≡ take 8 rows → after ≡ drop 8 rows
    → ends (rows_in first second after) ≡ last → Put out at (row_xml last (row_at first second row)) out₁ at₁
    → (l : List ℕ) (e : ℕ) → Put out₁ at₁ (rows_xml (rows_in first second after)) l e → Put out at (rows_xml (rows_in first second rows)) l e
unfolding rows_xml
put-turn first second rows row after last out out₁ at at₁ h r a f p l e q = rw (rows-split first second rows row after h r a, f) (put_both out at _ _ out₁ l at₁ e p q)

pub put-done : (out : List ℕ) (at : ℕ) → at ≤ length out → Put out at [] out at
put-done out at r =
    let z : at + 0 ≡ at = omega arith in
    put-none out at at (sym z ∙ sym (after-within (length out) at 0 (omega arith)))

pub put-length : (l : List ℕ) (at : ℕ) (t l' : List ℕ) (end : ℕ) → Put l at t l' end → length l' ≡ length l
put-length l at t l' end p = ap length p.text ∙ length-sets l at t

pub put-within : (l : List ℕ) (at : ℕ) (t l' : List ℕ) (end : ℕ) → Put l at t l' end → end ≤ length l
unfolding after
put-within l at t l' end p = omega (arith, p.place)
