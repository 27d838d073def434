-- A next needs more exactly when the header or the event is incomplete, no finish came, and the window is not full.
use Rattle.std.specs.Prelude.{Bool, ◌&&◌, ◌⊎◌, ◌≡◌, ltb}
use Rattle.std.proofs.Math.Bool.{false, cond}
use Rattle.std.proofs.Common.{true≢false, inl, inr, sym, ◌∙◌}
use mathlib.Core.List.{List, [], ◌∷◌}
use Rattle.std.proofs.Math.Path.{refl, ap}
use Prim.Native.Nat.{ℕ, ◌+◌, ◌-◌, ◌≤◌}
use native.Mathlib.Omega.{arith}
use borrow.Author.Tests.{ltb-false, eqb-true, eqb-false, le-leb}
use Rattle.std.proofs.Math.ListN.{length}
use Rattle.std.proofs.Math.Seq.{slice, length-slice}
use Rattle.std.proofs.Math.Dec.{eqb}
use Rattle.wire.specs.Header.{u32_at, magic}
use Rattle.wire.specs.Refusal.{header_short}
use Rattle.grammar.specs.Grammar.{Items, event}
use Rattle.grammar.specs.Document.{all, read, left, Short, Lasting, Last}
use Rattle.grammar.specs.Scan.{Outcome, outcome, complete, incomplete, bad}
use Rattle.grammar.proofs.Choice.{cond-by}
use Rattle.grammar.proofs.Numbers.{event-numbered, refused-by}
use Rattle.grammar.proofs.Steps.{read_s, ReadsOn, reads_here}
use Rattle.grammar.proofs.Outcomes.{complete-reads-on, bad-stops-here, tag-followed}
use Rattle.stream_spec.specs.Stream.{Stream, Lent, Left, need_more, end, created, unchanged, sizes_bad, create, passed, by_outcome, next_from, next_header, next}
use Rattle.stream_spec.specs.Calls.{Call, call_next, Trace, handed_by, header_by, after_next, step, run, start, consumed, waits, Incomplete, Prompt}
use Rattle.stream_spec.proofs.Invariant.{Inv, Holds, passed_on, passing, u32_at-slice, holds-sound, holds-step, left_here, handed-bytes}
use Rattle.stream_spec.proofs.Lively.{other-read, from-items, next-good, run-sizes, after-calls}
use Rattle.stream_spec.proofs.Prompt.{prompt}

-- bytes that lack and a refusal that stays are two things
not-both : (m : ℕ) → Lasting m → (m ≡ header_short) ⊎ Short m → ⊥
not-both m h (inl e) = omega (arith, e)
not-both m h (inr s) = omega arith

-- ---- incomplete: the next needs more

module _ (t : Trace) (h : Holds t) (ok : sizes_bad t.lent ≡ false) (mark : t.finished ≡ t.stream.finished) (rows : List ℕ) (i : Incomplete t) where
  abbrev r : Stream
  r = t.stream

  abbrev l : Lent
  l = t.lent

  abbrev P : Left → Type 0
  P x = x.reply ≡ need_more

  unfin : r.finished ≡ false
  unfin = sym mark ∙ i.unfinished

  from_more : (from : ℕ) → Inv (passed r from) l t.accepted t.handed 4 t.ended → P (next_from r l rows from)
  unfolding by_outcome
  from_more from p =
      ap (λ (x : Left). x.reply)
      (from-items r l t.accepted t.handed t.ended from p rows
      ∙ ap (λ (b : Bool). cond (b && eqb from r.end) (unchanged (passed r from) l rows end) (by_outcome r l rows from is (outcome b is))) unfin)
      ∙ go (outcome false is) refl
    where
      s : List ℕ
      s = slice from r.end l.window

      is : Items
      is = event all (length p.pool) s

      ls : length s ≡ r.end - from
      ls = length-slice from r.end l.window p.placed

      -- the bytes that wait are counted, and what is left is read of them
      as_many : i.waiting ≡ length s
      as_many = omega (arith, i.counted (omega (arith, p.sum)), handed-bytes (passed r from) l t.accepted t.handed 4 t.ended p, p.sum, ls)

      here : Last (length s) (read_s p.pool s)
      here = rw (left_here (passed r from) l t.accepted t.handed 4 t.ended p, as_many) at i.lacking

      go : (o : Outcome) → outcome false is ≡ o → P (by_outcome r l rows from is o)
      go (complete n) o =
          let on : ReadsOn p.pool s false n is = complete-reads-on p.pool s false n o in
          let w = rw (reads_here p.pool s false n is on tt) at here in
          absurd (omega (arith, w.0, tag-followed p.pool s n o w.2))
      go incomplete o =
          cond-by P (eqb (r.end - from) (length l.window)) _ _
          (λ a. absurd (omega (arith, i.feedable, as_many, ls, eqb-true (r.end - from) (length l.window) a)))
          (λ _. refl)
      go (bad m c) o =
          let e = bad-stops-here p.pool s false m c (λ f. absurd (true≢false (sym f))) o tt in
          absurd (not-both m (refused-by false is m c (event-numbered (length p.pool) s) o) (rw e at here).0)

  next_more : P (next r l rows)
  unfolding next_header
  next_more =
      rw (next-good t h ok rows)
      (cond-by P r.header _ _ (λ hd. from_more r.start (passed_on r l t.accepted t.handed t.header t.ended h hd))
      (λ hd. cond-by P (ltb (r.end - r.start) 4) _ _
      (λ a. rw unfin)
      (λ a. let four : 4 ≤ r.end - r.start = ltb-false _ _ a in
      cond-by P (eqb (u32_at l.window r.start) magic) _ _
      (λ b. from_more (r.start + 4) (passing r l t.accepted t.handed t.header t.ended h hd four (eqb-true _ _ b)))
      (λ b.
      let s : List ℕ = slice r.start r.end l.window in
      let ls : length s ≡ r.end - r.start = length-slice r.start r.end l.window h.placed in
      let e : left (length t.handed) (read t.accepted) ≡ read s = rw hd at (left_here r l t.accepted t.handed t.header t.ended h) in
      let m : u32_at s 0 ≡ u32_at l.window r.start = u32_at-slice l.window r.start r.end (omega arith) in
      absurd (no-two (rw (e, other-read s (omega (arith, ls)) (λ z. eqb-false _ _ b (sym m ∙ z))) at i.lacking).0)))))
    where
      no-two : (2 ≡ header_short) ⊎ Short 2 → ⊥
      no-two (inl e) = omega (arith, e)
      no-two (inr s) = omega arith

-- ---- a next that needs more: incomplete

more-incomplete : (t : Trace) (rows : List ℕ) → Holds t → (next t.stream t.lent rows).reply ≡ need_more → Prompt (step t (call_next rows)) → Incomplete t
unfolding step after_next handed_by header_by consumed run
more-incomplete t rows h q p =
    let u : Trace = step t (call_next rows) in
    let same : u.handed ≡ t.handed = rw q in
    record {
      unfinished = p.unfinished;
      waiting = waits u.stream;
      counted = λ four.
          let passed-it : u.header ≡ 4 = rw (q, le-leb 4 (length t.accepted) four) in
          rw (same, passed-it) at (holds-sound u (holds-step t (call_next rows) h)).sum;
      lacking = rw same at p.awaits;
      feedable = rw (run-sizes (call_next rows ∷ []) t h).same-window at p.feedable;
    }

-- after every list of calls
pub need-more : (r : Stream) (l : Lent) → create l ≡ created r → (cs : List Call) (rows : List ℕ)
    → ((next (run (start r l) cs).stream (run (start r l) cs).lent rows).reply ≡ need_more → Incomplete (run (start r l) cs))
    × (Incomplete (run (start r l) cs) → (next (run (start r l) cs).stream (run (start r l) cs).lent rows).reply ≡ need_more)
need-more r l c cs rows =
    let t : Trace = run (start r l) cs in
    let a = after-calls r l c cs in
    (λ q. more-incomplete t rows a.holds q (prompt r l c cs rows q), next_more t a.holds a.sizes-good a.marked rows)
