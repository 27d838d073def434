-- No NeedMore holds back an event that could be handed out, or a refusal.
use Rattle.std.specs.Prelude.{Bool, false, drop, ltb}
use Rattle.std.proofs.Common.{true≢false, inl, sym, ap, ◌∙◌, arith}
use mathlib.Core.List.{List, [], ◌∷◌, ◌++◌}
use Rattle.std.proofs.Math.Path.{◌≡◌, refl}
use Prim.Native.Nat.{ℕ, ◌+◌, ◌-◌, ◌≤◌}
use borrow.Author.Tests.{ltb-false, eqb-false, le-leb, lt-leb}
use Rattle.std.proofs.Math.ListN.{length}
use Rattle.std.proofs.Math.Seq.{slice, length-slice, drop-append_seam}
use Rattle.wire.specs.Limits.{min_window}
use Rattle.event.specs.Row.{Event}
use Rattle.grammar.specs.Grammar.{event}
use Rattle.grammar.specs.Document.{all, Reading, reads, ended, stopped, read, events, sizes, left, total, Last}
use Rattle.grammar.proofs.Choice.{by_test}
use Rattle.grammar.proofs.Steps.{chain, events-chain}
use Rattle.grammar.proofs.Outcomes.{incomplete-last}
use Rattle.grammar.specs.Scan.{sound}
use Rattle.stream_spec.specs.Stream.{Stream, Lent, Left, Reply, need_more, created, sizes_bad, create, given, passed, next_from, next}
use Rattle.stream_spec.proofs.Branches.{next-by, next_from-by}
use Rattle.stream_spec.specs.Calls.{Call, call_next, Trace, handed_by, header_by, after_next, step, run, start, waits, Prompt}
use Rattle.stream_spec.proofs.Invariant.{Inv, Holds, resume, total-snoc, sound-all, passed_on, passing, few-accepted, read_here, left_here}
use Rattle.stream_spec.proofs.Lively.{few-read, after-calls}

-- ---- the invariant, where at most one event is left

sizes-all : (hs : List Event) (ns : List ℕ) (r : Reading) → length ns ≡ length hs → sizes (chain hs ns r) ≡ ns ++ sizes r
unfolding sizes
sizes-all [] [] r h = refl
sizes-all [] (n ∷ ns) r h = absurd (omega arith)
sizes-all (e ∷ hs) [] r h = absurd (omega arith)
sizes-all (e ∷ hs) (n ∷ ns) r h = ap (λ (x : List ℕ). n ∷ x) (sizes-all hs ns r (omega arith))

-- what may be left: no event, or one that takes all of k bytes
abbrev AtMost : ℕ → List Event → List ℕ → Type 0
AtMost k [] ns = Unit {0}
AtMost k (e ∷ es) ns = (es ≡ []) × (ns ≡ k ∷ [])

last-at-most : (k : ℕ) (r : Reading) → Last k r → AtMost k (events r) (sizes r)
unfolding events sizes
last-at-most k (reads e n r) w = rw (w.1.1, w.0) (refl, refl)
last-at-most k (ended p) w = tt
last-at-most k (stopped n d) w = tt

at_most_one : (r : Stream) (l : Lent) (acc : List ℕ) (handed : List Event) (header : ℕ) (over : Bool) (h : Inv r l acc handed header over)
    → Last (waits r) (resume r.header h.pool (slice r.start r.end l.window))
    → (e : Event) (es : List Event) → handed ++ (e ∷ es) ≡ events (read acc) → (es ≡ []) × (length acc ≡ header + total (sizes (read acc)))
at_most_one r l acc handed header over h w e es q =
    let rest : Reading = resume r.header h.pool (slice r.start r.end l.window) in
    let is-chain : read acc ≡ chain handed h.ns rest = read_here r l acc handed header over h in
    let left : e ∷ es ≡ events rest =
    sym (drop-append_seam handed (e ∷ es)) ∙ ap (λ (x : List Event). drop (length handed) x) (q ∙ rw is-chain (events-chain handed h.ns rest h.as_many))
    ∙ drop-append_seam handed (events rest) in
    let at_most : AtMost (waits r) (e ∷ es) (sizes rest) = rw (← left) at (last-at-most (waits r) rest w) in
    let lengths : sizes (read acc) ≡ h.ns ++ (waits r ∷ []) = rw is-chain (sizes-all handed h.ns rest h.as_many) ∙ ap (λ (x : List ℕ). h.ns ++ x) at_most.1 in
    (at_most.0, rw (lengths, total-snoc h.ns (waits r)) (omega (arith, h.sum)))

-- what is left, as it was found
awaited : (r : Stream) (l : Lent) (acc : List ℕ) (handed : List Event) (header : ℕ) (over : Bool) (h : Inv r l acc handed header over)
    → Last (waits r) (resume r.header h.pool (slice r.start r.end l.window)) → Last (waits r) (left (length handed) (read acc))
awaited r l acc handed header over h w = rw (left_here r l acc handed header over h) w

-- ---- the answers of next

no-refusal : {n d : ℕ} → Reply.refused n d ≡ need_more → ⊥
no-refusal q = let z : ◌≡◌ {A = ℕ} 0 1 = cc q in omega arith

window-large : (l : Lent) → sizes_bad l ≡ false → min_window ≤ length l.window
unfolding sizes_bad
window-large l h = by_test (ltb (length l.window) min_window) (λ b. absurd (true≢false (rw b at h))) (λ b. ltb-false (length l.window) min_window b)

module _ (t : Trace) (rows : List ℕ) (h : Holds t) (ok : sizes_bad t.lent ≡ false) (mark : t.finished ≡ t.stream.finished) where
  abbrev P : Left → Type 0
  P x = x.reply ≡ need_more → Prompt (after_next t x)

  from-prompt : (from : ℕ) → Inv (passed t.stream from) t.lent t.accepted t.handed 4 t.ended → P (next_from t.stream t.lent rows from)
  unfolding after_next handed_by header_by given
  from-prompt from p =
      let r : Stream = t.stream in
      let l : Lent = t.lent in
      let s : List ℕ = slice from r.end l.window in
      let e : event (sound r.names l.table (length l.store)) r.names s ≡ event all (length p.pool) s =
      rw (sound-all p.pool r.names r.bytes l.table l.store p.held, p.held.counts) in
      next_from-by P r l rows (λ _ _ q. absurd (no-refusal q)) from
      (λ _ _ q. absurd (let z : ◌≡◌ {A = ℕ} 0 1 = cc q in omega arith))
      (λ o full q.
      let g = incomplete-last p.pool s r.finished (rw e at o) in
      let ls : length s ≡ r.end - from = length-slice from r.end l.window p.placed in
      record {
        unfinished = mark ∙ g.0;
        feedable = omega (arith, eqb-false (r.end - from) (length l.window) full, p.placed);
        all_but_last =
            rw (le-leb 4 (length t.accepted) (omega (arith, p.sum)))
            (at_most_one (passed r from) l t.accepted t.handed 4 t.ended p (rw ls at g.1));
        awaits = awaited (passed r from) l t.accepted t.handed 4 t.ended p (rw ls at g.1);
      })
      (λ n _ _ _ _ _ q. absurd (let z : ◌≡◌ {A = ℕ} 0 1 = cc q in omega arith))

  next-prompt : P (next t.stream t.lent rows)
  unfolding after_next handed_by header_by
  next-prompt =
      let r : Stream = t.stream in
      let l : Lent = t.lent in
      let s : List ℕ = slice r.start r.end l.window in
      next-by P r l rows (λ _ _ q. absurd (no-refusal q))
      (λ hd. from-prompt r.start (passed_on r l t.accepted t.handed t.header t.ended h hd))
      (λ hd unfin few q.
      let ls : length s ≡ r.end - r.start = length-slice r.start r.end l.window h.placed in
      let nothing_left : Last (waits r) (resume r.header h.pool s) = rw (hd, few-read s (omega arith)) (inl refl, refl) in
      record {
        unfinished = mark ∙ unfin;
        feedable = omega (arith, window-large l ok);
        all_but_last =
            rw (lt-leb 4 (length t.accepted) (few-accepted r l t.accepted t.handed t.header t.ended h hd few))
            (at_most_one r l t.accepted t.handed t.header t.ended h nothing_left);
        awaits = awaited r l t.accepted t.handed t.header t.ended h nothing_left;
      })
      (λ hd four m. from-prompt (r.start + 4) (passing r l t.accepted t.handed t.header t.ended h hd four m))

-- after every list of calls
pub prompt : (r : Stream) (l : Lent) → create l ≡ created r → (cs : List Call) (rows : List ℕ)
    → (next (run (start r l) cs).stream (run (start r l) cs).lent rows).reply ≡ need_more → Prompt (step (run (start r l) cs) (call_next rows))
unfolding step
prompt r l c cs rows = let a = after-calls r l c cs in next-prompt (run (start r l) cs) rows a.holds a.sizes-good a.marked
