-- What a refused next says of the document, after every list of calls.
use Rattle.std.specs.Prelude.{Bool, false, ◌&&◌, ◌⊎◌, length, drop, ltb}
use Rattle.std.proofs.Common.{true≢false, inr, sym, ◌∙◌, arith}
use mathlib.Core.List.{List, ◌++◌, append-nil}
use Rattle.std.proofs.Math.Logic.{inl}
use Rattle.std.proofs.Math.Path.{◌≡◌, refl, ap, subst}
use Prim.Native.Nat.{ℕ, ◌+◌, ◌*◌, ◌-◌, ◌/◌, ◌≤◌}
use borrow.Author.Tests.{ltb-true, ltb-false, eqb-true, eqb-false, eq-eqb}
use Rattle.std.proofs.Math.ListN.{length-append}
use Rattle.std.proofs.Math.Seq.{slice, length-slice}
use Rattle.std.proofs.Math.Dec.{eqb}
use Rattle.wire.specs.Header.{u32_at, magic}
use Rattle.wire.specs.Refusal.{invalid_magic}
use Rattle.grammar.specs.Grammar.{Span, Items, event}
use Rattle.grammar.specs.Document.{pool_bytes, all, rows_of, pool_of, stopped, events, Open, Lasting}
use Rattle.grammar.specs.Scan.{lengths, adds, count, Outcome, outcome, complete, incomplete, bad}
use Rattle.grammar.proofs.Choice.{cond-by}
use Rattle.grammar.proofs.Laws.{u32_at-append}
use Rattle.grammar.proofs.Numbers.{event-numbered, RefusedBy, refused-by, number_of}
use Rattle.grammar.proofs.Steps.{read_s, ReadsOn, events-chain}
use Rattle.grammar.proofs.Outcomes.{complete-reads-on, bad-stops-on, incomplete-last}
use Rattle.grammar.proofs.Remaining.{count-rows}
use Rattle.stream_spec.specs.Stream.{Stream, Lent, Left, Reply, need_more, created, unchanged, sizes_bad, create, given, hand_out, passed, by_outcome, next_from, next_header, next}
use Rattle.stream_spec.proofs.Branches.{next-by, next_from-by}
use Rattle.stream_spec.specs.Calls.{Call, call_next, Trace, handed_by, header_by, ended_by, after_next, step, run, start, Stops, NextIs, Refused, by-grammar, few-rows, short-table, short-store, full-window}
use Rattle.stream_spec.proofs.Held.{pool_bytes-append}
use Rattle.stream_spec.proofs.Invariant.{Inv, Holds, resume, left-read, passed_on, passing, u32_at-slice, left_here, handed-bytes}
use Rattle.stream_spec.proofs.Lively.{few-read, other-read, some_byte, from-items, grew-pairs, grew-bytes, names_more, next-good, after-calls}

-- ---- a refused next leaves all as it was, so it is refused again

pub refused-unchanged : (r : Stream) (l : Lent) (rows : List ℕ) (n d : ℕ) → (next r l rows).reply ≡ Reply.refused n d → next r l rows ≡ unchanged r l rows (Reply.refused n d)
unfolding given
refused-unchanged r l rows n d = next-by P r l rows refuses (λ _. from r.start) (λ _ _ _ q. no q) (λ _ _ _. from (r.start + 4))
  where
    P : Left → Type 0
    P x = x.reply ≡ Reply.refused n d → x ≡ unchanged r l rows (Reply.refused n d)

    refuses : (m c : ℕ) → P (unchanged r l rows (Reply.refused m c))
    refuses m c q = rw q

    no : {X : Type 0} → need_more ≡ Reply.refused n d → X
    no q = let z : ◌≡◌ {A = ℕ} 0 1 = cc q in absurd (omega arith)

    from : (k : ℕ) → P (next_from r l rows k)
    from k =
        next_from-by P r l rows refuses k (λ _ _ q. let z : ◌≡◌ {A = ℕ} 0 1 = cc q in absurd (omega arith)) (λ _ _ q. no q)
        (λ m _ _ _ _ _ q. let z : ◌≡◌ {A = ℕ} 0 1 = cc q in absurd (omega arith))

pub refused-keeps : (t : Trace) (rows : List ℕ) (n d : ℕ) → (next t.stream t.lent rows).reply ≡ Reply.refused n d → step t (call_next rows) ≡ t
unfolding step after_next handed_by header_by ended_by
refused-keeps t rows n d q = rw (refused-unchanged t.stream t.lent rows n d q)

-- ---- what it says

module _ (t : Trace) (h : Holds t) (ok : sizes_bad t.lent ≡ false) (mark : t.finished ≡ t.stream.finished) (rows : List ℕ) (n d : ℕ) where
  abbrev r : Stream
  r = t.stream

  abbrev l : Lent
  l = t.lent

  abbrev P : Left → Type 0
  P x = x.reply ≡ Reply.refused n d → Refused t rows n d

  marked : (u : List ℕ) → Open t.finished u → Open r.finished u
  marked u v = subst (λ (b : Bool). Open b u) mark v

  -- the grammar's refusal, from a state with the same bytes
  stops-by : (k : Stream) (header : ℕ) (i : Inv k l t.accepted t.handed header t.ended) → k.finished ≡ r.finished
      → ((u : List ℕ) → Open r.finished u → resume k.header i.pool (slice k.start k.end l.window ++ u) ≡ stopped n d)
      → (1 ≤ n) × (n ≤ 9) → (r.finished ≡ false → (n ≡ invalid_magic) ⊎ Lasting n) → Stops t n d
  unfolding events
  stops-by k header i same stops number early = record {
    all-handed = λ u v.
        let w : Open k.finished u = subst (λ (b : Bool). Open b u) (sym same) (marked u v) in
        ap events (i.onward u w) ∙ events-chain t.handed i.ns _ i.as_many ∙ rw (stops u (marked u v)) (append-nil t.handed);
    stops = λ u v.
        let w : Open k.finished u = subst (λ (b : Bool). Open b u) (sym same) (marked u v) in
        left-read k l t.accepted t.handed header t.ended i u w ∙ stops u (marked u v);
    number = number;
    early = λ f. early (sym mark ∙ f);
  }

  from-refused : (from : ℕ) → Inv (passed r from) l t.accepted t.handed 4 t.ended → P (next_from r l rows from)
  unfolding by_outcome hand_out given
  from-refused from p =
      rw (from-items r l t.accepted t.handed t.ended from p rows)
      (cond-by P (r.finished && eqb from r.end) _ _ (λ _ q. let z : ◌≡◌ {A = ℕ} 0 1 = cc q in absurd (omega arith)) (λ going. go going (outcome r.finished is) refl))
    where
      s : List ℕ
      s = slice from r.end l.window

      is : Items
      is = event all (length p.pool) s

      ts : List Span
      ts = adds r.names is

      ls : length s ≡ r.end - from
      ls = length-slice from r.end l.window p.placed

      next-is : (k : ℕ) → ReadsOn p.pool s r.finished k is → NextIs t (rows_of s p.pool is)
      next-is k on = record {
        size = k;
        rest = λ u. read_s (pool_of s p.pool is) (drop k s ++ u);
        reading = λ u v. left-read (passed r from) l t.accepted t.handed 4 t.ended p u (marked u v) ∙ on.onward u (marked u v);
      }

      by : outcome r.finished is ≡ bad n d → RefusedBy r.finished n
      by o = refused-by r.finished is n d (event-numbered (length p.pool) s) o

      go : (r.finished && eqb from r.end) ≡ false → (o : Outcome) → outcome r.finished is ≡ o → P (by_outcome r l rows from is o)
      go going (complete k) o =
          let on : ReadsOn p.pool s r.finished k is = complete-reads-on p.pool s r.finished k o in
          let c : count is ≡ length (rows_of s p.pool is) = count-rows s p.pool is in
          cond-by P (ltb (length rows / 8) (count is)) _ _
          (λ a q. few-rows _ (next-is k on) (omega (arith, ltb-true (length rows / 8) (count is) a, c)) (sym (cc q)) (sym (cc q)))
          (λ _. cond-by P (ltb (length l.table) (2 * (r.names + length ts))) _ _
          (λ a q. short-table _ (next-is k on)
          (λ u v. let g = names_more r l t.accepted t.handed t.ended from p k on u (marked u v) in
          omega (arith, ltb-true (length l.table) (2 * (r.names + length ts)) a, ap length g.1, length-append (pool_of s p.pool is) g.0, grew-pairs r l t.accepted t.handed t.ended from p))
          (sym (cc q)) (sym (cc q)))
          (λ _. cond-by P (ltb (length l.store) (r.bytes + lengths ts)) _ _
          (λ a q. short-store _ (next-is k on)
          (λ u v. let g = names_more r l t.accepted t.handed t.ended from p k on u (marked u v) in
          omega (arith, ltb-true (length l.store) (r.bytes + lengths ts) a, ap pool_bytes g.1, pool_bytes-append (pool_of s p.pool is) g.0, grew-bytes r l t.accepted t.handed t.ended from p))
          (sym (cc q)) (sym (cc q)))
          (λ _ q. let z : ◌≡◌ {A = ℕ} 0 1 = cc q in absurd (omega arith))))
      go going incomplete o =
          cond-by P (eqb (r.end - from) (length l.window)) _ _
          (λ a q.
          let g = incomplete-last p.pool s r.finished o in
          let w : length s ≡ length l.window = ls ∙ eqb-true _ _ a in
          let e = left_here (passed r from) l t.accepted t.handed 4 t.ended p in
          let ns = handed-bytes (passed r from) l t.accepted t.handed 4 t.ended p in
          full-window (mark ∙ g.0) (rw (e, ← w) g.1) (omega (arith, ns, p.sum, ls, w)) (sym (cc q)) (sym (cc q)))
          (λ _ q. let z : ◌≡◌ {A = ℕ} 0 1 = cc q in absurd (omega arith))
      go going (bad m c) o = λ q.
          let o' : outcome r.finished is ≡ bad n d = o ∙ cc q in
          by-grammar (stops-by (passed r from) 4 p refl
          (bad-stops-on p.pool s r.finished n d
          (λ f. some_byte (length s) (λ z. true≢false (rw (f, eq-eqb from r.end (omega (arith, p.ordered, ls))) at going)))
          o')
          (number_of r.finished n (by o')) (λ f. inr (rw f at (by o'))))

  next-refused : P (next r l rows)
  unfolding next_header
  next-refused =
      rw (next-good t h ok rows)
      (cond-by P r.header _ _ (λ hd. from-refused r.start (passed_on r l t.accepted t.handed t.header t.ended h hd))
      (λ hd. cond-by P (ltb (r.end - r.start) 4) _ _
      (λ a. cond-by P r.finished _ _
      (λ f q. by-grammar (stops-by r t.header h refl
      (λ u v. rw (hd, subst (λ (b : Bool). Open b u) f v, append-nil s) (few-read s (omega (arith, ls, ltb-true (r.end - r.start) 4 a)) ∙ cc q))
      (let e : 1 ≡ n = cc q in omega arith) (λ g. absurd (true≢false (sym f ∙ g)))))
      (λ _ q. let z : ◌≡◌ {A = ℕ} 0 1 = cc q in absurd (omega arith)))
      (λ a. let four : 4 ≤ r.end - r.start = ltb-false _ _ a in
      cond-by P (eqb (u32_at l.window r.start) magic) _ _
      (λ b. from-refused (r.start + 4) (passing r l t.accepted t.handed t.header t.ended h hd four (eqb-true _ _ b)))
      (λ b q.
      let told : Reply.refused invalid_magic (u32_at l.window r.start) ≡ Reply.refused n d = q in
      by-grammar (stops-by r t.header h refl
      (λ u v. let e : u32_at (s ++ u) 0 ≡ u32_at l.window r.start = u32_at-append s u 0 (omega (arith, ls)) ∙ u32_at-slice l.window r.start r.end (omega arith) in
      rw hd (other-read (s ++ u) (omega (arith, ls, length-append s u)) (λ z. eqb-false _ _ b (sym e ∙ z)) ∙ rw e (cc told)))
      (let e : 2 ≡ n = cc told in omega arith) (λ _. inl (sym (cc told))))))))
    where
      s : List ℕ
      s = slice r.start r.end l.window

      ls : length s ≡ r.end - r.start
      ls = length-slice r.start r.end l.window h.placed

-- after every list of calls
pub refusals : (r : Stream) (l : Lent) → create l ≡ created r → (cs : List Call) (rows : List ℕ) (n d : ℕ)
    → (next (run (start r l) cs).stream (run (start r l) cs).lent rows).reply ≡ Reply.refused n d → Refused (run (start r l) cs) rows n d
refusals r l c cs rows n d = let a = after-calls r l c cs in next-refused (run (start r l) cs) a.holds a.sizes-good a.marked rows n d
