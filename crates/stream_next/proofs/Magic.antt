-- A next by its header: it waits, is there, or is not.
use Rattle.std.proofs.Common.{Bool, true, false, not, List, ◌≡◌, refl, ap, ◌∙◌, ℕ, ◌+◌, ◌-◌, ◌≤◌, ◌<◌, arith, lt-ltb, le-ltb, ltb-true, ltb-false, ltb, eqb, length, take, drop}
use Rattle.std.proofs.Math.Seq.{length-slice}
use Rattle.wire.specs.Header.{Check, u32_at, magic, header}
use Rattle.grammar.proofs.Choice.{by_test}
use Rattle.stream_spec.specs.Stream.{Stream, Lent, Left, Reply, need_more, unchanged, next_from, next_header}
use Rattle.stream_spec.proofs.Invariant.{u32_at-slice}
use Rattle.stream.specs.Answers.{Fits}
use Rattle.stream.proofs.Window.{part_slice}

pub not-true : (b : Bool) → not b ≡ true → b ≡ false
not-true true h = cc
not-true false h = refl

module _ (r : Stream) (l : Lent) (rows : List ℕ) where
  -- the bytes that wait, as the code lends them
  abbrev waiting : List ℕ
  waiting = take (r.end - r.start) (drop r.start l.window)

  waiting_len : Fits r l → length waiting ≡ r.end - r.start
  waiting_len f = ap length (part_slice l.window r.start r.end f.start_fits f.end_fits) ∙ length-slice r.start r.end l.window f.end_fits

  -- a header that is there is four bytes of them
  pub header-there : Fits r l → header waiting ≡ Check.passed → r.start + 4 ≤ r.end
  unfolding header
  header-there f h =
      let n = waiting_len f in
      by_test (ltb (length waiting) 4) (λ b. let y = rw b at h in cc y) (λ b. let k = ltb-false _ _ b in omega arith)

  -- under four wait
  pub header-waits : Fits r l → length waiting < 4 → r.finished ≡ false → unchanged r l rows need_more ≡ next_header r l rows
  unfolding next_header
  header-waits f h b = let n = waiting_len f in rw (lt-ltb (r.end - r.start) 4 (omega arith), b)

  -- else the call goes as the header does
  abbrev pub by_check : Check → Left
  by_check Check.passed = next_from r l rows (r.start + 4)
  by_check (Check.refused n d) = unchanged r l rows (Reply.refused n d)

  pub header-seen : Fits r l → (length waiting < 4 → r.finished ≡ true) → by_check (header waiting) ≡ next_header r l rows
  unfolding next_header header
  header-seen f short =
      let n = waiting_len f in
      by_test (ltb (length waiting) 4)
      (λ b.
      let h = ltb-true _ _ b in
      let finished = short h in
      rw (b, lt-ltb (r.end - r.start) 4 (omega arith), finished))
      (λ b.
      let h = ltb-false _ _ b in
      let value : u32_at waiting 0 ≡ u32_at l.window r.start =
      ap (λ (s : List ℕ). u32_at s 0) (part_slice l.window r.start r.end f.start_fits f.end_fits) ∙ u32_at-slice l.window r.start r.end (omega arith) in
      rw (b, le-ltb (r.end - r.start) 4 (omega arith), value)
      (by_test (eqb (u32_at l.window r.start) magic) (λ m. rw m) (λ m. rw m)))
