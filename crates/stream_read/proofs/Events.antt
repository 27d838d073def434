-- The rows of an event that the reader gives lie in those that it was lent.
use Rattle.std.specs.Prelude.{List, Ok, ◌≡◌, ℕ, ◌+◌, ◌*◌, ◌/◌, ◌≤◌, length}
use Rattle.std.proofs.Common.{sym, ap, ◌∙◌, arith}
use Rattle.stream_spec.specs.Stream.{Stream, Lent, Left, Reply, took, done, gives, need_more, end, given, next_from, next}
use Rattle.stream_spec.proofs.Branches.{next_from-by, next-by}
use Rattle.stream.specs.Answers.{answer_of}
use Rattle.stream.specs.declared.Stream as Coded
use Rattle.stream.specs.declared.Answer.{Answer}

-- how many rows a reply gives
abbrev counted : Reply → ℕ
counted (gives n) = n
counted (took n) = 0
counted done = 0
counted need_more = 0
counted end = 0
counted (Reply.refused n d) = 0

-- at most as many as fit
abbrev Fit : List ℕ → Left → Type 0
Fit rows x = counted x.reply ≤ length rows / 8

next_fits : (r : Stream) (l : Lent) (rows : List ℕ) → Fit rows (next r l rows)
unfolding given
next_fits r l rows =
    next-by (Fit rows) r l rows (λ n d. omega arith) (λ _. from r.start) (λ _ _ _. omega arith) (λ _ _ _. from (r.start + 4))
  where
    from : (at : ℕ) → Fit rows (next_from r l rows at)
    from at = next_from-by (Fit rows) r l rows (λ n d. omega arith) at (λ _ _. omega arith) (λ _ _. omega arith) (λ n _ _ fits _ _. fits)

-- the same of the code's answer
pub event-within : (r : Stream) (l l' : Lent) (rows rows' : List ℕ) (old s : Coded.Stream) (a : Answer) (n : ℕ) → answer_of old l' rows' (Ok a) ≡ next r l rows
    → a ≡ Answer.Event n s → 8 * n ≤ length rows
event-within r l l' rows rows' old s a n e f =
    let same : n ≡ counted (next r l rows).reply = ap (λ (x : Left). counted x.reply) (ap (λ (b : Answer). answer_of old l' rows' (Ok b)) (sym f) ∙ e) in
    omega (arith, same, next_fits r l rows)
