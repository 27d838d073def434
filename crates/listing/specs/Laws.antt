-- What a caller of the listing may count on.
use Rattle.std.specs.Prelude.{List, Result, Ok, ◌≡◌, ℕ, ◌*◌, ◌/◌, ◌≤◌, leb, ltb, length, drop}
use Rattle.std.proofs.Common.{sym, ap, ◌∙◌, leb-true, arith}
use Rattle.event.specs.Row.{row_at}
use Rattle.grammar.proofs.Choice.{by_test}
use Rattle.listing.specs.Answers.{lined_of}
use Rattle.wire.specs.declared.Refusal.{Refusal}
use Rattle.listing.specs.Line.{Left, Reply, wrote, refused, line, put, put_row}

-- how much of the output a reply took
abbrev pub taken : Reply → ℕ
taken (wrote n) = n
taken (refused n d) = 0

-- a line that was written lies in the output
pub put-within : (text out : List ℕ) → taken (put text out).reply ≤ length out
unfolding put
put-within text out =
    by_test (leb (length text) (length out)) (λ b. rw b (leb-true (length text) (length out) b)) (λ b. rw b (omega arith))

pub row_within : (first second rows : List ℕ) (row : ℕ) (out : List ℕ) → taken (put_row first second rows row out).reply ≤ length out
unfolding put_row
row_within first second rows row out =
    by_test (ltb row (length rows / 8)) (λ b. rw b (put-within (line (row_at first second (drop (row * 8) rows))) out)) (λ b. rw b (omega arith))

-- the same of the code's answer
pub line-within : (first second rows : List ℕ) (row : ℕ) (out out' : List ℕ) (r : Result ℕ Refusal) (n : ℕ) → lined_of out' r ≡ put_row first second rows row out
    → r ≡ Ok n → n ≤ length out
line-within first second rows row out out' r n e f =
    let same : n ≡ taken (put_row first second rows row out).reply = ap (λ (x : Left). taken x.reply) (ap (lined_of out') (sym f) ∙ e) in
    omega (arith, same, row_within first second rows row out)

pub lined-within : (text out out' : List ℕ) (r : Result ℕ Refusal) (n : ℕ) → lined_of out' r ≡ put text out → r ≡ Ok n → n ≤ length out
lined-within text out out' r n e f =
    let same : n ≡ taken (put text out).reply = ap (λ (x : Left). taken x.reply) (ap (lined_of out') (sym f) ∙ e) in
    omega (arith, same, put-within text out)
