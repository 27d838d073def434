-- What a query leaves, as words.
use Rattle.std.proofs.Common.{List, ◌≡◌, refl, ap, ◌∙◌, ℕ, Result, Ok, Err}
use Rattle.slice_spec.specs.Queries.{Left}
use Rattle.slice.specs.declared.queries.Queried.{Queried}
use Rattle.slice.specs.declared.queries.Stopped.{Stopped}
use Rattle.slice.specs.Answers.{left_of}
use Rattle.abx_words.specs.QueryWords.{told_to, query_words, QueryLeft}

pool-of : (pool rows : List ℕ) (q : Result Queried Stopped) → pool ≡ (left_of pool rows q).progress.table
pool-of pool rows (Ok (Queried.Found r)) = refl
pool-of pool rows (Ok (Queried.Done r)) = refl
pool-of pool rows (Err s) = refl

rows-of : (pool rows : List ℕ) (q : Result Queried Stopped) → rows ≡ (left_of pool rows q).progress.rows
rows-of pool rows (Ok (Queried.Found r)) = refl
rows-of pool rows (Ok (Queried.Done r)) = refl
rows-of pool rows (Err s) = refl

pub query-left : (answer answer₁ pool rows : List ℕ) (q : Result Queried Stopped) (y : Left)
    → ((t u : List ℕ) → answer₁ ≡ told_to answer (query_words (left_of t u q))) → left_of pool rows q ≡ y → QueryLeft answer answer₁ pool rows y
query-left answer answer₁ pool rows q y e f = record {
  answer-is = e pool rows ∙ ap (λ (z : Left). told_to answer (query_words z)) f;
  pool-is = pool-of pool rows q ∙ ap (λ (z : Left). z.progress.table) f;
  rows_is = rows-of pool rows q ∙ ap (λ (z : Left). z.progress.rows) f;
}
