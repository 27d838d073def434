-- A query's answer as seven words: 0 found, 1 at the end, 2 refused; the place and the names; events and rows; a refusal's number and detail.
use Rattle.std.specs.Prelude.{cond, List, [], ◌∷◌, ◌≡◌, ℕ, leb, length}
use Rattle.std.proofs.lemmas.List.Edits.{sets}
use Rattle.slice_spec.specs.Queries.{Ending, found, done, refused, Progress, Left}

-- an answer, where there is room for seven words
unfoldable pub told_to : List ℕ → List ℕ → List ℕ
told_to answer ws = cond (leb 7 (length answer)) (sets answer 0 ws) answer

abbrev by : Progress → Ending → List ℕ
by g found = 0 ∷ g.place.at ∷ g.place.names ∷ g.events ∷ g.written ∷ 0 ∷ 0 ∷ []
by g done = 1 ∷ g.place.at ∷ g.place.names ∷ g.events ∷ g.written ∷ 0 ∷ 0 ∷ []
by g (refused n d) = 2 ∷ g.place.at ∷ g.place.names ∷ g.events ∷ g.written ∷ n ∷ d ∷ []

abbrev pub query_words : Left → List ℕ
query_words x = by x.progress x.ending

-- what a query leaves: the answer's words, the pool table and the rows
pub record QueryLeft (answer answer' pool rows : List ℕ) (x : Left) : Type 0 where
  pub answer-is : answer' ≡ told_to answer (query_words x)
  pub pool-is : pool ≡ x.progress.table
  pub rows_is : rows ≡ x.progress.rows
