-- The names that a pool holds after a list of events: "the distinct names (at most 65,535)" of document 01.
use Rattle.std.specs.Prelude.{cond, List, [], ◌∷◌, ◌++◌, ℕ, take}
use Rattle.std.proofs.Math.Option.{Option, none, some}
use Rattle.event.specs.Row.{Row, Event, has_name}
use Rattle.grammar.specs.Grammar.{most}
use Rattle.grammar.specs.Document.{Pool}
use Rattle.writer_spec.specs.Encode.{find, flat}

-- the names of rows, as they come
unfoldable pub names : List Row → List (List ℕ)
names [] = []
names (r ∷ rs) = cond (has_name r.kind) (r.name ∷ names rs) (names rs)

-- a name joins those seen, unless it is one of them
unfoldable pub join_by : List (List ℕ) → List ℕ → Option ℕ → List (List ℕ)
join_by seen n (some i) = seen
join_by seen n none = seen ++ (n ∷ [])

unfoldable pub join : List (List ℕ) → List ℕ → List (List ℕ)
join seen n = join_by seen n (find seen n)

-- each name once, in the order of the first uses, after those seen
unfoldable pub distinct : List (List ℕ) → List (List ℕ) → List (List ℕ)
distinct seen [] = seen
distinct seen (n ∷ ns) = distinct (join seen n) ns

-- the names of a list of events that a pool keeps
unfoldable pub kept_names : List Event → Pool
kept_names es = take most (distinct [] (names (flat es)))
