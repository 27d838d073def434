-- A query is turn after turn: what it asks of each event is what `Turns` asks.
use Rattle.std.specs.Prelude.{Bool, true, false, cond, List, [], ◌∷◌, ◌≡◌, refl, ℕ, suc, length}
use Rattle.grammar.specs.Grammar.{Span, Items}
use Rattle.grammar.specs.Scan.{Outcome, complete, incomplete, bad, outcome}
use Rattle.slice_spec.specs.Slice.{items_at}
use Rattle.slice_spec.specs.Queries.{Query, find-attribute, attributes-of, find-all-attributes, all-attributes-of, Words, single, after, Progress, Left, consume, kind_of, by_outcome, query_f}
use Rattle.slice_spec.specs.Turns.{Turn, passing, turn_by, turn, single_by, after_by, by_turn}

single-by : (kind : ℕ) (ws : List Words) → single kind ws ≡ single_by kind (length ws)
unfolding single single_by
single-by kind [] = refl
single-by kind (w ∷ ws) = refl

after-by : (q : Query) (kind : ℕ) (ws : List Words) → after q kind ws ≡ after_by q kind (length ws)
unfolding after after_by
after-by (find-attribute element name) kind ws = single-by kind ws
after-by (attributes-of element) kind ws = single-by kind ws
after-by (find-all-attributes element name) kind ws = refl
after-by (all-attributes-of element) kind ws = refl

cond-turn : (q : Query) (more : Progress → Left) (b : Bool) (x y : Turn) → by_turn q more (cond b x y) ≡ cond b (by_turn q more x) (by_turn q more y)
cond-turn q more true x y = refl
cond-turn q more false x y = refl

consume-turn : (q : Query) (g : Progress) (kind n : ℕ) (ts : List Span) (ws : List Words) (more : Progress → Left)
    → consume q g kind n ts ws more ≡ by_turn q more (passing g kind n ts ws)
unfolding consume passing by_turn
consume-turn q g kind n ts ws more = rw (cond-turn, cond-turn, after-by q kind ws)

outcome-turn : (q : Query) (document : List ℕ) (g : Progress) (is : Items) (o : Outcome) (more : Progress → Left)
    → by_outcome q document g is o more ≡ by_turn q more (turn_by q document g is o)
unfolding by_outcome turn_by by_turn
outcome-turn q document g is (complete n) more = consume-turn q g (kind_of is) n _ _ more
outcome-turn q document g is incomplete more = refl
outcome-turn q document g is (bad n d) more = refl

pub query-turn : (f : ℕ) (q : Query) (document : List ℕ) (g : Progress) → query_f (suc f) q document g ≡ by_turn q (λ g'. query_f f q document g') (turn q document g)
unfolding query_f turn by_turn
query-turn f q document g =
    rw (cond-turn, outcome-turn q document g (items_at g.place document g.table) (outcome true (items_at g.place document g.table)) (λ g'. query_f f q document g'))
