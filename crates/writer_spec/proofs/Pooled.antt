-- The writer's pool after a list of events holds exactly the names that are to be kept.
use Rattle.std.proofs.Math.Option.{Option, none, some}
use Rattle.std.specs.Prelude.{List, [], ◌∷◌, ◌++◌, ◌≡◌, ℕ, ◌≤◌, ◌<◌, length, take, ltb}
use Rattle.std.proofs.Math.Path.{refl, sym}
use Rattle.std.proofs.Common.{◌∙◌, arith, take_all}
use borrow.Author.Tests.{ltb-true, ltb-false, lt-ltb, le-ltb}
use Rattle.std.proofs.Math.ListN.{length-append, length-take}
use Rattle.std.proofs.lemmas.List.{take-append-le}
use Rattle.std.proofs.Math.Seq.{take-nil}
use Rattle.event.specs.Row.{Row, Event, has_name}
use Rattle.grammar.specs.Grammar.{most}
use Rattle.grammar.specs.Document.{Pool}
use Rattle.grammar.proofs.Choice.{by_test}
use Rattle.writer_spec.specs.Encode.{find, keep_by, keep, keep_row, keep_rows, flat}
use Rattle.writer_spec.specs.Names.{names, join_by, join, distinct, kept_names}

-- one name joins: the pool stays a beginning of the names seen
module _ (seen : Pool) (n : List ℕ) where
  -- room for it
  joins : length seen < most → (x : Option ℕ) → keep_by seen n x ≡ take most (join_by seen n x)
  unfolding keep_by join_by
  joins h (some i) = sym (take_all most seen (omega arith))
  joins h none = rw (lt-ltb (length seen) most h) (sym (take_all most (seen ++ (n ∷ [])) (simp length-append (omega arith))))

  -- none: what is seen later is not kept
  same-front : most ≤ length seen → (x : Option ℕ) → take most seen ≡ take most (join_by seen n x)
  unfolding join_by
  same-front h (some i) = refl
  same-front h none = sym (take-append-le most seen (n ∷ []) h)

  stays : most ≤ length seen → (x : Option ℕ) → keep_by (take most seen) n x ≡ take most seen
  unfolding keep_by
  stays h (some i) = refl
  stays h none = rw (le-ltb (length (take most seen)) most (simp length-take (omega arith)))

  keep-joins : keep (take most seen) n ≡ take most (join seen n)
  unfolding keep join
  keep-joins =
      by_test (ltb (length seen) most)
      (λ t. let h = ltb-true (length seen) most t in rw (take_all most seen (omega arith)) (joins h (find seen n)))
      (λ t. let h = ltb-false (length seen) most t in stays h (find (take most seen) n) ∙ same-front h (find seen n))

rows-pool : (rs : List Row) (seen : Pool) → keep_rows (take most seen) rs ≡ take most (distinct seen (names rs))
unfolding keep_rows keep_row distinct names
rows-pool [] seen = refl
rows-pool (r ∷ rs) seen =
    by_test (has_name r.kind)
    (λ t. rw (t, keep-joins seen r.name) (rows-pool rs (join seen r.name)))
    (λ t. rw t (rows-pool rs seen))

pub pool-kept : (es : List Event) → keep_rows [] (flat es) ≡ kept_names es
unfolding kept_names
pool-kept es = rw take-nil at (rows-pool (flat es) [])
