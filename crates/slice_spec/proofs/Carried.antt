-- What a parser carries of its `new`: a refusal, which every later call answers and which none of them changes; or the slice
-- reader's place.
use Rattle.std.specs.Prelude.{List, ◌≡◌, ℕ, length, ltb, eqb}
use Rattle.std.proofs.Math.Path.{refl, subst}
use Rattle.std.proofs.Common.{arith}
use borrow.Author.Tests.{ne_eqb}
use Rattle.wire.specs.Header.{Check, header, u32_at, magic}
use Rattle.event.specs.Span.{Pointer}
use Rattle.grammar.proofs.Choice.{cond-by}
use Rattle.slice_spec.specs.Slice.{Created, created, by_header, create, sizes_bad}
use Rattle.slice_spec.specs.Slice as Slice
use Rattle.slice_spec.specs.Queries.{Query, query}
use Rattle.slice_spec.specs.Queries as Queries
use Rattle.slice_spec.specs.Parser.{new, by_next, unchanged, next, by_query, unasked, asks}

-- a refusal's number is not 0, which in a parser says that there was none
abbrev Numbered : Created → Type 0
Numbered (created p) = Unit {0}
Numbered (Slice.Created.refused n d) = n ≡ 0 → ⊥

numbered : (document table : List ℕ) → Numbered (create document table)
unfolding create header
numbered document table =
    cond-by Numbered (sizes_bad document table) _ _ (λ _ e. absurd (omega (arith, e)))
    (λ _. cond-by (λ (c : Check). Numbered (by_header c)) (ltb (length document) 4) _ _ (λ _ e. absurd (omega (arith, e)))
    (λ _. cond-by (λ (c : Check). Numbered (by_header c)) (eqb (u32_at document 0) magic) _ _ (λ _. tt) (λ _ e. absurd (omega (arith, e)))))

module _ (document : List ℕ) (lies : Pointer) (table : List ℕ) where
  -- a refused `new`
  module _ (n d : ℕ) (r : create document table ≡ Slice.Created.refused n d) (table' rows : List ℕ) where
    pub next-refused : next (new document lies table) table' rows ≡ unchanged (new document lies table) table' rows (Slice.Answer.refused n d)
    unfolding new next
    next-refused = let h : n ≡ 0 → ⊥ = subst Numbered r (numbered document table) in rw (r, ne_eqb n 0 h)

    pub asks-refused : (q : Query) → asks q (new document lies table) table' rows ≡ unasked (new document lies table) table' rows (Queries.Ending.refused n d)
    unfolding new asks
    asks-refused q = let h : n ≡ 0 → ⊥ = subst Numbered r (numbered document table) in rw (r, ne_eqb n 0 h)

  -- one that was not refused
  module _ (p : Slice.Place) (c : create document table ≡ created p) (table' rows : List ℕ) where
    pub next-goes : next (new document lies table) table' rows ≡ by_next (new document lies table) (Slice.next p document table' rows)
    unfolding new next
    next-goes = rw c refl

    pub asks-goes : (q : Query) → asks q (new document lies table) table' rows ≡ by_query (new document lies table) (query q p document table' rows)
    unfolding new asks
    asks-goes q = rw c refl
