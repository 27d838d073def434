-- How far nexts and queries come, counted in the grammar's events: where they leave the place, the pool table holds the pool.
use Rattle.std.specs.Prelude.{false, ◌⊎◌, ◌≡◌, drop, ltb, eqb}
use Rattle.std.proofs.Common.{inl, inr, ◌∙◌, add-zero, arith}
use mathlib.Core.List.{List, [], ◌∷◌, ◌++◌}
use Rattle.std.proofs.Math.Path.{refl, sym, ap}
use Prim.Native.Nat.{ℕ, zero, suc, ◌+◌, ◌*◌, ◌/◌, ◌≤◌}
use borrow.Author.Tests.{ltb-false, eqb-true, le-ltb, eq-eqb, ne_eqb}
use Rattle.std.proofs.Math.ListN.{length, length-append}
use Rattle.std.proofs.Math.Seq.{length-sets}
use Rattle.wire.specs.Token.{end_document}
use Rattle.wire.specs.Refusal.{rows_full, pool_full}
use Rattle.event.specs.Row.{Event}
use Rattle.grammar.specs.Grammar.{Span, Items}
use Rattle.grammar.specs.Document.{Pool, Reading, reads, ended, stopped, total}
use Rattle.grammar.specs.Scan.{adds}
use Rattle.grammar.proofs.Choice.{by_test, cond-by}
use Rattle.grammar.proofs.Steps.{read_s, chain, chain_snoc}
use Rattle.slice_spec.specs.Slice.{Place, sizes_bad, place_bad, items_at, table_after, place_after, Answer, gives, end, given, next}
use Rattle.slice_spec.specs.Queries.{Query, find-attribute, attributes-of, find-all-attributes, all-attributes-of, Words, found, done, refused, single, after, Progress, Left, ends, past, by_step, consume, kind_of, writes, by_outcome, query_f, query}
use Rattle.slice_spec.proofs.Held.{Held}
use Rattle.slice_spec.proofs.Kept.{next-by}
use Rattle.slice_spec.proofs.Standing.{Stands, There, nothing, refusal, event-of, ends_there, there, stands-there}
use Rattle.slice_spec.proofs.Answers.{kind_of_event, kind-says, begun}

total-append : (a b : List ℕ) → total (a ++ b) ≡ total a + total b
unfolding total
total-append [] b = omega arith
total-append (n ∷ a) b = omega (arith, total-append a b)

chain-append : (es : List Event) (ns : List ℕ) (ds : List Event) (ms : List ℕ) (r : Reading) → length ns ≡ length es → chain (es ++ ds) (ns ++ ms) r ≡ chain es ns (chain ds ms r)
chain-append [] [] ds ms r h = refl
chain-append [] (n ∷ ns) ds ms r h = absurd (omega arith)
chain-append (e ∷ es) [] ds ms r h = absurd (omega arith)
chain-append (e ∷ es) (n ∷ ns) ds ms r h = ap (λ (x : Reading). reads e n x) (chain-append es ns ds ms r (omega arith))

-- the kind of the last event
abbrev pub last_kind : List Event → ℕ
last_kind [] = 0
last_kind (e ∷ []) = kind_of_event e
last_kind (e ∷ d ∷ es) = last_kind (d ∷ es)

last_snoc : (es : List Event) (e : Event) → last_kind (es ++ (e ∷ [])) ≡ kind_of_event e
last_snoc [] e = refl
last_snoc (d ∷ []) e = refl
last_snoc (d ∷ b ∷ es) e = last_snoc (b ∷ es) e

-- ---- so many events on

-- from a place where the pool has these names, k events of the grammar lead to another place, and the table holds the pool there
pub record Comes (document : List ℕ) (pool : Pool) (p : Place) (table : List ℕ) (k : ℕ) (p' : Place) (table' : List ℕ) : Type 0 where
  pub later : Pool
  pub es : List Event
  pub ns : List ℕ
  pub counted : length es ≡ k
  pub as_many : length ns ≡ length es
  pub reading : read_s pool (drop p.at document) ≡ chain es ns (read_s later (drop p'.at document))
  pub distance : p'.at ≡ p.at + total ns
  pub held : Held document later p'.names table'
  pub placed : p'.at ≤ length document
  pub same-table : length table' ≡ length table

-- the events of an answer of next
abbrev pub counts : Answer → ℕ
counts (gives k) = 1
counts end = 0
counts (Answer.refused n d) = 0

module _ (document : List ℕ) (pool : Pool) (p : Place) (table : List ℕ) where
  pub comes-none : Held document pool p.names table → p.at ≤ length document → Comes document pool p table 0 p table
  unfolding total
  comes-none h placed = record {
    later = pool;
    es = [];
    ns = [];
    counted = refl;
    as_many = refl;
    reading = refl;
    distance = omega arith;
    held = h;
    placed = placed;
    same-table = refl;
  }

  -- one event more
  comes-more : (k : ℕ) (g : Place) (t : List ℕ) (c : Comes document pool p table k g t) (n : ℕ) → Stands document c.later g t n
      → 2 * (g.names + length (adds g.names (items_at g document t))) ≤ length t
      → Comes document pool p table (k + 1) (place_after g n (adds g.names (items_at g document t))) (table_after g t (adds g.names (items_at g document t)))
  unfolding place_after table_after total
  comes-more k g t c n w room = record {
    later = w.later;
    es = c.es ++ (w.rows ∷ []);
    ns = c.ns ++ (n ∷ []);
    counted = omega (arith, length-append c.es (w.rows ∷ []), c.counted);
    as_many = omega (arith, length-append c.es (w.rows ∷ []), length-append c.ns (n ∷ []), c.as_many);
    reading = c.reading ∙ ap (λ (r : Reading). chain c.es c.ns r) w.reading ∙ sym (chain_snoc c.es c.ns w.rows n _ c.as_many);
    distance = omega (arith, total-append c.ns (n ∷ []), c.distance);
    held = w.held (omega (arith, w.joined));
    placed = w.within;
    same-table = simp length-sets c.same-table;
  }

  -- ---- a next

  pub next-comes : (k : ℕ) (g : Place) (t : List ℕ) → Comes document pool p table k g t → (rows : List ℕ)
      → Comes document pool p table (k + counts (next g document t rows).answer) (next g document t rows).place (next g document t rows).table
  unfolding given
  next-comes k g t c rows =
      let same : Comes document pool p table (k + 0) g t = rw (add-zero k) c in
      next-by (λ x. Comes document pool p table (k + counts x.answer) x.place x.table) g document t rows (λ _ _. same) same
      (λ n o _ room. comes-more k g t c n (stands-there document c.later g t c.held c.placed n o) room)

  -- ---- a query

  -- a refusal is 10, 11 or the reading's; where it is done, nothing is left to read, or EndDocument was consumed last
  pub record Consumed (x : Left) : Type 0 where
    pub comes : Comes document pool p table x.progress.events x.progress.place x.progress.table
    pub refuses : (n d : ℕ) → x.ending ≡ refused n d
        → ((n ≡ rows_full) × (d ≡ 0)) ⊎ (((n ≡ pool_full) × (d ≡ 0)) ⊎ (read_s comes.later (drop x.progress.place.at document) ≡ stopped n d))
    pub finishes : x.ending ≡ done → (read_s comes.later (drop x.progress.place.at document) ≡ ended comes.later) ⊎ (last_kind comes.es ≡ end_document)

  -- how far it has come
  abbrev So : Progress → Type 0
  So g = Comes document pool p table g.events g.place g.table

  refused-consumed : (g : Progress) (c : So g) (n d : ℕ)
      → ((n ≡ rows_full) × (d ≡ 0)) ⊎ (((n ≡ pool_full) × (d ≡ 0)) ⊎ (read_s c.later (drop g.place.at document) ≡ stopped n d)) → Consumed (ends g (refused n d))
  refused-consumed g c n d why = record {
    comes = c;
    refuses = λ m b h.
        let e₁ : n ≡ m = cc h in
        let e₂ : d ≡ b = cc h in
        rw (← e₁, ← e₂) why;
    finishes = λ h. absurd (let z : ◌≡◌ {A = ℕ} 0 1 = cc h in omega arith);
  }

  done-consumed : (g : Progress) (c : So g) → (read_s c.later (drop g.place.at document) ≡ ended c.later) ⊎ (last_kind c.es ≡ end_document) → Consumed (ends g done)
  done-consumed g c why = record { comes = c; refuses = λ n d h. absurd (let z : ◌≡◌ {A = ℕ} 0 1 = cc h in omega arith); finishes = λ _. why }

  found-consumed : (g : Progress) → So g → Consumed (ends g found)
  found-consumed g c = record {
    comes = c;
    refuses = λ n d h. absurd (let z : ◌≡◌ {A = ℕ} 0 1 = cc h in omega arith);
    finishes = λ h. absurd (let z : ◌≡◌ {A = ℕ} 0 1 = cc h in omega arith);
  }

  -- a match and EndDocument stop a query
  module _ (kind : ℕ) (ws : List Words) (g : Progress) (c : So g) (last : last_kind c.es ≡ kind) (more : Progress → Left) (m : Consumed (more g)) where
    single-consumed : (ws : List Words) → Consumed (by_step (single kind ws) g more)
    unfolding by_step single
    single-consumed [] =
        by_test (eqb kind end_document) (λ b. rw b (done-consumed g c (inr (last ∙ eqb-true kind end_document b)))) (λ b. rw b m)
    single-consumed (w ∷ ws) = found-consumed g c

    step-consumed : (q : Query) → Consumed (by_step (after q kind ws) g more)
    unfolding by_step after
    step-consumed (find-attribute element name) = single-consumed ws
    step-consumed (attributes-of element) = single-consumed ws
    step-consumed (find-all-attributes element name) = m
    step-consumed (all-attributes-of element) = m

  consume-by : (P : Left → Type 0) (q : Query) (g : Progress) (kind n : ℕ) (ts : List Span) (ws : List Words) (more : Progress → Left)
      → P (ends g (refused rows_full 0)) → P (ends g (refused pool_full 0))
      → (2 * (g.place.names + length ts) ≤ length g.table → P (by_step (after q kind ws) (past g n ts ws) more)) → P (consume q g kind n ts ws more)
  unfolding consume
  consume-by P q g kind n ts ws more few short goes =
      cond-by P (ltb (length g.rows / 8) (g.written + length ws)) _ _ (λ _. few) (λ _.
      cond-by P (ltb (length g.table) (2 * (g.place.names + length ts))) _ _ (λ _. short) (λ b. goes (ltb-false _ _ b)))

  -- past an event
  so-past : (g : Progress) (c : So g) (n : ℕ) (w : Stands document c.later g.place g.table n) (ws : List Words)
      → 2 * (g.place.names + length (adds g.place.names (items_at g.place document g.table))) ≤ length g.table
      → So (past g n (adds g.place.names (items_at g.place document g.table)) ws)
  unfolding past
  so-past g c n w ws room = comes-more g.events g.place g.table c n w room

  event-consumed : (q : Query) (g : Progress) (c : So g) (n : ℕ) (w : Stands document c.later g.place g.table n) (more : Progress → Left)
      → ((g' : Progress) → g'.place.at ≡ g.place.at + n → So g' → Consumed (more g'))
      → Consumed (consume q g (kind_of (items_at g.place document g.table)) n (adds g.place.names (items_at g.place document g.table)) (writes q document g (items_at g.place document g.table)) more)
  unfolding past place_after so-past comes-more
  event-consumed q g c n w more onward =
      let is : Items = items_at g.place document g.table in
      let ts : List Span = adds g.place.names is in
      let ws : List Words = writes q document g is in
      consume-by Consumed q g (kind_of is) n ts ws more (refused-consumed g c rows_full 0 (inl (refl, refl))) (refused-consumed g c pool_full 0 (inr (inl (refl, refl))))
      (λ room.
      let c' : So (past g n ts ws) = so-past g c n w ws room in
      let kind : last_kind (c.es ++ (w.rows ∷ [])) ≡ kind_of is = last_snoc c.es w.rows ∙ ap kind_of_event w.rows-of ∙ sym (kind-says (drop g.place.at document) c.later is) in
      step-consumed (kind_of is) ws (past g n ts ws) c' kind more (onward (past g n ts ws) refl c') q)

  consumed-from : (f : ℕ) (q : Query) (g : Progress) → So g → length document ≤ g.place.at + f → Consumed (query_f f q document g)
  unfolding query_f by_outcome
  consumed-from zero q g c enough = done-consumed g c (inl (ends_there document c.later g.place g.table c.held c.placed (omega (arith, c.placed))))
  consumed-from (suc f) q g c enough = go (there document c.later g.place g.table c.held c.placed) (λ g' a c'. consumed-from f q g' c' a)
    where
      go : There document c.later g.place g.table → ((g' : Progress) → length document ≤ g'.place.at + f → So g' → Consumed (query_f f q document g')) → Consumed (query_f (suc f) q document g)
      go (nothing e r) onward = rw (eq-eqb g.place.at (length document) e) (done-consumed g c (inl r))
      go (refusal n d ne o r) onward = rw (ne_eqb g.place.at (length document) ne, o) (refused-consumed g c n d (inr (inr r)))
      go (event-of n o w) onward =
          rw (ne_eqb g.place.at (length document) (λ z. omega (arith, w.some_bytes, w.within)), o)
          (event-consumed q g c n w (λ g'. query_f f q document g') (λ g' a c'. onward g' (omega (arith, w.some_bytes)) c'))

  pub query-consumed : Held document pool p.names table → p.at ≤ length document → sizes_bad document table ≡ false → (q : Query) (rows : List ℕ)
      → Consumed (query q p document table rows)
  unfolding query place_bad
  query-consumed h placed good q rows =
      rw (good, le-ltb (length document) p.at placed, le-ltb (length table) (2 * p.names) h.table_fits)
      (consumed-from (length document) q (begun p table rows) (comes-none h placed) (omega arith))

-- events after events
pub comes-on : (document : List ℕ) (pool : Pool) (p : Place) (table : List ℕ) (k : ℕ) (p' : Place) (table' : List ℕ) (c : Comes document pool p table k p' table') (j : ℕ) (p'' : Place) (table'' : List ℕ)
    → Comes document c.later p' table' j p'' table'' → Comes document pool p table (k + j) p'' table''
comes-on document pool p table k p' table' c j p'' table'' d = record {
  later = d.later;
  es = c.es ++ d.es;
  ns = c.ns ++ d.ns;
  counted = omega (arith, length-append c.es d.es, c.counted, d.counted);
  as_many = omega (arith, length-append c.es d.es, length-append c.ns d.ns, c.as_many, d.as_many);
  reading = c.reading ∙ ap (λ (r : Reading). chain c.es c.ns r) d.reading ∙ sym (chain-append c.es c.ns d.es d.ns _ c.as_many);
  distance = omega (arith, total-append c.ns d.ns, c.distance, d.distance);
  held = d.held;
  placed = d.placed;
  same-table = d.same-table ∙ c.same-table;
}
