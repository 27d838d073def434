-- What the outcome of an event says of the document: a complete event is its next one, and at a refused one its reading stops,
-- whatever follows; of an incomplete one's bytes the grammar reads at most a start tag that takes them all.
use Rattle.std.specs.Prelude.{Bool, true, false, not, ◌&&◌, cond, List, [], ◌∷◌, ◌++◌, ◌≡◌, refl, ℕ, zero, suc, ◌≤◌, ◌<◌, length, get_or, drop, ltb, eqb}
use Rattle.std.proofs.Common.{true≢false, append-nil, inr, sym, ◌∙◌, arith, ltb-true, eqb-true, eq-eqb, length-append}
use Rattle.std.proofs.Math.Seq.{drop-length}
use Rattle.wire.specs.Token.{command}
use Rattle.wire.specs.Token as Token
use Rattle.event.specs.Row.{Event}
use Rattle.grammar.specs.Reader.{Read, got, short}
use Rattle.grammar.specs.Grammar.{Item, Items, item, whole, lacks, stops, byte, after, then_items, attribute, first, attributes_f, event}
use Rattle.grammar.specs.Document.{Pool, all, row_of, rows_of, pool_of, One, one, refused, ending, read_one, ended, stopped, then_reading, read_f, Open, Short, IsTag, Last}
use Rattle.grammar.specs.Scan.{Outcome, complete, incomplete, bad, outcome}
use Rattle.grammar.proofs.Choice.{by_test}
use Rattle.grammar.proofs.Laws.{Agree, agree-event}
use Rattle.grammar.proofs.Numbers.{NumberedItems, event-numbered}
use Rattle.grammar.specs.Endings.{Ends}
use Rattle.grammar.proofs.Steps.{read_s, ReadsOn, reads-on-one, reads-on-edge}

-- ---- a complete event

-- how its rows end
ends_of : (finished : Bool) (n : ℕ) (is : Items) → outcome finished is ≡ complete n → (e : Bool) × Ends n e is × ((e && not finished) ≡ false)
unfolding outcome
ends_of finished n (item i is) h = ends_of finished n is h
ends_of true n (whole m true) h = (true, ((cc), refl), refl)
ends_of false n (whole m true) h = absurd (let z : ◌≡◌ {A = ℕ} 0 1 = cc in omega arith)
ends_of true n (whole m false) h = (false, ((cc), refl), refl)
ends_of false n (whole m false) h = (false, ((cc), refl), refl)
ends_of true n (lacks k) h = absurd (let z : ◌≡◌ {A = ℕ} 0 1 = cc in omega arith)
ends_of false n (lacks k) h = absurd (let z : ◌≡◌ {A = ℕ} 0 1 = cc in omega arith)
ends_of finished n (stops k d) h = absurd (let z : ◌≡◌ {A = ℕ} 0 1 = cc in omega arith)

-- it is the next event, however the bytes may still go on
pub complete-reads-on : (pool : Pool) (s : List ℕ) (finished : Bool) (n : ℕ) → outcome finished (event all (length pool) s) ≡ complete n → ReadsOn pool s finished n (event all (length pool) s)
complete-reads-on pool s finished n h = let x = ends_of finished n (event all (length pool) s) h in go finished x.0 x.1 x.2
  where
    go : (finished e : Bool) → Ends n e (event all (length pool) s) → (e && not finished) ≡ false → ReadsOn pool s finished n (event all (length pool) s)
    go true true w c = reads-on-edge pool s n w
    go false true w c = absurd (true≢false c)
    go true false w c = reads-on-one pool s true n w
    go false false w c = reads-on-one pool s false n w

-- a complete event has a byte, and ends where its bytes end, or before
pub ends-within : (s : List ℕ) (n : ℕ) (finished : Bool) (k : ℕ) (is y : Items) → Agree s [] k 1 is y → outcome finished is ≡ complete n
    → (1 ≤ n) × (n ≤ length s)
unfolding outcome
ends-within s n finished k (item i is) y a h = ends-within s n finished (after k i) is a.1.0 a.1.2 h
ends-within s n true k (whole m true) y a h = let same : m ≡ n = cc h in (omega (arith, a.0), omega (arith, a.1))
ends-within s n false k (whole m true) y a h = let z : ◌≡◌ {A = ℕ} 0 1 = cc h in absurd (omega arith)
ends-within s n true k (whole m false) y a h = let same : m ≡ n = cc h in (omega (arith, a.0), omega (arith, a.1))
ends-within s n false k (whole m false) y a h = let same : m ≡ n = cc h in (omega (arith, a.0), omega (arith, a.1))
ends-within s n true k (lacks j) y a h = let z : ◌≡◌ {A = ℕ} 0 1 = cc h in absurd (omega arith)
ends-within s n false k (lacks j) y a h = let z : ◌≡◌ {A = ℕ} 0 1 = cc h in absurd (omega arith)
ends-within s n finished k (stops j d) y a h = let z : ◌≡◌ {A = ℕ} 0 1 = cc h in absurd (omega arith)

-- ---- a refusal

-- how the reading of one event ends, by its outcome once no more will come; an incomplete one never comes
abbrev ending_by : Event → Pool → Outcome → One
ending_by rows pool (complete n) = one rows n pool
ending_by rows pool incomplete = refused 0 0
ending_by rows pool (bad n d) = refused n d

ending-outcome : (rows : Event) (pool : Pool) (is : Items) → ending rows pool is ≡ ending_by rows pool (outcome true is)
unfolding outcome ending
ending-outcome rows pool (item i is) = ending-outcome rows pool is
ending-outcome rows pool (whole m true) = refl
ending-outcome rows pool (whole m false) = refl
ending-outcome rows pool (lacks k) = refl
ending-outcome rows pool (stops m c) = refl

pub one-outcome : (pool : Pool) (s : List ℕ) (o : Outcome) → outcome true (event all (length pool) s) ≡ o
    → read_one pool s ≡ ending_by (rows_of s pool (event all (length pool) s)) (pool_of s pool (event all (length pool) s)) o
unfolding read_one
one-outcome pool s o h = ending-outcome _ _ (event all (length pool) s) ∙ rw h

pub bad-stops : (pool : Pool) (s : List ℕ) (n d : ℕ) → 1 ≤ length s → read_one pool s ≡ refused n d → read_s pool s ≡ stopped n d
unfolding read_s read_f
bad-stops pool [] n d l h = absurd (omega arith)
bad-stops pool (b ∷ s) n d l h = rw h

-- refused before the input ends, it is refused however the bytes go on
bad-again : (s u : List ℕ) (lo n d k : ℕ) (is y : Items) → Agree s u k lo is y → outcome false is ≡ bad n d → outcome true y ≡ bad n d
unfolding outcome
bad-again s u lo n d k (item i is) y a h = rw a.1.1 (bad-again s u lo n d (after k i) is a.1.0 a.1.2 h)
bad-again s u lo n d k (whole m true) y a h = let z : ◌≡◌ {A = ℕ} 0 1 = cc h in absurd (omega arith)
bad-again s u lo n d k (whole m false) y a h = let z : ◌≡◌ {A = ℕ} 0 1 = cc h in absurd (omega arith)
bad-again s u lo n d k (lacks m) y a h = let z : ◌≡◌ {A = ℕ} 0 1 = cc h in absurd (omega arith)
bad-again s u lo n d k (stops m c) y a h = rw a h

bad-bytes : (names : ℕ) (s : List ℕ) (n d : ℕ) → outcome false (event all names s) ≡ bad n d → 1 ≤ length s
unfolding outcome event first byte
bad-bytes names [] n d h = let z : ◌≡◌ {A = ℕ} 0 1 = cc h in absurd (omega arith)
bad-bytes names (b ∷ s) n d h = omega arith

-- the reading stops there, whatever may still come
pub bad-stops-on : (pool : Pool) (s : List ℕ) (finished : Bool) (n d : ℕ) → (finished ≡ true → 1 ≤ length s) → outcome finished (event all (length pool) s) ≡ bad n d
    → (u : List ℕ) → Open finished u → read_s pool (s ++ u) ≡ stopped n d
bad-stops-on pool s true n d l h u v = rw (v, append-nil s) (bad-stops pool s n d (l refl) (one-outcome pool s (bad n d) h))
bad-stops-on pool s false n d l h u v =
    bad-stops pool (s ++ u) n d (omega (arith, length-append s u, bad-bytes (length pool) s n d h))
    (one-outcome pool (s ++ u) (bad n d) (bad-again s u 1 n d (length pool) (event all (length pool) s) _ (agree-event s u all (length pool)) h))

pub bad-stops-here : (pool : Pool) (s : List ℕ) (finished : Bool) (n d : ℕ) → (finished ≡ true → 1 ≤ length s) → outcome finished (event all (length pool) s) ≡ bad n d
    → Open finished [] → read_s pool s ≡ stopped n d
bad-stops-here pool s finished n d l h v = rw (append-nil s) at (bad-stops-on pool s finished n d l h [] v)

-- ---- an incomplete event

-- what follows an event's own row
abbrev after_first : Pool → List ℕ → Item → ℕ → Items
after_first pool s i m = cond (eqb i.kind Token.start_tag) (attributes_f all (length s) (after (length pool) i) s m) (whole m false)

-- rows that end where the input ends are those of a start tag
edge-tag : (pool : Pool) (s : List ℕ) (n : ℕ) → Ends n true (event all (length pool) s) → IsTag (rows_of s pool (event all (length pool) s))
unfolding event rows_of row_of
edge-tag pool s n w = go (first all (length pool) s 0) w
  where
    go : (x : Read Item) → Ends n true (then_items x (after_first pool s)) → IsTag (rows_of s pool (then_items x (after_first pool s)))
    go (got i m) w = by_test (eqb i.kind Token.start_tag) (λ b. eqb-true i.kind Token.start_tag b) (λ b. absurd (true≢false (sym (rw b at w).1)))
    go (short k) w = absurd w
    go (Read.refused k d) w = absurd w

-- and a start tag that is complete before the input ends has a byte after it
attributes-inside : (f names : ℕ) (s : List ℕ) (at n : ℕ) → Ends n false (attributes_f all f names s at) → n < length s
unfolding attributes_f
attributes-inside zero names s at n w = absurd (true≢false w.1)
attributes-inside (suc f) names s at n w =
    by_test (ltb at (length s))
    (λ b. by_test (eqb (command (get_or s at 0)) Token.attribute) (λ c. go (λ i m. attributes-inside f (after names i) s m n) (attribute all names s at) (rw (b, c) at w))
    (λ c. omega (arith, (rw (b, c) at w).0, ltb-true at (length s) b)))
    (λ b. absurd (true≢false (rw b at w).1))
  where
    go : ((i : Item) (m : ℕ) → Ends n false (attributes_f all f (after names i) s m) → n < length s)
        → (x : Read Item) → Ends n false (then_items x (λ i m. attributes_f all f (after names i) s m)) → n < length s
    go ih (got i m) w = ih i m w
    go ih (short k) w = absurd w
    go ih (Read.refused k d) w = absurd w

tag-inside : (pool : Pool) (s : List ℕ) (n : ℕ) → Ends n false (event all (length pool) s) → IsTag (rows_of s pool (event all (length pool) s)) → n < length s
unfolding event rows_of row_of
tag-inside pool s n w tag = go (first all (length pool) s 0) w tag
  where
    go : (x : Read Item) → Ends n false (then_items x (after_first pool s)) → IsTag (rows_of s pool (then_items x (after_first pool s))) → n < length s
    go (got i m) w tag = attributes-inside (length s) (after (length pool) i) s m n (rw (eq-eqb i.kind Token.start_tag tag) at w)
    go (short k) w tag = absurd w
    go (Read.refused k d) w tag = absurd w

pub tag-followed : (pool : Pool) (s : List ℕ) (n : ℕ) → outcome false (event all (length pool) s) ≡ complete n → IsTag (rows_of s pool (event all (length pool) s)) → n < length s
tag-followed pool s n h tag = let x = ends_of false n (event all (length pool) s) h in go x.0 x.1 x.2
  where
    go : (e : Bool) → Ends n e (event all (length pool) s) → (e && true) ≡ false → n < length s
    go true w c = absurd (true≢false c)
    go false w c = tag-inside pool s n w tag

-- one event's reading that leaves no byte of k, or no event
abbrev Spent : ℕ → One → Type 0
Spent k (one e n p) = (n ≡ k) × IsTag e
Spent k (refused n d) = Short n × (d ≡ 0)

ending-spent : (s : List ℕ) (finished : Bool) (rows : Event) (pool : Pool) (lo k : ℕ) (is y : Items) → Agree s [] k lo is y → NumberedItems is
    → ((n : ℕ) → Ends n true is → IsTag rows) → outcome finished is ≡ incomplete → (finished ≡ false) × Spent (length s) (ending rows pool is)
unfolding outcome ending
ending-spent s finished rows pool lo k (item i is) y a w tag h = ending-spent s finished rows pool lo (after k i) is a.1.0 a.1.2 w tag h
ending-spent s true rows pool lo k (whole n true) y a w tag h = absurd (let z : ◌≡◌ {A = ℕ} 0 1 = cc h in omega arith)
ending-spent s false rows pool lo k (whole n true) y a w tag h = (refl, (a.1, tag n (refl, refl)))
ending-spent s true rows pool lo k (whole n false) y a w tag h = absurd (let z : ◌≡◌ {A = ℕ} 0 1 = cc h in omega arith)
ending-spent s false rows pool lo k (whole n false) y a w tag h = absurd (let z : ◌≡◌ {A = ℕ} 0 1 = cc h in omega arith)
ending-spent s true rows pool lo k (lacks n) y a w tag h = absurd (let z : ◌≡◌ {A = ℕ} 0 1 = cc h in omega arith)
ending-spent s false rows pool lo k (lacks n) y a w tag h = (refl, (w, refl))
ending-spent s finished rows pool lo k (stops n d) y a w tag h = absurd (let z : ◌≡◌ {A = ℕ} 0 1 = cc h in omega arith)

read-nothing : (f : ℕ) (pool : Pool) → read_f f pool [] ≡ ended pool
unfolding read_f
read-nothing zero pool = refl
read-nothing (suc f) pool = refl

spent-last : (pool : Pool) (s : List ℕ) → Spent (length s) (read_one pool s) → Last (length s) (read_s pool s)
unfolding read_s read_f
spent-last pool [] w = refl
spent-last pool (b ∷ s) w = go (read_one pool (b ∷ s)) w
  where
    go : (x : One) → Spent (suc (length s)) x → Last (suc (length s)) (then_reading x (λ p n. read_f (length s) p (drop n (b ∷ s))))
    go (one e n p) w = (w.0, (p, rw (w.0, drop-length (b ∷ s)) (read-nothing (length s) p)), w.1)
    go (refused n d) w = (inr w.0, w.1)

pub incomplete-last : (pool : Pool) (s : List ℕ) (finished : Bool) → outcome finished (event all (length pool) s) ≡ incomplete → (finished ≡ false) × Last (length s) (read_s pool s)
unfolding read_one
incomplete-last pool s finished h =
    let is : Items = event all (length pool) s in
    let g = ending-spent s finished (rows_of s pool is) (pool_of s pool is) 1 (length pool) is _ (agree-event s [] all (length pool)) (event-numbered (length pool) s) (edge-tag pool s) h in
    (g.0, spent-last pool s g.1)
