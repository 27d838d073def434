-- What is left of a reading after some events, and the names at its end.
use Rattle.std.specs.Prelude.{true, false, List, [], ◌∷◌, ◌++◌, ◌≡◌, refl, ℕ, zero, suc, length, drop}
use Rattle.std.proofs.Math.Option.{some}
use Rattle.std.proofs.Common.{append_assoc, append-nil, sym, ap, ◌∙◌, arith}
use Rattle.wire.specs.Header.{header, Check}
use Rattle.wire.specs.Header as Header
use Rattle.event.specs.Row.{Event}
use Rattle.grammar.specs.Grammar.{Items, item, whole, lacks, stops, event}
use Rattle.grammar.specs.Document.{Pool, all, keep_item, rows_of, pool_of, One, one, ending, read_one, Reading, reads, ended, stopped, then_reading, past_header, read_f, read, events, last_pool, left, names_from, names_of}
use Rattle.grammar.specs.Scan.{adds, count, Outcome, complete, outcome}
use Rattle.grammar.proofs.Steps.{chain}
use Rattle.grammar.proofs.Added.{these, pool-adds}

pub count-rows : (s : List ℕ) (pool : Pool) (is : Items) → count is ≡ length (rows_of s pool is)
unfolding count rows_of
count-rows s pool (item i is) = ap suc (count-rows s (keep_item s pool i) is)
count-rows s pool (whole n e) = refl
count-rows s pool (lacks k) = refl
count-rows s pool (stops n d) = refl

-- ---- the names of a document that is read to its end

-- how a reading of one event ends, by its outcome
abbrev Ended : Event → Pool → Outcome → One → Type 0
Ended rows pool o (one e n p) = (o ≡ complete n) × (rows ≡ e) × (pool ≡ p)
Ended rows pool o (One.refused n d) = Unit {0}

ending-ended : (rows : Event) (pool : Pool) (is : Items) → Ended rows pool (outcome true is) (ending rows pool is)
unfolding ending outcome
ending-ended rows pool (item i is) = ending-ended rows pool is
ending-ended rows pool (whole n true) = (refl, refl, refl)
ending-ended rows pool (whole n false) = (refl, refl, refl)
ending-ended rows pool (lacks k) = tt
ending-ended rows pool (stops n d) = tt

one_ended : (pool : Pool) (s : List ℕ) → Ended (rows_of s pool (event all (length pool) s)) (pool_of s pool (event all (length pool) s)) (outcome true (event all (length pool) s)) (read_one pool s)
unfolding read_one
one_ended pool s = ending-ended _ _ (event all (length pool) s)

names-last : (f : ℕ) (pool : Pool) (s : List ℕ) (last : Pool) → last_pool (read_f f pool s) ≡ some last → names_from (read_f f pool s) pool s ≡ last
unfolding read_f last_pool names_from
names-last zero pool s last h = cc h
names-last (suc f) pool [] last h = cc h
names-last (suc f) pool (b ∷ s) last h = go (λ p n. names-last f p (drop n (b ∷ s)) last) (read_one pool (b ∷ s)) (one_ended pool (b ∷ s)) h
  where
    go : ((p : Pool) (n : ℕ) → last_pool (read_f f p (drop n (b ∷ s))) ≡ some last → names_from (read_f f p (drop n (b ∷ s))) p (drop n (b ∷ s)) ≡ last)
        → (x : One) → Ended (rows_of (b ∷ s) pool (event all (length pool) (b ∷ s))) (pool_of (b ∷ s) pool (event all (length pool) (b ∷ s))) (outcome true (event all (length pool) (b ∷ s))) x
        → last_pool (then_reading x (λ p n. read_f f p (drop n (b ∷ s)))) ≡ some last → names_from (then_reading x (λ p n. read_f f p (drop n (b ∷ s)))) pool (b ∷ s) ≡ last
    go ih (one e n p) w h = ap (λ (q : Pool). names_from (read_f f p (drop n (b ∷ s))) q (drop n (b ∷ s))) w.2 ∙ ih p n h
    go ih (One.refused n d) w h = absurd (let z : ◌≡◌ {A = ℕ} 0 1 = cc h in omega arith)

pub names-of-last : (s : List ℕ) (last : Pool) → last_pool (read s) ≡ some last → names_of s ≡ last
unfolding read names_of names_from last_pool
names-of-last s last h = go (header s) h
  where
    go : (c : Check) → last_pool (past_header c (read_f (length s) [] (drop 4 s))) ≡ some last
        → names_from (past_header c (read_f (length s) [] (drop 4 s))) [] (drop 4 s) ≡ last
    go Header.passed h = names-last (length s) [] (drop 4 s) last h
    go (Header.refused n d) h = absurd (let z : ◌≡◌ {A = ℕ} 0 1 = cc h in omega arith)

-- the names after a reading are those before it, and more
pub names-grow : (r : Reading) (pool : Pool) (s : List ℕ) → (more : Pool) × (names_from r pool s ≡ pool ++ more)
unfolding names_from
names-grow (reads e n r) pool s =
    let is : Items = event all (length pool) s in
    let new : Pool = these s (adds (length pool) is) in
    let k = names-grow r (pool_of s pool is) (drop n s) in
    (new ++ k.0, k.1 ∙ ap (λ (x : Pool). x ++ k.0) (pool-adds s pool is) ∙ append_assoc pool new k.0)
names-grow (ended p) pool s = ([], sym (append-nil pool))
names-grow (stopped n d) pool s = ([], sym (append-nil pool))

-- ---- what is left of a reading after some events

pub left-chain : (es : List Event) (ns : List ℕ) (r : Reading) → length ns ≡ length es → left (length es) (chain es ns r) ≡ r
left-chain [] ns r h = refl
left-chain (e ∷ es) [] r h = absurd (omega arith)
left-chain (e ∷ es) (n ∷ ns) r h = left-chain es ns r (omega arith)

pub left-events : (k : ℕ) (r : Reading) → events (left k r) ≡ drop k (events r)
unfolding events
left-events zero r = refl
left-events (suc k) (reads e n r) = left-events k r
left-events (suc k) (ended p) = refl
left-events (suc k) (stopped n d) = refl

pub left-pool : (k : ℕ) (r : Reading) → last_pool (left k r) ≡ last_pool r
unfolding last_pool
left-pool zero r = refl
left-pool (suc k) (reads e n r) = left-pool k r
left-pool (suc k) (ended p) = refl
left-pool (suc k) (stopped n d) = refl

pub left-more : (k : ℕ) (r : Reading) (e : Event) (n : ℕ) (q : Reading) → left k r ≡ reads e n q → left (suc k) r ≡ q
left-more zero (reads c m r) e n q h = cc h
left-more zero (ended p) e n q h = let z : ◌≡◌ {A = ℕ} 0 1 = cc h in absurd (omega arith)
left-more zero (stopped m d) e n q h = let z : ◌≡◌ {A = ℕ} 0 1 = cc h in absurd (omega arith)
left-more (suc k) (reads c m r) e n q h = left-more k r e n q h
left-more (suc k) (ended p) e n q h = let z : ◌≡◌ {A = ℕ} 0 1 = cc h in absurd (omega arith)
left-more (suc k) (stopped m d) e n q h = let z : ◌≡◌ {A = ℕ} 0 1 = cc h in absurd (omega arith)
