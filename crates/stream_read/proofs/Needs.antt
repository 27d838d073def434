-- A reader that needs more takes what is read for it.
use Rattle.std.specs.Prelude.{Bool, true, false, List, [], ◌≡◌, refl, ℕ, ◌+◌, ◌-◌, ◌≤◌, ◌<◌, length, ltb}
use Rattle.std.proofs.Common.{arith, ltb-false, le-ltb}
use Rattle.std.proofs.lemmas.Bool.{eqb-false}
use Rattle.wire.specs.Limits.{min_window}
use Rattle.grammar.specs.Grammar.{Items, item, whole, lacks, stops}
use Rattle.grammar.specs.Scan.{incomplete, outcome}
use Rattle.grammar.proofs.Choice.{cond-by, neither}
use Rattle.stream_spec.specs.Stream.{Stream, Lent, Left, Reply, took, done, need_more, unchanged, sizes_bad, state_bad, checked, fitting, fed, feed, closed, finish, passed, given, next_from, next}
use Rattle.stream_spec.proofs.Branches.{next_from-by, next-by}

-- ---- a reader that is open

pub record Open (r : Stream) (l : Lent) : Type 0 where
  pub sizes-good : sizes_bad l ≡ false
  pub state-good : state_bad r l ≡ false
  pub unfinished : r.finished ≡ false

pub feed-open : (r : Stream) (l : Lent) (chunk : List ℕ) → Open r l → feed r l chunk ≡ fed r l chunk (fitting r l chunk)
unfolding feed checked
feed-open r l chunk o = rw (o.sizes-good, o.state-good, o.unfinished) refl

pub finish-open : (r : Stream) (l : Lent) → Open r l → finish r l ≡ unchanged (closed r) l [] done
unfolding finish checked
finish-open r l o = rw (o.sizes-good, o.state-good, o.unfinished) refl

pub not-took : {X : Type 0} {n d k : ℕ} → Reply.refused n d ≡ took k → X
not-took q = absurd (let z : ◌≡◌ {A = ℕ} 0 1 = cc q in omega arith)

-- only an open one takes bytes
pub took-open : (r : Stream) (l : Lent) (chunk : List ℕ) (n : ℕ) → (feed r l chunk).reply ≡ took n → Open r l
unfolding feed checked
took-open r l chunk n =
    cond-by P (sizes_bad l) _ _ (λ _ q. not-took q) (λ a.
    cond-by P (state_bad r l) _ _ (λ _ q. not-took q) (λ b.
    cond-by P r.finished _ _ (λ _ q. not-took q) (λ c _. record { sizes-good = a; state-good = b; unfinished = c })))
  where
    P : Left → Type 0
    P x = x.reply ≡ took n → Open r l

pub not-done : {X : Type 0} {n d : ℕ} → Reply.refused n d ≡ done → X
not-done q = absurd (let z : ◌≡◌ {A = ℕ} 0 1 = cc q in omega arith)

-- or is finished
pub done-open : (r : Stream) (l : Lent) → (finish r l).reply ≡ done → Open r l
unfolding finish checked
done-open r l =
    cond-by P (sizes_bad l) _ _ (λ _ q. not-done q) (λ a.
    cond-by P (state_bad r l) _ _ (λ _ q. not-done q) (λ b.
    cond-by P r.finished _ _ (λ _ q. not-done q) (λ c _. record { sizes-good = a; state-good = b; unfinished = c })))
  where
    P : Left → Type 0
    P x = x.reply ≡ done → Open r l

-- ---- what its tests say

window-large : (l : Lent) → sizes_bad l ≡ false → min_window ≤ length l.window
unfolding sizes_bad
window-large l h = ltb-false _ _ (neither (ltb (length l.window) min_window) _ h).0

pub ordered : (r : Stream) (l : Lent) → state_bad r l ≡ false → r.start ≤ r.end
unfolding state_bad
ordered r l h = ltb-false _ _ (neither (ltb r.end r.start) _ h).0

within : (r : Stream) (l : Lent) → state_bad r l ≡ false → r.end ≤ length l.window
unfolding state_bad
within r l h = ltb-false _ _ (neither (ltb (length l.window) r.end) _ (neither (ltb r.end r.start) _ h).1).0

passed-good : (r : Stream) (l : Lent) (from : ℕ) → from ≤ r.end → state_bad r l ≡ false → state_bad (passed r from) l ≡ false
unfolding state_bad
passed-good r l from h g = rw (le-ltb r.end from h) (neither (ltb r.end r.start) _ g).1

-- ---- a next that needs more

-- an event that is incomplete may still come
never : (is : Items) → outcome true is ≡ incomplete → ⊥
unfolding outcome
never (item i is) h = never is h
never (whole n true) h = let z : ◌≡◌ {A = ℕ} 0 1 = cc h in omega arith
never (whole n false) h = let z : ◌≡◌ {A = ℕ} 0 1 = cc h in omega arith
never (lacks k) h = let z : ◌≡◌ {A = ℕ} 0 1 = cc h in omega arith
never (stops n d) h = let z : ◌≡◌ {A = ℕ} 0 1 = cc h in omega arith

open_yet : (finished : Bool) (is : Items) → outcome finished is ≡ incomplete → finished ≡ false
open_yet false is h = refl
open_yet true is h = absurd (never is h)

-- it was not finished, and is open still, with room in the window
pub record Needs (r : Stream) (x : Left) : Type 0 where
  pub unfinished : r.finished ≡ false
  pub still-open : Open x.stream x.lent
  pub room : x.stream.end - x.stream.start < length x.lent.window

not-needed : {X : Type 0} {n d : ℕ} → Reply.refused n d ≡ need_more → X
not-needed q = absurd (let z : ◌≡◌ {A = ℕ} 0 1 = cc q in omega arith)

sizes-seen : (r : Stream) (l : Lent) (rows : List ℕ) (x : Left) → (checked r l rows x).reply ≡ need_more → (sizes_bad l ≡ false) × (state_bad r l ≡ false)
unfolding checked
sizes-seen r l rows x =
    cond-by P (sizes_bad l) _ _ (λ _ q. not-needed q) (λ a.
    cond-by P (state_bad r l) _ _ (λ _ q. not-needed q) (λ b _. (a, b)))
  where
    P : Left → Type 0
    P y = y.reply ≡ need_more → (sizes_bad l ≡ false) × (state_bad r l ≡ false)

pub needs : (r : Stream) (l : Lent) (rows : List ℕ) → (next r l rows).reply ≡ need_more → Needs r (next r l rows)
unfolding next given
needs r l rows q =
    next-by P r l rows (λ _ _ h. not-needed h) (λ _. from r.start in-order)
    (λ _ f few _. record {
      unfinished = f;
      still-open = record { sizes-good = good.0; state-good = good.1; unfinished = f };
      room = omega (arith, few, window-large l good.0);
    })
    (λ _ four _. from (r.start + 4) (omega (arith, four, in-order)))
    q
  where
    P : Left → Type 0
    P x = x.reply ≡ need_more → Needs r x

    good : (sizes_bad l ≡ false) × (state_bad r l ≡ false)
    good = sizes-seen r l rows _ q

    in-order : r.start ≤ r.end
    in-order = ordered r l good.1

    from : (at : ℕ) → at ≤ r.end → P (next_from r l rows at)
    from at h =
        next_from-by P r l rows (λ _ _ k. not-needed k) at
        (λ _ _ k. absurd (let z : ◌≡◌ {A = ℕ} 0 1 = cc k in omega arith))
        (λ o full _.
        let f : r.finished ≡ false = open_yet r.finished _ o in
        record {
          unfinished = f;
          still-open = record { sizes-good = good.0; state-good = passed-good r l at h good.1; unfinished = f };
          room = omega (arith, eqb-false (r.end - at) (length l.window) full, within r l good.1);
        })
        (λ _ _ _ _ _ _ k. absurd (let z : ◌≡◌ {A = ℕ} 0 1 = cc k in omega arith))
