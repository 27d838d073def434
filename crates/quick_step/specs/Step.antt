-- One event: read and, where there is room, written. The slice reader and the chunk reader share this step.
use Rattle.std.specs.Prelude.{Bool, Option, MatchOption, ◌||◌, ◌&&◌, cond, List, ◌≡◌, ℕ, ◌+◌, ◌*◌, ◌/◌, ◌<◌, length, ltb}
use Rattle.std.proofs.lemmas.List.Edits.{sets}
use Rattle.wire.specs.Refusal.{bad_size, bad_state, rows_full, pool_full, names_full}
use Rattle.wire.specs.Limits.{max_store}
use Rattle.grammar.specs.Grammar.{Span, Items, event}
use Rattle.grammar.specs.Scan.{sound, adds, lengths, pairs, copied_pairs, joined, count, words, Outcome, complete, incomplete, bad, outcome}
use Rattle.quick.specs.declared.Taken.{Taken}

-- an event of so many rows and bytes, which adds so many names of so many bytes; or more bytes are needed; or a refusal
pub data Reply : Type 0 where
  gives : ℕ → ℕ → ℕ → ℕ → Reply
  need_more : Reply
  refused : ℕ → ℕ → Reply

-- what a step leaves: its reply, and every lent word
pub record Left : Type 0 where
  pub reply : Reply
  pub table : List ℕ
  pub store : List ℕ
  pub rows : List ℕ

-- 17: the input's store, or the name store that names are copied to, is too long
unfoldable pub too_long : ℕ → ℕ → Bool → ℕ → Bool
too_long base len copied store = ltb max_store (base + len) || (copied && ltb max_store store)

-- 19: so many pairs are not in the table, or so many bytes not in the name store
unfoldable pub outside : ℕ → ℕ → Bool → ℕ → ℕ → Bool
outside words names copied used store = ltb words (2 * names) || (copied && ltb store used)

-- 17, then 19, or 0 where the event is looked at
unfoldable pub refused_first : ℕ → ℕ → Bool → ℕ → ℕ → ℕ → ℕ → ℕ
refused_first base len copied store words names used = cond (too_long base len copied store) bad_size (cond (outside words names copied used store) bad_state 0)

-- The input s stands in its store from `base` on. Where `copied`, the bytes of new names go to the name store, of which `used`
-- bytes are in use; else they stay where they are, and the name store is not looked at. `names` pairs of the table are names.
module _ (s : List ℕ) (base : ℕ) (finished copied : Bool) (names used : ℕ) (table store rows : List ℕ) where
  abbrev pub unchanged : Reply → Left
  unchanged q = record { reply = q; table = table; store = store; rows = rows }

  unfoldable pub written : Items → ℕ → List Span → Left
  written is n ts =
      let t : List ℕ = sets table (2 * names) (cond copied (copied_pairs used ts) (pairs base ts)) in
      record {
        reply = gives (count is) n (length ts) (lengths ts);
        table = t;
        store = cond copied (sets store used (joined s ts)) store;
        rows = sets rows 0 (words (cond copied 1 0) base t is);
      }

  -- 10, then 11, then 12
  unfoldable pub hand_out : Items → ℕ → List Span → Left
  hand_out is n ts =
      cond (ltb (length rows / 8) (count is)) (unchanged (refused rows_full 0))
      (cond (ltb (length table) (2 * (names + length ts))) (unchanged (refused pool_full 0))
      (cond (copied && ltb (length store) (used + lengths ts)) (unchanged (refused names_full 0)) (written is n ts)))

  unfoldable pub by_outcome : Items → Outcome → Left
  by_outcome is (complete n) = hand_out is n (adds names is)
  by_outcome is incomplete = unchanged need_more
  by_outcome is (bad n d) = unchanged (refused n d)

  -- 17, then 19, then the event; the pool's names lie in the name store, or where the event does
  unfoldable pub step : Left
  step =
      let is : Items = event (sound names table (cond copied (length store) (base + length s))) names s in
      cond (too_long base (length s) copied (length store)) (unchanged (refused bad_size 0))
      (cond (outside (length table) names copied used (length store)) (unchanged (refused bad_state 0))
      (by_outcome is (outcome finished is)))

-- ---- the quick way

-- an event was taken, and the step gives it, whether more bytes come or not
pub record StepsQuickly (s : List ℕ) (base : ℕ) (copied : Bool) (names used : ℕ) (table store rows rows' : List ℕ) (t : Taken) : Type 0 where
  pub long : 0 < t.len
  pub steps : (finished : Bool)
      → record { reply = gives t.rows t.len 0 0; table = table; store = store; rows = rows' } ≡ step s base finished copied names used table store rows

-- nothing was written, or such an event was
abbrev pub SteppedQuickly : List ℕ → ℕ → Bool → ℕ → ℕ → List ℕ → List ℕ → List ℕ → List ℕ → Option Taken → Type 0
SteppedQuickly s base copied names used table store rows rows' t = MatchOption t (rows' ≡ rows) (λ u. StepsQuickly s base copied names used table store rows rows' u)
