-- The code's answer in the terms of the step's definition, and what its two passes ask.
use Rattle.std.specs.Prelude.{Bool, true, cond, Option, Some, None, Result, Ok, Err, List, ◌≡◌, ℕ, ◌+◌, ◌*◌, ◌≤◌, length}
use Rattle.wire.specs.Limits.{max_store}
use Rattle.grammar.specs.Grammar.{Items, event}
use Rattle.grammar.specs.Scan.{sound, outcome}
use Rattle.quick_step.specs.Step.{Reply, gives, need_more, refused, Left, by_outcome}
use Rattle.wire.specs.declared.Refusal.{Refusal}
use Rattle.wire.specs.Answers.{number_of, detail_of}
use Rattle.scanner.specs.declared.Event.{Event}

abbrev pub reply_of : Result (Option Event) Refusal → Reply
reply_of (Ok (Some e)) = gives e.rows e.len e.added e.bytes
reply_of (Ok None) = need_more
reply_of (Err r) = refused (number_of r) (detail_of r)

abbrev pub step_of : List ℕ → List ℕ → List ℕ → Result (Option Event) Refusal → Left
step_of table store rows r = record { reply = reply_of r; table = table; store = store; rows = rows }

-- ---- the two passes, for a private function: what 17 and 19 leave, and what it then reads

pub record Placed (base : ℕ) (copied : Bool) (names used stored : ℕ) (s table store : List ℕ) : Type 0 where
  pub in-store : base + length s ≤ max_store
  pub names-fit : 2 * names ≤ length table
  pub used-fit : copied ≡ true → (used ≤ length store) × (length store ≤ max_store)
  pub stored_is : stored ≡ cond copied (length store) (base + length s)

unfoldable pub read_by : Bool → Bool → ℕ → ℕ → ℕ → List ℕ → List ℕ → List ℕ → List ℕ → Left
read_by finished copied base names used s table store rows =
    let is : Items = event (sound names table (cond copied (length store) (base + length s))) names s in
    by_outcome s base finished copied names used table store rows is (outcome finished is)
