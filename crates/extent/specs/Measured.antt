-- What the first pass tells.
use Rattle.std.specs.Prelude.{Bool, cond, List, ℕ, ◌*◌, ltb, length}
use Rattle.wire.specs.Limits.{max_store}
use Rattle.wire.specs.Refusal.{bad_size, bad_state}
use Rattle.grammar.specs.Grammar.{event}
use Rattle.grammar.specs.Scan.{sound, Measure, measure, bad}

abbrev pub unmeasured : ℕ → Measure
unmeasured n = record { rows = 0; added = 0; bytes = 0; result = bad n 0 }

-- 17, then 19, then the event that stands in s, for a pool of so many names, which lie in a store of so many bytes
unfoldable pub measured : Bool → ℕ → ℕ → List ℕ → List ℕ → Measure
measured finished names stored table s =
    cond (ltb max_store (length s)) (unmeasured bad_size)
    (cond (ltb (length table) (2 * names)) (unmeasured bad_state) (measure finished names (event (sound names table stored) names s)))
