-- How the reading of an event, or of a part of it, ended.
use Rattle.std.specs.Prelude.{Bool, ◌≡◌, ℕ}
use Rattle.grammar.specs.Grammar.{Items, item, whole, lacks, stops}

-- it was read whole
abbrev pub Ended : Items → Type 0
Ended (item i is) = Ended is
Ended (whole n e) = Unit {0}
Ended (lacks k) = ⊥
Ended (stops n d) = ⊥

-- an event's reading ended whole, at a place n, and e says whether the input ends there
abbrev pub Ends : ℕ → Bool → Items → Type 0
Ends n e (item i is) = Ends n e is
Ends n e (whole m d) = (m ≡ n) × (d ≡ e)
Ends n e (lacks k) = ⊥
Ends n e (stops m d) = ⊥
