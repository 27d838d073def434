-- What a search of the pool finds.
use Rattle.std.specs.Prelude.{cond, List, ℕ, Result, Ok, Err, Some, None}
use Rattle.std.specs.Prelude as Code
use Rattle.std.proofs.Math.Option.{Option, none, some}
use Rattle.writer_spec.specs.Encode.{find}
use Rattle.writer_spec.specs.Writer.{pool_at, meets_bad}
use Rattle.pool_search.specs.declared.BadPair.{BadPair}

-- the place of the first equal entry; nothing at all where the search is refused
unfoldable pub searched : List ℕ → ℕ → List ℕ → List ℕ → Option (Option ℕ)
searched output n pairs name = cond (meets_bad output n pairs name) none (some (find (pool_at output n pairs) name))

abbrev pub found_of : Result (Code.Option ℕ) BadPair → Option (Option ℕ)
found_of (Ok (Some i)) = some (some i)
found_of (Ok None) = some none
found_of (Err _) = none
