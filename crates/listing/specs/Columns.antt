-- A row's columns, by what the code knows of its name and its value: bytes, or that there are none.
use Rattle.std.specs.Prelude.{false, true, List, [], ◌∷◌, ◌++◌, ℕ, ◌<◌, length, Option, Some, None}
use Rattle.std.specs.Borrow.{Bor}
use Rattle.listing.specs.Text.{newline, space, decimal, field}
use Rattle.listing.specs.Line.{type_text}

abbrev pub shown : Option (Bor (List ℕ)) → List ℕ
shown None = field false []
shown (Some s) = field true s.now

-- bytes of a span, so that twice their number fits
abbrev pub IsShort : Option (Bor (List ℕ)) → Type 0
IsShort None = Unit {0}
IsShort (Some s) = length s.now < 4_294_967_296

unfoldable pub columns_shown : ℕ → List ℕ → ℕ → List ℕ → List ℕ
columns_shown kind name type value = decimal kind ++ (space ∷ name) ++ (space ∷ type_text kind type) ++ (space ∷ value) ++ (newline ∷ [])
