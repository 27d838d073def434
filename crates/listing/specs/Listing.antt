-- The listing of a document: what the grammar reads of it, line by line.
use Rattle.std.specs.Prelude.{List, [], ◌∷◌, ◌++◌, ℕ, suc}
use Rattle.event.specs.Row.{Row}
use Rattle.grammar.specs.Document.{Reading, reads, ended, stopped, read}
use Rattle.listing.specs.Line.{line, end_line, refused_line}

unfoldable pub lines : List Row → List ℕ
lines [] = []
lines (r ∷ rs) = line r ++ lines rs

-- of a reading, after so many events
unfoldable pub listing_from : ℕ → Reading → List ℕ
listing_from events (reads e n r) = lines e ++ listing_from (suc events) r
listing_from events (ended pool) = end_line events
listing_from events (stopped number detail) = refused_line number detail

unfoldable pub listing : List ℕ → List ℕ
listing document = listing_from 0 (read document)
