-- What the grammar is to read of a written document: exactly the events that were written, with the lengths that they have, and then the end.
use Rattle.std.specs.Prelude.{List, [], ◌∷◌, length}
use Rattle.event.specs.Row.{Event}
use Rattle.grammar.specs.Document.{Pool, Reading, reads, ended}
use Rattle.writer_spec.specs.Encode.{keep_rows, rows_bytes}

-- these events, each with the length that the writer gives it after the names of those before it, and then the end
unfoldable pub as_written : Pool → List Event → Reading
as_written pool [] = ended pool
as_written pool (e ∷ es) = reads e (length (rows_bytes pool e)) (as_written (keep_rows pool e) es)
