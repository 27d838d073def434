-- What the next event over an input is, and what it leaves, by the bytes that were read.
use Rattle.std.specs.Prelude.{List, [], ◌∷◌, ◌++◌, ◌≡◌, ℕ, Contains, Option, None, Some, Result, Ok, Err, length}
use Rattle.std.specs.Io.KnownBytes.{Consumes, IsAtEnd}
use Rattle.wire.specs.Answers.{number_of, detail_of}
use Rattle.stream_spec.specs.Stream.{Stream, Lent, Left, Reply, took, done, gives, need_more, end, feed, finish, next}
use Rattle.stream.specs.Answers.{stream_of, left}
use Rattle.stream.specs.declared.Stream as Coded
use Rattle.stream_read.specs.declared.Event.{Event}
use Rattle.stream_read.specs.declared.ReadError.{ReadError}
use Rattle.stream_read.specs.declared.ReadError.TheVariants.{Refused, Failed}

-- a reader is fed what a read gave, or finished where it gave nothing
abbrev pub read : Stream → Lent → List ℕ → Left
read r l [] = finish r l
read r l (b ∷ chunk) = feed r l (b ∷ chunk)

-- no byte of it is lost
abbrev pub taken : List ℕ → Reply
taken [] = done
taken (b ∷ chunk) = took (length (b ∷ chunk))

-- next, and as long as it needs more, a read and next again. Each read gave one chunk, and there is none that next did not ask for.
abbrev pub Fetched : List (List ℕ) → Stream → Lent → List ℕ → Left → Type 0
Fetched [] r l rows x = x ≡ next r l rows
Fetched (chunk ∷ chunks) r l rows x =
    let y : Left = next r l rows in
    let z : Left = read y.stream y.lent chunk in
    (y.reply ≡ need_more) × (z.reply ≡ taken chunk) × Fetched chunks z.stream z.lent y.rows x

-- an answer in the words of next. Only an event hands its reader back: after another answer it is `r`. An input that can't be read
-- leaves a next that needs more.
abbrev pub found_of : Coded.Stream → Lent → List ℕ → Result (Option Event) ReadError → Left
found_of r l rows (Ok (Some e)) = left e.reader l rows (gives e.rows)
found_of r l rows (Ok None) = left r l rows end
found_of r l rows (Err (Refused e)) = left r l rows (Reply.refused (number_of e) (detail_of e))
found_of r l rows (Err Failed) = left r l rows need_more

abbrev pub joined : List (List ℕ) → List ℕ
joined [] = []
joined (chunk ∷ chunks) = chunk ++ joined chunks

-- the chunks are the input's next bytes, and nothing is read only at its end
pub record Fetches (old new : Option (List ℕ)) (start : Coded.Stream) (l l' : Lent) (rows rows' : List ℕ) (result : Result (Option Event) ReadError) : Type 0 where
  pub chunks : List (List ℕ)
  pub reader : Coded.Stream
  pub consumed : Consumes old new (joined chunks)
  pub ended : Contains chunks [] → IsAtEnd new
  pub fetched : Fetched chunks (stream_of start) l rows (found_of reader l' rows' result)
