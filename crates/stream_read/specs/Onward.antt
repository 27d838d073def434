-- What a read gives a reader.
use Rattle.std.specs.Prelude.{List, [], ◌≡◌, ◌⊎◌, ℕ, ◌-◌, ◌<◌, length, Option, Result, Ok, Err}
use Rattle.std.specs.Io.KnownBytes.{Consumes, Keeps, IsAtEnd}
use Rattle.stream_spec.specs.Stream.{Lent, feed, finish}
use Rattle.stream.specs.Answers.{stream_of, fed_of, closed_of}
use Rattle.stream.specs.declared.Stream as Coded
use Rattle.stream_read.specs.declared.ReadError.{ReadError}
use Rattle.stream_read.specs.declared.ReadError.TheVariants.{Refused, Failed}

module _ (old new : Option (List ℕ)) (r : Coded.Stream) (l l' : Lent) where
  -- the reader is fed the bytes that were read, and none is lost; or it is finished, where none came: that is the input's end, unless the
  -- window had no room
  abbrev pub Onward : Result Coded.Stream ReadError → Type 0
  Onward (Ok s) =
      (Consumes old new [] × (closed_of r l' (Ok s) ≡ finish (stream_of r) l) × (r.end - r.start < length l.window → IsAtEnd new))
      ⊎ ((chunk : List ℕ) × Consumes old new chunk × (0 < length chunk) × (fed_of r l' (Ok (record { count = length chunk; stream = s })) ≡ feed (stream_of r) l chunk))
  Onward (Err (Refused e)) =
      (Consumes old new [] × (closed_of r l' (Err e) ≡ finish (stream_of r) l))
      ⊎ ((chunk : List ℕ) × Consumes old new chunk × (fed_of r l' (Err e) ≡ feed (stream_of r) l chunk))
  Onward (Err Failed) = Keeps old new × (l' ≡ l)
