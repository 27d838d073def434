-- The limits of what is lent and of what is written: document 01, "Refusals by place", 17 and 14.
use Rattle.std.specs.Prelude.{ℕ}

-- bytes of a document, an output or a name store
abbrev pub max_store : ℕ
max_store = 16_777_216

-- bytes of a window
abbrev pub min_window : ℕ
min_window = 64

abbrev pub max_window : ℕ
max_window = 1_048_576

-- words of a pool table: a pair for each name that an index can say
abbrev pub max_table : ℕ
max_table = 131_070

-- bytes of a string or a blob: its length is a u16
abbrev pub max_unsigned_short : ℕ
max_unsigned_short = 65_535
