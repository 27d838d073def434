-- What the two passes of a call carry from row to row.
use Rattle.std.specs.Prelude.{Bool, true, false, not, cond, List, [], ◌∷◌, ◌++◌, ◌≡◌, ℕ, ◌+◌, ◌*◌, ◌≤◌, ◌<◌, ltb, eqb, length, get_or, take, Result, Ok, Err, Some, None}
use Rattle.std.specs.Prelude as Code
use Rattle.std.proofs.Math.Option.{Option, none, some}
use Rattle.wire.specs.Refusal.{bad_size, bad_state, not_rows, pool_full, output_full}
use Rattle.wire.specs.Token.{attribute, start_tag, text, null, string_interned}
use Rattle.event.specs.Row.{Row, has_name}
use Rattle.grammar.specs.Grammar.{most}
use Rattle.grammar.specs.Document.{Pool}
use Rattle.writer_spec.specs.Encode.{find, name_by, name_bytes, keep, value_bytes, token_type, row_bytes, keep_row, rows_bytes, keep_rows}
use Rattle.writer_spec.specs.Faults.{string_fault}
use Rattle.writer_spec.specs.Writer.{Writer, Lent, Refusal, sizes_bad, state_bad, ◌before◌, refuse_if, pool_at, meets_bad, row_refusal, rows_refusal, rows_in, write}
use Rattle.writer.specs.Answers.{lent_of, state_of, left_of, forms_by, known_of}
use Rattle.writer.specs.Notes.{Noted, Unnoted}
use Rattle.wire.specs.Answers.{number_of, detail_of}
use Rattle.wire.specs.declared.Refusal as Wire
use Rattle.writer.specs.declared.Writer as Declared
use Rattle.writer.specs.declared.Stop.{Stop}
use Rattle.writer.specs.declared.Stop.TheVariants.{Refused, Crowded}
use Rattle.writer.specs.declared.measure.Tally.{Tally}
use Rattle.writer.specs.declared.measure.NameSize.{NameSize}

-- ---- rooms and places

-- the lengths that `room_refusal` compares
unfoldable pub room_of : ℕ → ℕ → ℕ → ℕ → Refusal
room_of output table at names = refuse_if (ltb table (2 * names)) pool_full before refuse_if (ltb output at) output_full

-- a place past the end is one past it: it stays refused, and no sum grows without bound
unfoldable pub capped : ℕ → ℕ → ℕ
capped limit at = cond (ltb limit at) (limit + 1) at

-- an event ends before the row at a place of the words
unfoldable pub ends_at : List ℕ → ℕ → Bool
ends_at rows at = cond (ltb at (length rows)) (not (eqb (get_or rows at 0) attribute)) true

-- the words of notes for every name that a pool can hold
abbrev pub most-notes : ℕ
most-notes = 327_675

-- a number of slots
pub record Slots (size : ℕ) : Type 0 where
  pub some-slots : 0 < size
  pub few-slots : size < 65536

-- what is wrong with a name, and then with its search
abbrev pub name_refusal : (List ℕ → Bool) → List ℕ → Refusal
name_refusal bad n = string_fault n before refuse_if (bad n) bad_state

-- what refuses a call before its rows are looked at: 17, 19, 16
unfoldable pub call_fault : Bool → Writer → Lent → Refusal
call_fault formed w l = refuse_if (sizes_bad l) bad_size before refuse_if (state_bad w l) bad_state before refuse_if (not formed) not_rows

-- ---- measuring

-- what has been measured after a row, or why it stops
abbrev pub tally_of : Result Unit Stop → Tally → Result Tally Stop
tally_of (Ok _) t = Ok t
tally_of (Err s) t = Err s

module _ (first second : List ℕ) where
  -- a name that has no note is not in the pool, and will not be
  abbrev pub Settled : Pool → List ℕ → List ℕ → Type 0
  Settled pool notes n = Unnoted first second notes n → (find pool n ≡ none) × (most ≤ length pool)

  abbrev pub AllSettled : Pool → List ℕ → List Row → Type 0
  AllSettled pool notes [] = Unit {0}
  AllSettled pool notes (r ∷ rs) = (has_name r.kind ≡ true → Settled pool notes r.name) × AllSettled pool notes rs

-- what the notes say, of a call that found this output and table with so many names
module _ (first second output table : List ℕ) (kept : ℕ) where
  abbrev pub bad : List ℕ → Bool
  bad = meets_bad output kept table

  abbrev pub found : Pool
  found = pool_at output kept table

  abbrev pub Known : Pool → List ℕ → List ℕ → Type 0
  Known pool notes heads = Noted first second bad found pool notes heads

  -- so many names, and the notes say where they are
  abbrev pub Kept : ℕ → List ℕ → List ℕ → Type 0
  Kept names notes heads = (pool : Pool) × (length pool ≡ names) × (length pool ≤ most) × Known pool notes heads

  -- the notes after others: they know the pool after, and are of the same names and more
  pub record More (pool : Pool) (notes notes' heads' : List ℕ) : Type 0 where
    pub knows : Known pool notes' heads'
    pub still : (n : List ℕ) → Unnoted first second notes' n → Unnoted first second notes n

  -- a name takes so many bytes
  pub record NameTakes (pool : Pool) (n : List ℕ) (size names' : ℕ) (notes notes' heads' : List ℕ) : Type 0 where
    pub passes : name_refusal bad n ≡ none
    pub size_is : size ≡ length (name_bytes pool n)
    pub names-are : names' ≡ length (keep pool n)
    pub more : More (keep pool n) notes notes' heads'
    pub settled : Settled first second (keep pool n) notes' n

  abbrev pub NameSays : Pool → List ℕ → ℕ → List ℕ → List ℕ → List ℕ → Result NameSize Stop → Type 0
  NameSays pool n used notes notes' heads' (Ok s) =
      (s.used ≤ length notes') × NameTakes pool n s.size s.names (take used notes) (take s.used notes') heads'
  NameSays pool n used notes notes' heads' (Err (Refused r)) = name_refusal bad n ≡ some (number_of r, detail_of r)
  NameSays pool n used notes notes' heads' (Err Crowded) = length notes' < most-notes

  abbrev pub NameMeasured : ℕ → List ℕ → ℕ → List ℕ → List ℕ → List ℕ → List ℕ → Result NameSize Stop → Type 0
  NameMeasured names n used notes heads notes' heads' s =
      (pool : Pool) → length pool ≡ names → Known pool (take used notes) heads → NameSays pool n used notes notes' heads' s

  -- the same of a row's name, of which there may be none
  pub record RowNamed (pool : Pool) (r : Row) (size names' : ℕ) (notes notes' heads' : List ℕ) : Type 0 where
    pub passes : cond (has_name r.kind) (name_refusal bad r.name) none ≡ none
    pub size_is : size ≡ length (cond (has_name r.kind) (name_bytes pool r.name) [])
    pub names-are : names' ≡ length (keep_row pool r)
    pub more : More (keep_row pool r) notes notes' heads'
    pub settled : has_name r.kind ≡ true → Settled first second (keep_row pool r) notes' r.name

  abbrev pub RowNameSays : Pool → Row → ℕ → List ℕ → List ℕ → List ℕ → Result NameSize Stop → Type 0
  RowNameSays pool r used notes notes' heads' (Ok s) =
      (s.used ≤ length notes') × RowNamed pool r s.size s.names (take used notes) (take s.used notes') heads'
  RowNameSays pool r used notes notes' heads' (Err (Refused s)) =
      cond (has_name r.kind) (name_refusal bad r.name) none ≡ some (number_of s, detail_of s)
  RowNameSays pool r used notes notes' heads' (Err Crowded) = length notes' < most-notes

  abbrev pub RowNameMeasured : ℕ → Row → ℕ → List ℕ → List ℕ → List ℕ → List ℕ → Result NameSize Stop → Type 0
  RowNameMeasured names r used notes heads notes' heads' s =
      (pool : Pool) → length pool ≡ names → Known pool (take used notes) heads → RowNameSays pool r used notes notes' heads' s

  -- and of a whole row, from a place on
  pub record RowTakes (pool : Pool) (r : Row) (at at' names' : ℕ) (notes notes' heads' : List ℕ) : Type 0 where
    pub passes : row_refusal bad r ≡ none
    pub at-is : at' ≡ capped (length output) (at + length (row_bytes pool r))
    pub names-are : names' ≡ length (keep_row pool r)
    pub more : More (keep_row pool r) notes notes' heads'
    pub settled : has_name r.kind ≡ true → Settled first second (keep_row pool r) notes' r.name

  abbrev pub RowSays : Pool → Row → Tally → List ℕ → List ℕ → List ℕ → Result Tally Stop → Type 0
  RowSays pool r t notes notes' heads' (Ok u) =
      (u.used ≤ length notes') × RowTakes pool r t.at u.at u.names (take t.used notes) (take u.used notes') heads'
  RowSays pool r t notes notes' heads' (Err (Refused s)) = row_refusal bad r ≡ some (number_of s, detail_of s)
  RowSays pool r t notes notes' heads' (Err Crowded) = length notes' < most-notes

  abbrev pub RowMeasured : Row → Tally → List ℕ → List ℕ → List ℕ → List ℕ → Result Tally Stop → Type 0
  RowMeasured r t notes heads notes' heads' s =
      (pool : Pool) → length pool ≡ t.names → Known pool (take t.used notes) heads → RowSays pool r t notes notes' heads' s

  -- all rows are measured
  abbrev pub MeasureSays : ℕ → List Row → List ℕ → List ℕ → Result ℕ Stop → Type 0
  MeasureSays written rs notes' heads' (Ok used) =
      (used ≤ length notes') × (rows_refusal (lent_of output table) bad written found rs ≡ none)
      × Known (keep_rows found rs) (take used notes') heads' × AllSettled first second (keep_rows found rs) (take used notes') rs
  MeasureSays written rs notes' heads' (Err (Refused r)) = rows_refusal (lent_of output table) bad written found rs ≡ some (number_of r, detail_of r)
  MeasureSays written rs notes' heads' (Err Crowded) = length notes' < most-notes

-- ---- tries

-- What a try with room for so many words of notes says. None: it was crowded, nothing has changed, and there was not room for all.
abbrev pub Tried : Bool → Writer → Lent → List Row → List ℕ → List ℕ → ℕ → Code.Option (Result Declared.Writer Wire.Refusal) → Type 0
Tried formed w l rs output table size (Some r) = left_of r output table ≡ write formed w l rs
Tried formed w l rs output table size None = (lent_of output table ≡ l) × (size < most-notes)

-- the same by a call's arguments: what its output and its table hold first, and what they hold then
abbrev pub TriedBy : Bool → Declared.Writer → List ℕ → List ℕ → List ℕ → List ℕ → List ℕ → List ℕ → List ℕ → ℕ → Code.Option (Result Declared.Writer Wire.Refusal) → Type 0
TriedBy single writer first second rows output table output' table' size r =
    Tried (forms_by single first second rows) (state_of writer) (lent_of output table) (rows_in first second rows) output' table' size r

-- what is left by a call that is never crowded
abbrev pub WrittenBy : Bool → Declared.Writer → List ℕ → List ℕ → List ℕ → List ℕ → List ℕ → List ℕ → List ℕ → Result Declared.Writer Wire.Refusal → Type 0
WrittenBy single writer first second rows output table output' table' r =
    left_of r output' table' ≡ write (forms_by single first second rows) (state_of writer) (lent_of output table) (rows_in first second rows)

-- ---- writing

-- what must hold when the second pass begins: room for all of it, and notes that know the pool after it
pub record Ready (first second output table : List ℕ) (kept written : ℕ) (rs : List Row) (notes heads : List ℕ) : Type 0 where
  pub bytes_fit : written + length (rows_bytes (found first second output table kept) rs) ≤ length output
  pub pairs-fit : 2 * length (keep_rows (found first second output table kept) rs) ≤ length table
  pub knows : Known first second output table kept (keep_rows (found first second output table kept) rs) notes heads
  pub settled : AllSettled first second (keep_rows (found first second output table kept) rs) notes rs

-- the name's place in a pool, of which more names come after
abbrev pub KnownSays : List ℕ → List ℕ → List ℕ → List ℕ → ℕ → Row → Code.Option ℕ → Type 0
KnownSays first second notes heads names r k =
    (bad : List ℕ → Bool) (pool₀ pool more : Pool) → length pool ≡ names → Noted first second bad pool₀ (pool ++ more) notes heads
    → (has_name r.kind ≡ true → Settled first second (pool ++ more) notes r.name) → known_of k ≡ cond (has_name r.kind) (find pool r.name) none

-- a row's name by its place in the pool, and the row
unfoldable pub named_by : Option ℕ → Row → List ℕ
named_by o r = cond (has_name r.kind) (name_by r.name o) []

unfoldable pub row_by : Option ℕ → Row → List ℕ
row_by o r = (token_type r * 16 + r.kind) ∷ (named_by o r ++ value_bytes r.value)

-- the token by the row's words
unfoldable pub token_in : List ℕ → ℕ
token_in w = cond (ltb (get_or w 0 0) start_tag) null (cond (ltb (get_or w 0 0) text) string_interned (get_or w 4 0)) * 16 + get_or w 0 0

-- whether its name joins a pool of so many, and with which pair
unfoldable pub joins_by : Option ℕ → Row → ℕ → Bool
joins_by (some i) r names = false
joins_by none r names = cond (has_name r.kind) (ltb names most) false

unfoldable pub pairs_by : Option ℕ → Row → ℕ → ℕ → List ℕ
pairs_by o r names at = cond (joins_by o r names) ((at + 5) ∷ length r.name ∷ []) []
