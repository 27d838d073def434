-- What the grammar reads of a document: its events, with the pool's names as bytes.
use Rattle.std.specs.Prelude.{Bool, true, false, cond, List, [], ◌∷◌, ◌++◌, ◌⊎◌, ◌≡◌, ℕ, zero, suc, ◌+◌, ◌≤◌, length, get_or, take, drop, ltb, eqb}
use Rattle.std.proofs.Math.Option.{Option, none, some}
use Rattle.event.specs.Row.{Row, Event}
use Rattle.grammar.specs.Grammar.{Span, Ref, new, known, Value, Item, Items, item, whole, lacks, stops, most, event}
use Rattle.wire.specs.Refusal.{header_short, unexpected_eof, bytes_short, bad_interned_index, unknown_command}
use Rattle.wire.specs.Header.{header, Check}
use Rattle.wire.specs.Header as Header
use Rattle.wire.specs.Token as Token
use Rattle.event.specs.Row as Row

-- the names read so far, first to last
abbrev pub Pool : Type 0
Pool = List (List ℕ)

-- the bytes of a pool's names, counted
abbrev pub pool_bytes : Pool → ℕ
pool_bytes [] = 0
pool_bytes (n ∷ pool) = length n + pool_bytes pool

unfoldable pub bytes_at : List ℕ → Span → List ℕ
bytes_at s t = take t.len (drop t.start s)

unfoldable pub ref_bytes : List ℕ → Pool → Ref → List ℕ
ref_bytes s pool (new t) = bytes_at s t
ref_bytes s pool (known i) = get_or pool i []

-- the pool after a name
unfoldable pub keep : List ℕ → Pool → Ref → Pool
keep s pool (new t) = cond (ltb (length pool) most) (pool ++ (bytes_at s t ∷ [])) pool
keep s pool (known i) = pool

-- a name's bytes, none where the row has no name
unfoldable pub name_bytes : List ℕ → Pool → Option Ref → List ℕ
name_bytes s pool none = []
name_bytes s pool (some r) = ref_bytes s pool r

unfoldable pub keep_name : List ℕ → Pool → Option Ref → Pool
keep_name s pool none = pool
keep_name s pool (some r) = keep s pool r

unfoldable pub value_of : List ℕ → Pool → Value → Row.Value
value_of s pool Value.nothing = Row.nothing
value_of s pool Value.empty = Row.bytes []
value_of s pool (Value.span t) = Row.bytes (bytes_at s t)
value_of s pool (Value.interned r) = Row.bytes (ref_bytes s pool r)
value_of s pool (Value.word w) = Row.word w
value_of s pool (Value.pair h l) = Row.pair h l

unfoldable pub keep_value : List ℕ → Pool → Value → Pool
keep_value s pool Value.nothing = pool
keep_value s pool Value.empty = pool
keep_value s pool (Value.span t) = pool
keep_value s pool (Value.interned r) = keep s pool r
keep_value s pool (Value.word w) = pool
keep_value s pool (Value.pair h l) = pool

-- an interned string counts as a string once it is read
unfoldable pub type_of : ℕ → ℕ
type_of type = cond (eqb type Token.string_interned) Token.string type

unfoldable pub keep_item : List ℕ → Pool → Item → Pool
keep_item s pool i = keep_value s (keep_name s pool i.name) i.value

unfoldable pub row_of : List ℕ → Pool → Item → Row
row_of s pool i =
    record {
      kind = i.kind;
      name = name_bytes s pool i.name;
      type = type_of i.type;
      value = value_of s (keep_name s pool i.name) i.value;
    }

-- reading one event: the event, its length and the pool after it; or a refusal, with its number and detail
pub data One : Type 0 where
  one : Event → ℕ → Pool → One
  refused : ℕ → ℕ → One

-- an event's rows, and the pool after it: each row's names join the pool before the next row
unfoldable pub rows_of : List ℕ → Pool → Items → Event
rows_of s pool (item i is) = row_of s pool i ∷ rows_of s (keep_item s pool i) is
rows_of s pool (whole n e) = []
rows_of s pool (lacks k) = []
rows_of s pool (stops n d) = []

unfoldable pub pool_of : List ℕ → Pool → Items → Pool
pool_of s pool (item i is) = pool_of s (keep_item s pool i) is
pool_of s pool (whole n e) = pool
pool_of s pool (lacks k) = pool
pool_of s pool (stops n d) = pool

-- by how the reading of an event ended; no more bytes will come
unfoldable pub ending : Event → Pool → Items → One
ending rows pool (item i is) = ending rows pool is
ending rows pool (whole n e) = one rows n pool
ending rows pool (lacks k) = refused k 0
ending rows pool (stops n d) = refused n d

-- every entry of a pool of names is at hand
abbrev pub all : ℕ → Bool
all i = true

unfoldable pub read_one : Pool → List ℕ → One
read_one pool s =
    let is : Items = event all (length pool) s in
    ending (rows_of s pool is) (pool_of s pool is) is

-- a document's events with their lengths, and how its reading ends: at the end, with this pool, or by a refusal
pub data Reading : Type 0 where
  reads : Event → ℕ → Reading → Reading
  ended : Pool → Reading
  stopped : ℕ → ℕ → Reading

abbrev pub then_reading : One → (Pool → ℕ → Reading) → Reading
then_reading (one e n p) k = reads e n (k p n)
then_reading (refused n d) k = stopped n d

unfoldable pub read_f : ℕ → Pool → List ℕ → Reading
read_f zero pool s = ended pool
read_f (suc f) pool [] = ended pool
read_f (suc f) pool (b ∷ s) = then_reading (read_one pool (b ∷ s)) (λ p n. read_f f p (drop n (b ∷ s)))

-- what follows the header, unless that is refused
abbrev pub past_header : Check → Reading → Reading
past_header Header.passed r = r
past_header (Header.refused n d) r = stopped n d

-- what the grammar reads of a document
unfoldable pub read : List ℕ → Reading
read s = past_header (header s) (read_f (length s) [] (drop 4 s))

unfoldable pub events : Reading → List Event
events (reads e n r) = e ∷ events r
events (ended p) = []
events (stopped n d) = []

unfoldable pub sizes : Reading → List ℕ
sizes (reads e n r) = n ∷ sizes r
sizes (ended p) = []
sizes (stopped n d) = []

-- the pool at the end of a document that is read to its end
unfoldable pub last_pool : Reading → Option Pool
last_pool (reads e n r) = last_pool r
last_pool (ended p) = some p
last_pool (stopped n d) = none

-- lengths added up
unfoldable pub total : List ℕ → ℕ
total [] = 0
total (n ∷ ns) = n + total ns

-- ---- what is said of a reading

-- what is left of a reading after so many events
abbrev pub left : ℕ → Reading → Reading
left zero r = r
left (suc k) (reads e n r) = left k r
left (suc k) (ended p) = ended p
left (suc k) (stopped n d) = stopped n d

-- the pool after the events of a reading of s, whether it ends or stops
unfoldable pub names_from : Reading → Pool → List ℕ → Pool
names_from (reads e n r) pool s = names_from r (pool_of s pool (event all (length pool) s)) (drop n s)
names_from (ended p) pool s = pool
names_from (stopped n d) pool s = pool

-- after those of a document
unfoldable pub names_of : List ℕ → Pool
names_of s = names_from (read s) [] (drop 4 s)

-- how the bytes may go on: in any way, or, once no more will come, in none
abbrev pub Open : Bool → List ℕ → Type 0
Open true u = u ≡ []
Open false u = Unit {0}

-- the refusals of an event that lacks bytes, and those that stay, whatever follows
abbrev pub Short : ℕ → Type 0
Short n = (unexpected_eof ≤ n) × (n ≤ bytes_short)

abbrev pub Lasting : ℕ → Type 0
Lasting n = (bad_interned_index ≤ n) × (n ≤ unknown_command)

-- an event that is a start tag
abbrev pub IsTag : Event → Type 0
IsTag [] = ⊥
IsTag (r ∷ rs) = r.kind ≡ Token.start_tag

-- what is left to read of k bytes is: nothing, of none; a start tag that takes them all; or a header or an event that lacks bytes
abbrev pub Last : ℕ → Reading → Type 0
Last k (ended p) = k ≡ 0
Last k (reads e n r) = (n ≡ k) × ((p : Pool) × (r ≡ ended p)) × IsTag e
Last k (stopped n d) = ((n ≡ header_short) ⊎ Short n) × (d ≡ 0)
