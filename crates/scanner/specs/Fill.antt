-- What the second pass asks and promises: it reads again an event that was measured, keeps its new names and writes its rows.
use Rattle.std.specs.Prelude.{Bool, true, false, cond, List, [], ◌∷◌, ◌≡◌, ℕ, ◌+◌, ◌*◌, ◌≤◌, ◌<◌, eqb, length, get_or}
use Rattle.std.proofs.lemmas.List.Edits.{sets}
use Rattle.wire.specs.Limits.{max_store}
use Rattle.wire.specs.Token as Token
use Rattle.grammar.specs.Reader.{Read, got, short, refused}
use Rattle.grammar.specs.Grammar.{Span, Ref, Value, Item, Items, item, whole, after, event}
use Rattle.grammar.specs.Scan.{adds_ref, adds_value, adds_item, adds, lengths, pairs, copied_pairs, joined, count, ref_words, value_words, item_words, words}
use Rattle.grammar.specs.Fits.{ItemFits}
use Rattle.grammar.specs.Turn.{rest}
use Rattle.grammar.specs.Endings.{Ended}
use Rattle.grammar.specs.Trusted.{always}
use Rattle.scanner.specs.declared.fill.Home.{Home}
use Rattle.scanner.specs.declared.fill.Kept.{Kept}
use Rattle.quick.specs.Quick.{words_of}
use Rattle.scanner.specs.declared.fill.Filled.{Filled}
use Rattle.scanner.specs.declared.fill.Ahead.{Ahead}

-- ---- names

-- the source of a span that a pair of the table names
abbrev pub pooled_in : Home → ℕ
pooled_in h = cond h.copied 1 0

-- the pairs of new names, and the name store with their bytes, of which so many are used before
abbrev pub kept_pairs : Home → ℕ → List Span → List ℕ
kept_pairs h used ts = cond h.copied (copied_pairs used ts) (pairs h.base ts)

abbrev pub kept_bytes : Home → List ℕ → ℕ → List ℕ → List Span → List ℕ
kept_bytes h s used store ts = cond h.copied (sets store used (joined s ts)) store

-- there is room for these names
pub record Room (h : Home) (k : Kept) (ts : List Span) (table store : List ℕ) : Type 0 where
  pub pairs-fit : 2 * (k.names + length ts) ≤ length table
  pub bytes_fit : h.copied ≡ true → (k.used + lengths ts ≤ length store) × (length store ≤ max_store)

-- they were kept
pub record Keeps (h : Home) (s : List ℕ) (k : Kept) (ts : List Span) (table table' store store' : List ℕ) (k' : Kept) : Type 0 where
  pub table_is : table' ≡ sets table (2 * k.names) (kept_pairs h k.used ts)
  pub store_is : store' ≡ kept_bytes h s k.used store ts
  pub names-are : k'.names ≡ k.names + length ts
  pub used-is : h.copied ≡ true → k'.used ≡ k.used + lengths ts

-- ---- what was read before

-- it was read, and is so
abbrev pub Has : {A : Type 0} → (A → Type 0) → Read A → Type 0
Has P (got a n) = P a
Has P (short k) = ⊥
Has P (refused n d) = ⊥

-- if it was read, it is so
abbrev pub Once : {A : Type 0} → (A → ℕ → Type 0) → Read A → Type 0
Once P (got a n) = P a n
Once P (short k) = Unit {0}
Once P (refused n d) = Unit {0}

-- a place of an input, which stands in its store from `base` on
pub record Within (s : List ℕ) (at base : ℕ) : Type 0 where
  pub inside : at ≤ length s
  pub in-store : base + length s ≤ max_store

-- ---- fields

-- these words, up to this place; these names were kept
pub record FilledBy (h : Home) (s : List ℕ) (k : Kept) (ws : List ℕ) (ts : List Span) (place : ℕ) (table table' store store' : List ℕ) (f : Filled) : Type 0 where
  pub said : words_of f.words ≡ ws
  pub moved : f.next ≡ place
  pub keeps : Keeps h s k ts table table' store store' f.kept

-- a span, which is no name
pub record SpanFilled (base : ℕ) (k : Kept) (f : Filled) (t : Span) (n : ℕ) : Type 0 where
  pub said : words_of f.words ≡ 0 ∷ (base + t.start) ∷ t.len ∷ []
  pub moved : f.next ≡ n
  pub stays : f.kept ≡ k

-- a name or a value; its words are by the table as it is then
abbrev pub RefFilled : Home → List ℕ → Kept → List ℕ → List ℕ → List ℕ → List ℕ → Filled → Ref → ℕ → Type 0
RefFilled h s k table table' store store' f r n = FilledBy h s k (ref_words (pooled_in h) h.base table' r) (adds_ref k.names r) n table table' store store' f

abbrev pub ValueFilled : Home → List ℕ → Kept → List ℕ → List ℕ → List ℕ → List ℕ → Filled → Value → ℕ → Type 0
ValueFilled h s k table table' store store' f v n = FilledBy h s k (value_words (pooled_in h) h.base table' v) (adds_value k.names v) n table table' store store' f

-- ---- rows

-- a row, from the word `to` on
pub record RowFilled (h : Home) (s : List ℕ) (k : Kept) (table table' store store' rows rows' : List ℕ) (to : ℕ) (a : Ahead) (i : Item) (n : ℕ) : Type 0 where
  pub keeps : Keeps h s k (adds_item k.names i) table table' store store' a.kept
  pub stored : rows' ≡ sets rows to (item_words (pooled_in h) h.base table' i)
  pub moved : a.next ≡ n

-- rows, and others after them
unfoldable pub prepend : List Item → Items → Items
prepend [] js = js
prepend (i ∷ is) js = item i (prepend is js)

abbrev pub only : List Item → Items
only is = prepend is (whole 0 false)

-- each fits in an input of so many bytes, after those before it
abbrev pub FitAll : ℕ → ℕ → List Item → Type 0
FitAll l names [] = Unit {0}
FitAll l names (i ∷ is) = ItemFits l names i × FitAll l (after names i) is

-- what is asked of rows that were read before
pub record Ready (h : Home) (s : List ℕ) (k : Kept) (is : Items) (table store : List ℕ) : Type 0 where
  pub ended : Ended is
  pub in-store : h.base + length s ≤ max_store
  pub room : Room h k (adds k.names is) table store

-- of these rows, which begin at the byte `from`, as many were written from the word `to` on as had room; others are left
pub record FilledRows (h : Home) (s : List ℕ) (k : Kept) (all : Items) (table table' store store' rows rows' : List ℕ) (from to : ℕ) (others : Items) (a : Ahead) : Type 0 where
  pub those : List Item
  pub all-is : all ≡ prepend those others
  pub fit : FitAll (length s) k.names those
  pub keeps : Keeps h s k (adds k.names (only those)) table table' store store' a.kept
  pub stored : rows' ≡ sets rows to (words (pooled_in h) h.base table' (only those))
  pub rows_fit : to + 8 * length those ≤ length rows
  pub stops : to + 8 * length those + 8 ≤ length rows → count others ≡ 0
  pub moves : from + length those ≤ a.next
  pub within : a.next ≤ length s

-- the rows from a place on: those of the event, or attributes of it
abbrev pub rows_from : ℕ → List ℕ → ℕ → Items
rows_from names s at = cond (eqb at 0) (event always names s) (rest always s names at)

-- whether attributes may follow: the event is a start tag, or the place is in one
abbrev pub in_tag : List ℕ → ℕ → Bool
in_tag s at = cond (eqb at 0) (eqb (Token.command (get_or s 0 0)) Token.start_tag) true

-- what is left where it was read so far
abbrev pub left_at : Bool → List ℕ → Kept → ℕ → Items
left_at inside s k at = cond inside (rest always s k.names at) (whole at false)

abbrev pub others_from : List ℕ → ℕ → Ahead → Items
others_from s from a = left_at (in_tag s from) s a.kept a.next

-- ---- a walk that has come so far: these rows were written from the word `first` on, and others are left

pub record Walked (h : Home) (s : List ℕ) (k : Kept) (all : Items) (table table₁ store store₁ rows rows₁ : List ℕ) (first to : ℕ) (others : Items) (k₁ : Kept) : Type 0 where
  pub those : List Item
  pub all-is : all ≡ prepend those others
  pub fit : FitAll (length s) k.names those
  pub keeps : Keeps h s k (adds k.names (only those)) table table₁ store store₁ k₁
  pub stored : rows₁ ≡ sets rows first (words (pooled_in h) h.base table₁ (only those))
  pub word-is : to ≡ first + 8 * length those

-- the event's own row was written where the place is its first byte; `to` is the word after it, and attributes may follow where `inside`
pub record Begun : Type 0 where
  pub next : ℕ
  pub kept : Kept
  pub to : ℕ
  pub inside : Bool

pub record BegunRows (h : Home) (s : List ℕ) (k : Kept) (table table' store store' rows rows' : List ℕ) (from : ℕ) (b : Begun) : Type 0 where
  pub tag : b.inside ≡ in_tag s from
  pub walked : Walked h s k (rows_from k.names s from) table table' store store' rows rows' 0 b.to (left_at b.inside s b.kept b.next) b.kept
  pub moves : b.to + 8 * from ≤ 8 * b.next
  pub word_in : b.to ≤ 8
  pub within : b.next ≤ length s

-- ---- one row, for a query

-- names stay in the input, and no name store is looked at
abbrev pub in_place : ℕ → Home
in_place base = record { base = base; copied = false }

abbrev pub kept_by : ℕ → Kept
kept_by names = record { names = names; used = 0 }

abbrev pub ReadyAt : ℕ → List ℕ → ℕ → Items → List ℕ → Type 0
ReadyAt base s names is table = Ready (in_place base) s (kept_by names) is table []

pub record OneFilled (base : ℕ) (s : List ℕ) (names : ℕ) (all : Items) (table table' row' : List ℕ) (from : ℕ) (others : Items) (a : Ahead) : Type 0 where
  pub it : Item
  pub all-is : all ≡ item it others
  pub fits : ItemFits (length s) names it
  pub table_is : table' ≡ sets table (2 * names) (pairs base (adds_item names it))
  pub names-are : a.kept.names ≡ after names it
  pub row_is : row' ≡ item_words 0 base table' it
  pub moves : from < a.next
  pub within : a.next ≤ length s
