-- A row's value by its type's shape: what is wrong with it, and its bytes.
use mathlib.Core.Bool.{Bool, true, false, cond}
use mathlib.Core.Option.{none, some}
use mathlib.Core.List.{List, [], ◌++◌}
use mathlib.Core.Logic.{◌⊎◌, inl, inr}
use mathlib.Core.Path.{◌≡◌, refl, sym, ap, ◌∙◌}
use Prim.Native.Nat.{ℕ, ◌+◌, ◌≤◌, ◌<◌}
use native.Mathlib.Omega.{arith}
use borrow.Author.Tests.{lt-ltb, le-ltb, lt-leb, le-leb}
use lib.Dec.{ltb}
use Rattle.grammar.proofs.Choice.{by_test}
use lib.ListN.{length, get_or, take, drop, length-drop}
use lib.Seq.{length-take-le}
use Rattle.wire.specs.Header.{be16, be32}
use Rattle.wire.specs.Refusal.{value_too_long, invalid_utf8}
use Rattle.utf8.specs.Utf8.{octets, well_formed}
use Rattle.event.specs.Span.{part, span}
use Rattle.event.specs.Row as Row
use Rattle.event.specs.Row.{Row, shape, value_at, row_at}
use Rattle.event.specs.declared.Shape.{Shape}
use Rattle.writer_spec.specs.Encode.{sized, value_bytes}
use Rattle.writer_spec.specs.Faults.{longest, blob_fault, string_fault, value_fault}
use Rattle.writer.specs.Answers.{Measure, takes, stops, measured}

pub sized-length : (s : List ℕ) → length (sized s) ≡ 2 + length s
unfolding sized be16
sized-length s = omega arith

-- ---- a string, by its length and its bytes

pub string-none : takes 2 ≡ measured (string_fault []) (2 + length {A = ℕ} [])
unfolding string_fault well_formed octets
string-none = refl

module _ (s : List ℕ) (n : ℕ) (e : length s ≡ n) where
  pub string-long : longest < n → stops value_too_long n ≡ measured (string_fault s) (2 + length s)
  unfolding string_fault
  string-long h = rw (e, lt-ltb longest n h)

  pub string-sound : n ≤ longest → well_formed s ≡ true → takes (2 + n) ≡ measured (string_fault s) (2 + length s)
  unfolding string_fault
  string-sound h t = rw (e, le-ltb longest n h, t)

  pub string-broken : n ≤ longest → well_formed s ≡ false → stops invalid_utf8 0 ≡ measured (string_fault s) (2 + length s)
  unfolding string_fault
  string-broken h t = rw (e, le-ltb longest n h, t)

-- a string is as long as a blob may be, and then well-formed
pub string-too-long : (s : List ℕ) (x : ℕ × ℕ) → blob_fault s ≡ some x → string_fault s ≡ some x
unfolding blob_fault string_fault
string-too-long s x e =
    by_test (ltb longest (length s)) (λ t. rw t (rw t at e)) (λ t. absurd (let z : ◌≡◌ {A = ℕ} 0 1 = cc (rw t at e) in omega arith))

pub string-by : (s : List ℕ) (b : Bool) → blob_fault s ≡ none → well_formed s ≡ b → string_fault s ≡ cond b none (some (invalid_utf8, 0))
unfolding blob_fault string_fault
string-by s b e f =
    by_test (ltb longest (length s)) (λ t. absurd (let z : ◌≡◌ {A = ℕ} 0 1 = cc (rw t at e) in omega arith)) (λ t. rw (t, f))

-- a part that a store has, and one that it has not
module _ (store : List ℕ) (start len : ℕ) where
  pub part-outside : length store < start + len → part store start len ≡ []
  unfolding part
  part-outside h = rw (lt-leb (start + len) (length store) h)

  module _ (h : start + len ≤ length store) where
    pub part-inside : part store start len ≡ take len (drop start store)
    unfolding part
    part-inside = rw (le-leb (start + len) (length store) h)

    pub part_length : length (part store start len) ≡ len
    part_length = ap length part-inside ∙ length-take-le len (drop start store) (omega (arith, length-drop start store))

-- ---- by its type's shape

module _ (first second w : List ℕ) where
  abbrev pub row : Row
  row = row_at first second w

  abbrev pub bytes : List ℕ
  bytes = span first second (get_or w 5 0) (get_or w 6 0) (get_or w 7 0)

  abbrev pub Sized : Measure
  Sized = measured (value_fault (shape row.type) row.value) (length (value_bytes row.value))

  pub value-is : (h : Shape) → shape (get_or w 4 0) ≡ h → row.value ≡ value_at first second (get_or w 5 0) (get_or w 6 0) (get_or w 7 0) h
  unfolding row_at
  value-is h e = rw e

  pub shape_is : (h : Shape) → shape (get_or w 4 0) ≡ h → shape row.type ≡ h
  unfolding row_at
  shape_is h e = e

  sized-by : (h : Shape) (v : Row.Value) → shape (get_or w 4 0) ≡ h → value_at first second (get_or w 5 0) (get_or w 6 0) (get_or w 7 0) h ≡ v
      → measured (value_fault h v) (length (value_bytes v)) ≡ Sized
  sized-by h v e f = rw (shape_is h e, value-is h e, f)

  pub size-nothing : shape (get_or w 4 0) ≡ Shape.Nothing → takes 0 ≡ Sized
  unfolding value_at value_fault value_bytes
  size-nothing e = sized-by Shape.Nothing Row.nothing e refl

  pub size-interned : shape (get_or w 4 0) ≡ Shape.Interned → takes 0 ≡ Sized
  unfolding value_at value_fault value_bytes
  size-interned e = sized-by Shape.Interned Row.nothing e refl

  pub size-unknown : shape (get_or w 4 0) ≡ Shape.Unknown → takes 0 ≡ Sized
  unfolding value_at value_fault value_bytes
  size-unknown e = sized-by Shape.Unknown Row.nothing e refl

  pub size_word : shape (get_or w 4 0) ≡ Shape.Word → takes 4 ≡ Sized
  unfolding value_at value_fault value_bytes be32
  size_word e = sized-by Shape.Word (Row.word (get_or w 7 0)) e refl

  pub size-pair : shape (get_or w 4 0) ≡ Shape.Pair → takes 8 ≡ Sized
  unfolding value_at value_fault value_bytes be32
  size-pair e = sized-by Shape.Pair (Row.pair (get_or w 6 0) (get_or w 7 0)) e refl

  pub size-string : shape (get_or w 4 0) ≡ Shape.String → measured (string_fault bytes) (2 + length bytes) ≡ Sized
  unfolding value_at value_fault value_bytes
  size-string e = rw (← sized-length bytes) (sized-by Shape.String (Row.bytes bytes) e refl)

  pub size-blob : shape (get_or w 4 0) ≡ Shape.Blob → measured (blob_fault bytes) (2 + length bytes) ≡ Sized
  unfolding value_at value_fault value_bytes
  size-blob e = rw (← sized-length bytes) (sized-by Shape.Blob (Row.bytes bytes) e refl)

  -- ---- the value's bytes

  bytes-by : (h : Shape) (v : Row.Value) → shape (get_or w 4 0) ≡ h → value_at first second (get_or w 5 0) (get_or w 6 0) (get_or w 7 0) h ≡ v
      → value_bytes row.value ≡ value_bytes v
  bytes-by h v e f = ap value_bytes (value-is h e ∙ f)

  pub bytes-nothing : shape (get_or w 4 0) ≡ Shape.Nothing → value_bytes row.value ≡ []
  unfolding value_at value_bytes
  bytes-nothing e = bytes-by Shape.Nothing Row.nothing e refl

  pub bytes-interned : shape (get_or w 4 0) ≡ Shape.Interned → value_bytes row.value ≡ []
  unfolding value_at value_bytes
  bytes-interned e = bytes-by Shape.Interned Row.nothing e refl

  pub bytes-unknown : shape (get_or w 4 0) ≡ Shape.Unknown → value_bytes row.value ≡ []
  unfolding value_at value_bytes
  bytes-unknown e = bytes-by Shape.Unknown Row.nothing e refl

  pub bytes-string : shape (get_or w 4 0) ≡ Shape.String → value_bytes row.value ≡ sized bytes
  unfolding value_at value_bytes
  bytes-string e = bytes-by Shape.String (Row.bytes bytes) e refl

  pub bytes-blob : shape (get_or w 4 0) ≡ Shape.Blob → value_bytes row.value ≡ sized bytes
  unfolding value_at value_bytes
  bytes-blob e = bytes-by Shape.Blob (Row.bytes bytes) e refl

  pub bytes_word : shape (get_or w 4 0) ≡ Shape.Word → value_bytes row.value ≡ be32 (get_or w 7 0)
  unfolding value_at value_bytes
  bytes_word e = bytes-by Shape.Word (Row.word (get_or w 7 0)) e refl

  pub bytes_pair : shape (get_or w 4 0) ≡ Shape.Pair → value_bytes row.value ≡ be32 (get_or w 6 0) ++ be32 (get_or w 7 0)
  unfolding value_at value_bytes
  bytes_pair e = bytes-by Shape.Pair (Row.pair (get_or w 6 0) (get_or w 7 0)) e refl

  -- ---- by the shapes that have no bytes, and those that have any number

  pub size-none : (h : Shape) → h ≡ shape (get_or w 4 0) → (h ≡ Shape.Nothing) ⊎ ((h ≡ Shape.Interned) ⊎ (h ≡ Shape.Unknown)) → takes 0 ≡ Sized
  size-none h s (inl e) = size-nothing (sym s ∙ e)
  size-none h s (inr (inl e)) = size-interned (sym s ∙ e)
  size-none h s (inr (inr e)) = size-unknown (sym s ∙ e)

  pub bytes-none : (h : Shape) → h ≡ shape (get_or w 4 0) → (h ≡ Shape.Nothing) ⊎ ((h ≡ Shape.Interned) ⊎ (h ≡ Shape.Unknown)) → value_bytes row.value ≡ []
  bytes-none h s (inl e) = bytes-nothing (sym s ∙ e)
  bytes-none h s (inr (inl e)) = bytes-interned (sym s ∙ e)
  bytes-none h s (inr (inr e)) = bytes-unknown (sym s ∙ e)

  pub bytes-long : (h : Shape) → h ≡ shape (get_or w 4 0) → (h ≡ Shape.String) ⊎ (h ≡ Shape.Blob) → value_bytes row.value ≡ sized bytes
  bytes-long h s (inl e) = bytes-string (sym s ∙ e)
  bytes-long h s (inr e) = bytes-blob (sym s ∙ e)
