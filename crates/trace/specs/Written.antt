-- What the grammar reads of an event that the writer wrote.
use Rattle.std.specs.Prelude.{Bool, cond, ◌≡◌, get_or, take, ltb, leb, eqb}
use Rattle.std.proofs.Math.Bool.{true, false}
use Rattle.std.proofs.Math.Option.{Option, none, some, map}
use mathlib.Core.List.{List, [], ◌∷◌, ◌++◌, append_assoc, append-nil}
use Rattle.std.proofs.Math.Path.{refl, sym}
use Rattle.std.proofs.Common.{ap, ◌∙◌, add-zero, zero-add, length-drop, drop-drop, get_or-drop}
use Prim.Native.Nat.{ℕ, zero, suc, ◌+◌, ◌*◌, ◌-◌, ◌/◌, ◌%◌, ◌≤◌, ◌<◌}
use Rattle.std.proofs.Math.Nat.{div-div-eq-div-mul}
use native.Mathlib.Omega.{arith}
use borrow.Author.Tests.{leb-true, ltb-true, ltb-false, eqb-true, le-leb, lt-ltb, le-ltb, ne_eqb}
use Rattle.std.proofs.Math.ListN.{length, drop, length-append}
use Rattle.std.proofs.Math.Seq.{drop-append_seam, take-append_seam}
use Rattle.grammar.specs.Reader.{got}
use Rattle.utf8.specs.Utf8.{well_formed}
use Rattle.event.specs.Row.{Row, Event, has_name, shape, shapes}
use Rattle.event.specs.declared.Shape.{Shape}
use Rattle.grammar.specs.Grammar.{Span, Ref, new, known, Value, Item, Items, item, whole, most, byte, u16, u32, u64, raw, utf8, blob, string, counted, after, name, shaped, value, attribute, first, attributes_f, event}
use Rattle.wire.specs.Header.{be16, be32, u32_at}
use Rattle.wire.specs.Token.{command, interned_new}
use Rattle.wire.specs.Token as Token
use Rattle.grammar.specs.Document.{Pool, all, bytes_at, ref_bytes, value_of, keep_value, keep_item, type_of, row_of, rows_of, pool_of}
use Rattle.writer_spec.specs.Encode.{find, sized, name_by, name_bytes, keep_by, keep, value_bytes, token_type, row_bytes, keep_row, keep_rows, rows_bytes, flat}
use Rattle.writer_spec.specs.Faults.{longest}
use Rattle.event.specs.Span.{same}
use Rattle.event.specs.Laws.{same-eq}
use Rattle.writer_spec.specs.Formed.{Str, FormedValue, FormedAttribute, FormedAttributes, FormedFirst, FormedEvent, FormedEvents}
use Rattle.grammar.specs.Endings.{Ends}
use Rattle.grammar.proofs.Steps.{keep_item-length}
use Rattle.event.specs.Row as Row
use Rattle.grammar.specs.Document as D
use Rattle.grammar.proofs.KindLaws.{bare-unnamed, tag-named, text-unnamed, command-token, type-token}
use Rattle.grammar.proofs.Choice.{by_test, cond-by}

-- ---- bytes at a place

-- a place's bytes begin so
module _ (s : List ℕ) (at : ℕ) where
  at_head : (a : ℕ) (x : List ℕ) → drop at s ≡ a ∷ x → get_or s at 0 ≡ a
  at_head a x e = ap (λ (k : ℕ). get_or s k 0) (sym (add-zero at)) ∙ sym (get_or-drop at s 0 0) ∙ rw e

  at_tail : (a : ℕ) (x : List ℕ) → drop at s ≡ a ∷ x → drop (at + 1) s ≡ x
  at_tail a x e = sym (drop-drop 1 at s) ∙ rw e

  at-skip : (x y : List ℕ) → drop at s ≡ x ++ y → drop (at + length x) s ≡ y
  at-skip x y e = sym (drop-drop (length x) at s) ∙ rw e (drop-append_seam x y)

  at_take : (x y : List ℕ) → drop at s ≡ x ++ y → take (length x) (drop at s) ≡ x
  at_take x y e = rw e (take-append_seam x y)

  at_length : (x : List ℕ) → drop at s ≡ x → length s - at ≡ length x
  at_length x e = sym (length-drop at s) ∙ rw e

-- ---- fields

digits : (n : ℕ) → n < 4294967296 → ((n / 16777216 % 256 * 256 + n / 65536 % 256) * 256 + n / 256 % 256) * 256 + n % 256 ≡ n
digits n h =
    let q₁ = n / 256 in
    let q₂ = n / 65536 in
    let q₃ = n / 16777216 in
    let d₂ : q₁ / 256 ≡ q₂ = div-div-eq-div-mul n 256 256 in
    let d₃ : q₂ / 256 ≡ q₃ = div-div-eq-div-mul n 65536 256 in
    go n q₁ q₂ q₃ (n % 256) (q₁ % 256) (q₂ % 256) (q₃ % 256) (omega arith) (step q₁ q₂ d₂) (step q₂ q₃ d₃) (omega arith)
  where
    step : (a b : ℕ) → a / 256 ≡ b → a ≡ b * 256 + a % 256
    step a b e = omega arith

    go : (n q₁ q₂ q₃ m₀ m₁ m₂ m₃ : ℕ) → n ≡ q₁ * 256 + m₀ → q₁ ≡ q₂ * 256 + m₁ → q₂ ≡ q₃ * 256 + m₂ → m₃ ≡ q₃ → ((m₃ * 256 + m₂) * 256 + m₁) * 256 + m₀ ≡ n
    go n q₁ q₂ q₃ m₀ m₁ m₂ m₃ a b c d = omega arith

be32-length : (n : ℕ) (rest : List ℕ) → length (be32 n ++ rest) ≡ 4 + length rest
unfolding be32
be32-length n rest = omega arith

be16-length : (n : ℕ) (rest : List ℕ) → length (be16 n ++ rest) ≡ 2 + length rest
unfolding be16
be16-length n rest = omega arith

module _ (s : List ℕ) (at : ℕ) (rest : List ℕ) where
  byte_at : (b : ℕ) → drop at s ≡ b ∷ rest → byte s at ≡ got b (at + 1)
  unfolding byte
  byte_at b e = let l = at_length s at (b ∷ rest) e in rw (le-ltb (length s - at) 1 (omega arith), at_head s at b rest e)

  u16-at : (n : ℕ) → n < 65536 → drop at s ≡ be16 n ++ rest → u16 s at ≡ got n (at + 2)
  unfolding u16 be16
  u16-at n h e =
      let l = at_length s at (n / 256 % 256 ∷ n % 256 ∷ rest) e in
      let t = at_tail s at (n / 256 % 256) (n % 256 ∷ rest) e in
      let v : n / 256 % 256 * 256 + n % 256 ≡ n = omega arith in
      rw (le-ltb (length s - at) 2 (omega arith), at_head s at (n / 256 % 256) (n % 256 ∷ rest) e, at_head s (at + 1) (n % 256) rest t, v)

  at32-at : (n : ℕ) → n < 4294967296 → drop at s ≡ be32 n ++ rest → u32_at s at ≡ n
  unfolding u32_at be32
  at32-at n h e =
      let a = n / 16777216 % 256 in
      let b = n / 65536 % 256 in
      let c = n / 256 % 256 in
      let d = n % 256 in
      let e₁ = at_tail s at a (b ∷ c ∷ d ∷ rest) e in
      let e₂ = at-skip s at (a ∷ b ∷ []) (c ∷ d ∷ rest) e in
      let e₃ = at-skip s at (a ∷ b ∷ c ∷ []) (d ∷ rest) e in
      let v : ((n / 16777216 % 256 * 256 + n / 65536 % 256) * 256 + n / 256 % 256) * 256 + n % 256 ≡ n = digits n h in
      rw (at_head s at a (b ∷ c ∷ d ∷ rest) e, at_head s (at + 1) b (c ∷ d ∷ rest) e₁, at_head s (at + 2) c (d ∷ rest) e₂, at_head s (at + 3) d rest e₃, v)

  u32-at : (n : ℕ) → n < 4294967296 → drop at s ≡ be32 n ++ rest → u32 s at ≡ got n (at + 4)
  unfolding u32
  u32-at n h e =
      let l : length s - at ≡ 4 + length rest = at_length s at (be32 n ++ rest) e ∙ be32-length n rest in
      rw (le-ltb (length s - at) 4 (omega arith), at32-at n h e)

module _ (s : List ℕ) (at : ℕ) (rest : List ℕ) where
  u64-at : (h l : ℕ) → h < 4294967296 → l < 4294967296 → drop at s ≡ (be32 h ++ be32 l) ++ rest → u64 s at ≡ got (h, l) (at + 8)
  unfolding u64
  u64-at h l a b e =
      let e₁ : drop at s ≡ be32 h ++ (be32 l ++ rest) = e ∙ append_assoc (be32 h) (be32 l) rest in
      let n : length s - at ≡ 8 + length rest = omega (arith, at_length s at (be32 h ++ (be32 l ++ rest)) e₁, be32-length h (be32 l ++ rest), be32-length l rest) in
      let e₂ : drop (at + 4) s ≡ be32 l ++ rest = four e₁ in
      rw (le-ltb (length s - at) 8 (omega arith), at32-at s at (be32 l ++ rest) h a e₁, at32-at s (at + 4) rest l b e₂)
    where
      four : drop at s ≡ be32 h ++ (be32 l ++ rest) → drop (at + 4) s ≡ be32 l ++ rest
      four e = sym (drop-drop 4 at s) ∙ rw e (unfold be32 in refl)

  -- a length and so many bytes
  module _ (b : List ℕ) (h : length b ≤ longest) (e : drop at s ≡ sized b ++ rest) where
    sized-first : drop at s ≡ be16 (length b) ++ (b ++ rest)
    unfolding sized
    sized-first = e ∙ append_assoc (be16 (length b)) b rest

    sized-then : drop (at + 2) s ≡ b ++ rest
    unfolding be16
    sized-then = sym (drop-drop 2 at s) ∙ rw sized-first

    abbrev the_span : Span
    the_span = record { start = at + 2; len = length b }

    pub blob-at : blob s at ≡ got the_span (at + 2 + length b)
    unfolding blob raw
    blob-at =
        rw (
          u16-at s at (b ++ rest) (length b) (omega arith) sized-first,
          le-ltb (length s - (at + 2)) (length b) (omega (arith, at_length s (at + 2) (b ++ rest) sized-then, length-append b rest)),
        )

    pub string-at : well_formed b ≡ true → string s at ≡ got the_span (at + 2 + length b)
    unfolding string utf8
    string-at w =
        rw (
          u16-at s at (b ++ rest) (length b) (omega arith) sized-first,
          le-ltb (length s - (at + 2)) (length b) (omega (arith, at_length s (at + 2) (b ++ rest) sized-then, length-append b rest)),
          at_take s (at + 2) b rest sized-then,
          w,
        )

    pub span-at : bytes_at s the_span ≡ b
    unfolding bytes_at
    span-at = at_take s (at + 2) b rest sized-then

sized-length : (b : List ℕ) → length (sized b) ≡ 2 + length b
unfolding sized
sized-length b = be16-length (length b) b

-- ---- names

pub record Found (pool : Pool) (n : List ℕ) (i : ℕ) : Type 0 where
  pub in-pool : i < length pool
  pub is_name : get_or pool i [] ≡ n

found : (pool : Pool) (n : List ℕ) (i : ℕ) → find pool n ≡ some i → Found pool n i
unfolding find
found [] n i h = absurd (let z : ◌≡◌ {A = ℕ} 0 1 = cc h in omega arith)
found (m ∷ pool) n i h =
    by_test (same m n)
    (λ p. let q : some 0 ≡ some i = rw p at h in let z : 0 ≡ i = cc q in rw (← z) (record { in-pool = omega arith; is_name = same-eq m n p }))
    (λ p. go (λ j. found pool n j) (find pool n) refl (rw p at h))
  where
    go : ((j : ℕ) → find pool n ≡ some j → Found pool n j) → (x : Option ℕ) → find pool n ≡ x → map suc x ≡ some i → Found (m ∷ pool) n i
    go ih none e q = absurd (let z : ◌≡◌ {A = ℕ} 0 1 = cc q in omega arith)
    go ih (some j) e q =
        let z : suc j ≡ i = cc q in
        let f : Found pool n j = ih j e in
        rw (← z) (record { in-pool = omega arith; is_name = f.is_name })

pub record NameAt (s : List ℕ) (at : ℕ) (pool : Pool) (n : List ℕ) : Type 0 where
  pub ref : Ref
  pub reads-it : name all (length pool) s at ≡ got ref (at + length (name_bytes pool n))
  pub its-bytes : ref_bytes s pool ref ≡ n
  pub keeps : D.keep s pool ref ≡ keep pool n

name-at : (s : List ℕ) (at : ℕ) (pool : Pool) (n rest : List ℕ) → length pool ≤ interned_new → Str n → drop at s ≡ name_bytes pool n ++ rest → NameAt s at pool n
unfolding name_bytes name_by keep keep_by name ref_bytes D.keep be16
name-at s at pool n rest small str e = go (find pool n) refl
  where
    go : (x : Option ℕ) → find pool n ≡ x → NameAt s at pool n
    go none f =
        let e₁ : drop at s ≡ 255 ∷ 255 ∷ (sized n ++ rest) = rw f at e in
        let e₂ : drop (at + 2) s ≡ sized n ++ rest = at-skip s at (255 ∷ 255 ∷ []) (sized n ++ rest) e₁ in
        let z : at + 2 + 2 + length n ≡ at + length (255 ∷ 255 ∷ sized n) = omega (arith, sized-length n) in
        record {
          ref = new (record { start = at + 2 + 2; len = length n });
          reads-it = rw (f, u16-at s at (sized n ++ rest) interned_new (omega arith) e₁, string-at s (at + 2) rest n str.0 e₂ str.1, z);
          its-bytes = span-at s (at + 2) rest n str.0 e₂;
          keeps = rw (f, span-at s (at + 2) rest n str.0 e₂);
        }
    go (some i) f =
        let w : Found pool n i = found pool n i f in
        let e₁ : drop at s ≡ be16 i ++ rest = rw f at e in
        record {
          ref = known i;
          reads-it = rw (f, u16-at s at rest i (omega arith) e₁, ne_eqb i interned_new (λ q. omega arith), lt-ltb i (length pool) w.in-pool);
          its-bytes = w.is_name;
          keeps = rw f;
        }

-- ---- values

pub record ValueAt (s : List ℕ) (at names type : ℕ) (h : Shape) (v : Row.Value) : Type 0 where
  pub wire : Value
  pub reads-it : shaped all names type h s at ≡ got wire (at + length (value_bytes v))
  pub its-value : (pool : Pool) → value_of s pool wire ≡ v
  pub keeps : (pool : Pool) → keep_value s pool wire ≡ pool

-- the bytes of a string or a blob
bytes-at : (s : List ℕ) (at names type : ℕ) (h : Shape) (b rest : List ℕ) → length b ≤ longest → drop at s ≡ sized b ++ rest
    → shaped all names type h s at ≡ got (Value.span (record { start = at + 2; len = length b })) (at + 2 + length b) → ValueAt s at names type h (Row.bytes b)
unfolding value_bytes value_of keep_value
bytes-at s at names type h b rest small e there =
    let z : at + 2 + length b ≡ at + length (sized b) = omega (arith, sized-length b) in
    record {
      wire = Value.span (record { start = at + 2; len = length b });
      reads-it = there ∙ rw z;
      its-value = λ _. ap Row.bytes (span-at s at rest b small e);
      keeps = λ _. refl;
    }

value-at : (s : List ℕ) (at names type : ℕ) (h : Shape) (v : Row.Value) (rest : List ℕ) → FormedValue h v → drop at s ≡ value_bytes v ++ rest → ValueAt s at names type h v
unfolding shaped value_bytes value_of keep_value
value-at s at names type Shape.Nothing v rest f e = rw f (record { wire = Value.nothing; reads-it = rw (add-zero at); its-value = λ _. refl; keeps = λ _. refl })
value-at s at names type Shape.String v rest f e =
    let e₁ : drop at s ≡ sized f.0 ++ rest = rw f.1 at e in
    rw f.1 (bytes-at s at names type Shape.String f.0 rest f.2.0 e₁ (rw (string-at s at rest f.0 f.2.0 e₁ f.2.1)))
value-at s at names type Shape.Interned v rest f e = absurd f
value-at s at names type Shape.Blob v rest f e =
    let e₁ : drop at s ≡ sized f.0 ++ rest = rw f.1 at e in
    rw f.1 (bytes-at s at names type Shape.Blob f.0 rest f.2 e₁ (rw (blob-at s at rest f.0 f.2 e₁)))
value-at s at names type Shape.Word v rest f e =
    let e₁ : drop at s ≡ be32 f.0 ++ rest = rw f.1 at e in
    rw f.1 (record { wire = Value.word f.0; reads-it = rw (u32-at s at rest f.0 f.2 e₁) four; its-value = λ _. refl; keeps = λ _. refl })
  where
    four : got (Value.word f.0) (at + 4) ≡ got (Value.word f.0) (at + length (be32 f.0))
    four = unfold be32 in refl
value-at s at names type Shape.Pair v rest f e =
    let e₁ : drop at s ≡ (be32 f.0 ++ be32 f.1) ++ rest = rw f.2 at e in
    rw f.2 (record { wire = Value.pair f.0 f.1; reads-it = rw (u64-at s at rest f.0 f.1 f.3 f.4 e₁) eight; its-value = λ _. refl; keeps = λ _. refl })
  where
    eight : got (Value.pair f.0 f.1) (at + 8) ≡ got (Value.pair f.0 f.1) (at + length (be32 f.0 ++ be32 f.1))
    eight = unfold be32 in refl
value-at s at names type Shape.Unknown v rest f e = absurd f

-- ---- rows

row-eq : (a b : Row) → a.kind ≡ b.kind → a.name ≡ b.name → a.type ≡ b.type → a.value ≡ b.value → a ≡ b
row-eq a b p q u v = λ i. record { kind = p i; name = q i; type = u i; value = v i }

-- an item read from s is this row, and adds to the pool what the row does
pub record Stands (s : List ℕ) (pool : Pool) (i : Item) (r : Row) : Type 0 where
  pub row : row_of s pool i ≡ r
  pub names : keep_item s pool i ≡ keep_row pool r
  pub kinds : i.kind ≡ r.kind

-- an attribute's type is not that of an interned string
not-interned : (type : ℕ) (v : Row.Value) → FormedValue (shape type) v → type_of type ≡ type
unfolding type_of shape shapes
not-interned type v f =
    by_test (eqb type 3) (λ b. absurd (rw (eqb-true type 3 b) at f)) (λ b. rw b)

module _ (s : List ℕ) (at : ℕ) (pool : Pool) (small : length pool ≤ interned_new) (r : Row) (rest : List ℕ) (f : FormedAttribute r) (e : drop at s ≡ row_bytes pool r ++ rest) where
  attribute-bytes : row_bytes pool r ≡ (r.type * 16 + 15) ∷ (name_bytes pool r.name ++ value_bytes r.value)
  unfolding row_bytes token_type has_name
  attribute-bytes = rw f.its-kind

  attribute-keeps : keep_row pool r ≡ keep pool r.name
  unfolding keep_row has_name
  attribute-keeps = rw f.its-kind

  attribute-at : (i : Item) × (attribute all (length pool) s at ≡ got i (at + length (row_bytes pool r))) × Stands s pool i r
  unfolding attribute value row_of keep_item D.name_bytes D.keep_name
  attribute-at =
      let n : List ℕ = name_bytes pool r.name in
      let v : List ℕ = value_bytes r.value in
      let t : ℕ = r.type * 16 + 15 in
      let e₁ : drop at s ≡ t ∷ ((n ++ v) ++ rest) = e ∙ rw attribute-bytes in
      let e₂ : drop (at + 1) s ≡ n ++ (v ++ rest) = at_tail s at t ((n ++ v) ++ rest) e₁ ∙ append_assoc n v rest in
      let na : NameAt s (at + 1) pool r.name = name-at s (at + 1) pool r.name (v ++ rest) small f.its-name e₂ in
      let va : ValueAt s (at + 1 + length n) (counted (length pool) na.ref) r.type (shape r.type) r.value =
      value-at s (at + 1 + length n) (counted (length pool) na.ref) r.type (shape r.type) r.value rest f.its-value (at-skip s (at + 1) n (v ++ rest) e₂) in
      let q : Token.type t ≡ r.type = type-token r.type 15 (omega arith) in
      let z : at + 1 + length n + length v ≡ at + length (row_bytes pool r) = rw attribute-bytes (omega (arith, length-append n v)) in (
        record { kind = 15; name = some na.ref; type = r.type; value = va.wire },
        rw (byte_at s at ((n ++ v) ++ rest) t e₁, na.reads-it, q, va.reads-it, z),
        record {
          row = row-eq _ r (sym f.its-kind) na.its-bytes (not-interned r.type r.value f.its-value) (va.its-value (D.keep s pool na.ref));
          names = va.keeps (D.keep s pool na.ref) ∙ na.keeps ∙ sym attribute-keeps;
          kinds = sym f.its-kind;
        },
      )

-- ---- events

module _ (s : List ℕ) (pool : Pool) (small : length pool ≤ interned_new) (r : Row) (rest : List ℕ) (e : s ≡ row_bytes pool r ++ rest) where
  abbrev FirstAt : Type 0
  FirstAt = (i : Item) × (first all (length pool) s 0 ≡ got i (length (row_bytes pool r))) × Stands s pool i r

  bare-bytes : r.kind < 2 → r.value ≡ Row.nothing → row_bytes pool r ≡ (16 + r.kind) ∷ []
  unfolding row_bytes token_type value_bytes
  bare-bytes k f = rw (lt-ltb r.kind 2 k, bare-unnamed r.kind k, f)

  tag-bytes : 2 ≤ r.kind → r.kind < 4 → r.value ≡ Row.nothing → row_bytes pool r ≡ (48 + r.kind) ∷ name_bytes pool r.name
  unfolding row_bytes token_type value_bytes
  tag-bytes k j f = rw (le-ltb r.kind 2 k, lt-ltb r.kind 4 j, tag-named r.kind k j, f) (ap (λ (x : List ℕ). (48 + r.kind) ∷ x) (append-nil (name_bytes pool r.name)))

  text-bytes : 4 ≤ r.kind → r.kind ≤ 10 → r.type ≡ 2 → (x : List ℕ) → r.value ≡ Row.bytes x → row_bytes pool r ≡ (32 + r.kind) ∷ sized x
  unfolding row_bytes token_type value_bytes
  text-bytes k j f₂ x f₃ = rw (le-ltb r.kind 2 (omega arith), le-ltb r.kind 4 k, text-unnamed r.kind k j, f₂, f₃)

  row_keeps : (b : Bool) → has_name r.kind ≡ b → keep_row pool r ≡ cond b (keep pool r.name) pool
  unfolding keep_row
  row_keeps b h = rw h

  bare-at : r.kind < 2 → r.name ≡ [] → r.type ≡ 0 → r.value ≡ Row.nothing → FirstAt
  unfolding first row_of keep_item D.name_bytes D.keep_name D.keep_value value_of type_of
  bare-at k f₁ f₂ f₃ =
      let e₁ : s ≡ (16 + r.kind) ∷ rest = e ∙ rw (bare-bytes k f₃) in
      let q : command (16 + r.kind) ≡ r.kind = command-token 1 r.kind (omega arith) in (
        record { kind = r.kind; name = none; type = 0; value = Value.nothing },
        rw (bare-bytes k f₃, byte_at s 0 rest (16 + r.kind) e₁, q, lt-ltb r.kind 2 k),
        record { row = row-eq _ r refl (sym f₁) (sym f₂) (sym f₃); names = sym (row_keeps false (bare-unnamed r.kind k)); kinds = refl },
      )

  tag_at : 2 ≤ r.kind → r.kind < 4 → Str r.name → r.type ≡ 0 → r.value ≡ Row.nothing → FirstAt
  unfolding first row_of keep_item D.name_bytes D.keep_name D.keep_value value_of type_of
  tag_at k j f₁ f₂ f₃ =
      let n : List ℕ = name_bytes pool r.name in
      let t : ℕ = 48 + r.kind in
      let e₁ : s ≡ t ∷ (n ++ rest) = e ∙ rw (tag-bytes k j f₃) in
      let na : NameAt s 1 pool r.name = name-at s 1 pool r.name rest small f₁ (at_tail s 0 t (n ++ rest) e₁) in
      let q : command t ≡ r.kind = command-token 3 r.kind (omega arith) in
      let z : 1 + length n ≡ length (row_bytes pool r) = rw (tag-bytes k j f₃) (omega arith) in (
        record { kind = r.kind; name = some na.ref; type = 0; value = Value.nothing },
        rw (byte_at s 0 (n ++ rest) t e₁, q, le-ltb r.kind 2 k, lt-ltb r.kind 4 j, na.reads-it, z),
        record { row = row-eq _ r refl na.its-bytes (sym f₂) (sym f₃); names = na.keeps ∙ sym (row_keeps true (tag-named r.kind k j)); kinds = refl },
      )

  text_at : 4 ≤ r.kind → r.kind ≤ 10 → r.name ≡ [] → r.type ≡ 2 → (x : List ℕ) → r.value ≡ Row.bytes x → Str x → FirstAt
  unfolding first row_of keep_item D.name_bytes D.keep_name D.keep_value value_of type_of
  text_at k j f₁ f₂ x f₃ f₄ =
      let t : ℕ = 32 + r.kind in
      let e₁ : s ≡ t ∷ (sized x ++ rest) = e ∙ rw (text-bytes k j f₂ x f₃) in
      let e₂ : drop 1 s ≡ sized x ++ rest = at_tail s 0 t (sized x ++ rest) e₁ in
      let q : command t ≡ r.kind = command-token 2 r.kind (omega arith) in
      let q' : Token.type t ≡ 2 = type-token 2 r.kind (omega arith) in
      let z : 1 + 2 + length x ≡ length (row_bytes pool r) = rw (text-bytes k j f₂ x f₃) (omega (arith, sized-length x)) in (
        record { kind = r.kind; name = none; type = 2; value = Value.span (record { start = 1 + 2; len = length x }) },
        rw (byte_at s 0 (sized x ++ rest) t e₁, q, q', le-ltb r.kind 2 (omega arith), le-ltb r.kind 4 k, le-leb r.kind 10 j, string-at s 1 rest x f₄.0 e₂ f₄.1, z),
        record { row = row-eq _ r refl (sym f₁) (sym f₂) (ap Row.bytes (span-at s 1 rest x f₄.0 e₂) ∙ sym f₃); names = sym (row_keeps false (text-unnamed r.kind k j)); kinds = refl },
      )

  first-at : FormedFirst r → FirstAt
  first-at f =
      by_test (ltb r.kind 2)
      (λ a. let g : (r.name ≡ []) × (r.type ≡ 0) × (r.value ≡ Row.nothing) = rw a at f in bare-at (ltb-true r.kind 2 a) g.0 g.1 g.2)
      (λ a. by_test (ltb r.kind 4)
      (λ b. let g : Str r.name × (r.type ≡ 0) × (r.value ≡ Row.nothing) = rw (a, b) at f in tag_at (ltb-false r.kind 2 a) (ltb-true r.kind 4 b) g.0 g.1 g.2)
      (λ b. by_test (leb r.kind 10)
      (λ c. let g : (r.name ≡ []) × (r.type ≡ 2) × ((x : List ℕ) × (r.value ≡ Row.bytes x) × Str x) = rw (a, b, c) at f in
      text_at (ltb-false r.kind 4 b) (leb-true r.kind 10 c) g.0 g.1 g.2.0 g.2.1 g.2.2)
      (λ c. absurd (rw (a, b, c) at f))))

-- the pool stays within its limit
keep-small : (pool : Pool) (n : List ℕ) → length pool ≤ interned_new → length (keep pool n) ≤ interned_new
unfolding keep keep_by most
keep-small pool n h = go (find pool n)
  where
    go : (x : Option ℕ) → length (keep_by pool n x) ≤ interned_new
    go (some i) = h
    go none = by_test (ltb (length pool) interned_new) (λ b. rw b (simp length-append (omega (arith, ltb-true (length pool) interned_new b)))) (λ b. rw b h)

keep_row-small : (pool : Pool) (r : Row) → length pool ≤ interned_new → length (keep_row pool r) ≤ interned_new
unfolding keep_row
keep_row-small pool r h = cond-by (λ (p : Pool). length p ≤ interned_new) (has_name r.kind) (keep pool r.name) pool (λ _. keep-small pool r.name h) (λ _. h)

pub keep_rows-small : (rs : List Row) (pool : Pool) → length pool ≤ interned_new → length (keep_rows pool rs) ≤ interned_new
unfolding keep_rows
keep_rows-small [] pool h = h
keep_rows-small (r ∷ rs) pool h = keep_rows-small rs (keep_row pool r) (keep_row-small pool r h)

-- what follows is no attribute
abbrev pub NoAttribute : List ℕ → Type 0
NoAttribute [] = Unit {0}
NoAttribute (b ∷ s) = eqb (command b) 15 ≡ false

abbrev pub none_left : List ℕ → Bool
none_left [] = true
none_left (b ∷ s) = false

-- the rows read from s are these
pub record Says (s : List ℕ) (pool : Pool) (is : Items) (rs : List Row) (n : ℕ) (e : Bool) : Type 0 where
  pub rows : rows_of s pool is ≡ rs
  pub names : pool_of s pool is ≡ keep_rows pool rs
  pub ends : Ends n e is

row-some : (pool : Pool) (r : Row) → 1 ≤ length (row_bytes pool r)
unfolding row_bytes
row-some pool r = omega arith

stands-count : (s : List ℕ) (pool : Pool) (i : Item) (r : Row) (k : ℕ) → Stands s pool i r → k ≡ length pool → after k i ≡ length (keep_row pool r)
stands-count s pool i r k g c = rw c (sym (keep_item-length s pool i) ∙ ap length g.names)

says-more : (s : List ℕ) (pool : Pool) (i : Item) (is : Items) (r : Row) (rs : List Row) (m : ℕ) (b : Bool) → Stands s pool i r → Says s (keep_row pool r) is rs m b
    → Says s pool (item i is) (r ∷ rs) m b
unfolding rows_of pool_of keep_rows
says-more s pool i is r rs m b g ih = record {
  rows = rw (g.row, g.names, ih.rows);
  names = ap (λ (p : Pool). pool_of s p is) g.names ∙ ih.names;
  ends = ih.ends;
}

attributes-step : (s : List ℕ) (f at k n m : ℕ) (pool : Pool) (i : Item) (r : Row) (rs : List Row) (b : Bool) → at < length s → command (get_or s at 0) ≡ 15
    → attribute all k s at ≡ got i n → Stands s pool i r → Says s (keep_row pool r) (attributes_f all f (after k i) s n) rs m b
    → Says s pool (attributes_f all (suc f) k s at) (r ∷ rs) m b
unfolding attributes_f
attributes-step s f at k n m pool i r rs b l t a g ih =
    rw (lt-ltb at (length s) l, t, a) (says-more s pool i (attributes_f all f (after k i) s n) r rs m b g ih)

attributes-at : (s : List ℕ) (rs : List Row) (f at k : ℕ) (pool : Pool) (rest : List ℕ) → k ≡ length pool → length pool ≤ interned_new → FormedAttributes rs → NoAttribute rest
    → drop at s ≡ rows_bytes pool rs ++ rest → length s ≤ at + f
    → Says s pool (attributes_f all f k s at) rs (at + length (rows_bytes pool rs)) (none_left rest)
unfolding attributes_f rows_bytes rows_of pool_of keep_rows
attributes-at s [] zero at k pool [] c small fs na e l = record { rows = refl; names = refl; ends = (sym (add-zero at), refl) }
attributes-at s [] zero at k pool (b ∷ rest) c small fs na e l = absurd (omega (arith, at_length s at (b ∷ rest) e))
attributes-at s [] (suc f) at k pool [] c small fs na e l =
    rw (le-ltb at (length s) (omega (arith, at_length s at [] e))) (record { rows = refl; names = refl; ends = (sym (add-zero at), refl) })
attributes-at s [] (suc f) at k pool (b ∷ rest) c small fs na e l =
    rw (lt-ltb at (length s) (omega (arith, at_length s at (b ∷ rest) e)), at_head s at b rest e, na) (record { rows = refl; names = refl; ends = (sym (add-zero at), refl) })
attributes-at s (r ∷ rs) zero at k pool rest c small fs na e l =
    absurd (omega (
      arith,
      at_length s at ((row_bytes pool r ++ rows_bytes (keep_row pool r) rs) ++ rest) e,
      row-some pool r,
      length-append (row_bytes pool r ++ rows_bytes (keep_row pool r) rs) rest,
      length-append (row_bytes pool r) (rows_bytes (keep_row pool r) rs),
    ))
attributes-at s (r ∷ rs) (suc f) at k pool rest c small fs na e l =
    let more : List ℕ = rows_bytes (keep_row pool r) rs in
    let e₁ : drop at s ≡ row_bytes pool r ++ (more ++ rest) = e ∙ append_assoc (row_bytes pool r) more rest in
    let n : ℕ = at + length (row_bytes pool r) in
    let a = attribute-at s at pool small r (more ++ rest) fs.0 e₁ in
    let h : drop at s ≡ (r.type * 16 + 15) ∷ ((name_bytes pool r.name ++ value_bytes r.value) ++ (more ++ rest)) = e₁ ∙ rw (attribute-bytes s at pool small r (more ++ rest) fs.0 e₁) in
    let q : command (r.type * 16 + 15) ≡ 15 = command-token r.type 15 (omega arith) in
    let z : n + length more ≡ at + length (row_bytes pool r ++ more) = omega (arith, length-append (row_bytes pool r) more) in
    rw (← z) (attributes-step s f at k n (n + length more) pool a.0 r rs (none_left rest)
    (omega (arith, at_length s at _ h)) (ap command (at_head s at _ _ h) ∙ q) (rw c a.1) a.2
    (attributes-at s rs f n (after k a.0) (keep_row pool r) rest (stands-count s pool a.0 r k a.2 c) (keep_row-small pool r small) fs.1 na
    (at-skip s at (row_bytes pool r) (more ++ rest) e₁) (omega (arith, row-some pool r))))

-- a start tag at the very end of the input
abbrev pub at_edge : Event → List ℕ → Bool
at_edge [] rest = false
at_edge (r ∷ rs) rest = cond (eqb r.kind 2) (none_left rest) false

event-step : (s : List ℕ) (pool : Pool) (i : Item) (r : Row) (rs : List Row) (n m : ℕ) (b : Bool) → first all (length pool) s 0 ≡ got i n → Stands s pool i r
    → Says s (keep_row pool r) (cond (eqb r.kind 2) (attributes_f all (length s) (after (length pool) i) s n) (whole n false)) rs m b
    → Says s pool (event all (length pool) s) (r ∷ rs) m b
unfolding event
event-step s pool i r rs n m b a g ih =
    let same_kind : eqb i.kind 2 ≡ eqb r.kind 2 = ap (λ (k : ℕ). eqb k 2) g.kinds in
    rw a (says-more s pool i _ r rs m b g (rw same_kind ih))

pub event-at : (s : List ℕ) (pool : Pool) (r : Row) (rs : List Row) (rest : List ℕ) → length pool ≤ interned_new → FormedEvent (r ∷ rs) → NoAttribute rest → s ≡ rows_bytes pool (r ∷ rs) ++ rest
    → Says s pool (event all (length pool) s) (r ∷ rs) (length (rows_bytes pool (r ∷ rs))) (at_edge (r ∷ rs) rest)
unfolding rows_bytes keep_rows rows_of pool_of
event-at s pool r rs rest small f na e =
    let more : List ℕ = rows_bytes (keep_row pool r) rs in
    let e₁ : s ≡ row_bytes pool r ++ (more ++ rest) = e ∙ append_assoc (row_bytes pool r) more rest in
    let n : ℕ = length (row_bytes pool r) in
    let a = first-at s pool small r (more ++ rest) e₁ f.0 in
    let z : n + length more ≡ length (row_bytes pool r ++ more) = sym (length-append (row_bytes pool r) more) in
    let d : drop n s ≡ more ++ rest = ap (λ (k : ℕ). drop k s) (sym (zero-add n)) ∙ at-skip s 0 (row_bytes pool r) (more ++ rest) e₁ in
    event-step s pool a.0 r rs n _ _ a.1 a.2
    (by_test (eqb r.kind 2)
    (λ b. let fs : FormedAttributes rs = rw b at f.1 in
    rw (b, ← z) (attributes-at s rs (length s) n (after (length pool) a.0) (keep_row pool r) rest (stands-count s pool a.0 r (length pool) a.2 refl) (keep_row-small pool r small) fs na d (omega arith)))
    (λ b. let q : rs ≡ [] = rw b at f.1 in
    rw (b, q) (record { rows = refl; names = refl; ends = (sym (rw (append-nil (row_bytes pool r))), refl) })))

first_kind : (r : Row) → FormedFirst r → r.kind ≤ 10
first_kind r f =
    by_test (ltb r.kind 2) (λ a. omega (arith, ltb-true r.kind 2 a))
    (λ a. by_test (ltb r.kind 4) (λ b. omega (arith, ltb-true r.kind 4 b))
    (λ b. by_test (leb r.kind 10) (λ c. leb-true r.kind 10 c) (λ c. absurd (rw (a, b, c) at f))))

pub no-attribute : (es : List Event) (pool : Pool) → FormedEvents es → NoAttribute (rows_bytes pool (flat es))
unfolding flat rows_bytes row_bytes
no-attribute [] pool f = tt
no-attribute ([] ∷ es) pool f = absurd f.0
no-attribute ((r ∷ rs) ∷ es) pool f = let k = first_kind r f.0.0 in ne_eqb (command (token_type r * 16 + r.kind)) 15 (λ z. omega (arith, command-token (token_type r) r.kind (omega arith)))
