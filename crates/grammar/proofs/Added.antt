-- The names that an event adds to the pool: they are the bytes of spans that lie in the input.
use Rattle.std.specs.Prelude.{true, false, ◌≡◌, refl, ℕ, ◌+◌, length, drop, ltb}
use Rattle.std.proofs.Math.Option.{Option, none, some}
use mathlib.Core.List.{List, [], ◌∷◌, ◌++◌, map, append_assoc, append-nil}
use Rattle.std.proofs.Math.Path.{sym}
use Rattle.std.proofs.Common.{ap, ◌∙◌, arith, length-append, length-drop, length-take-le}
use Rattle.std.proofs.lemmas.List.{length-map}
use Rattle.event.specs.declared.Shape.{Shape}
use Rattle.grammar.specs.Grammar.{Span, Ref, new, known, Value, Item, Items, item, whole, lacks, stops, most, counted, counted_name, counted_value, after}
use Rattle.grammar.specs.Document.{Pool, bytes_at, keep, pool_of}
use Rattle.grammar.specs.Document as D
use Rattle.grammar.specs.Scan.{adds_ref, adds_name, adds_value, adds_item, adds}
use Rattle.grammar.proofs.Choice.{by_test, cond-by}
use Rattle.grammar.specs.Fits.{In, RefFits, NameFits, ValueFits, ItemFits}
use Rattle.grammar.proofs.Laws.{Agree}
use Rattle.grammar.proofs.Steps.{keep_item-length, keep_name-length}

-- ---- what an event adds to the pool

-- the bytes of spans of s
abbrev pub these : List ℕ → List Span → Pool
these s ts = map (bytes_at s) ts

these-append : (s : List ℕ) (a b : List Span) → these s (a ++ b) ≡ these s a ++ these s b
these-append s [] b = refl
these-append s (t ∷ a) b = ap (λ (r : Pool). bytes_at s t ∷ r) (these-append s a b)

module _ (s : List ℕ) where
  keep-adds : (pool : Pool) (r : Ref) → keep s pool r ≡ pool ++ these s (adds_ref (length pool) r)
  unfolding keep adds_ref
  keep-adds pool (new t) = by_test (ltb (length pool) most) (λ b. rw b) (λ b. rw (b, append-nil pool))
  keep-adds pool (known i) = sym (append-nil pool)

  pub keep_name-adds : (pool : Pool) (r : Option Ref) → D.keep_name s pool r ≡ pool ++ these s (adds_name (length pool) r)
  unfolding D.keep_name adds_name
  keep_name-adds pool none = sym (append-nil pool)
  keep_name-adds pool (some r) = keep-adds pool r

  pub keep_value-adds : (pool : Pool) (v : Value) → D.keep_value s pool v ≡ pool ++ these s (adds_value (length pool) v)
  unfolding D.keep_value adds_value
  keep_value-adds pool Value.nothing = sym (append-nil pool)
  keep_value-adds pool Value.empty = sym (append-nil pool)
  keep_value-adds pool (Value.span t) = sym (append-nil pool)
  keep_value-adds pool (Value.interned r) = keep-adds pool r
  keep_value-adds pool (Value.word w) = sym (append-nil pool)
  keep_value-adds pool (Value.pair h l) = sym (append-nil pool)

  pub grown : (pool : Pool) (ts : List Span) → length (pool ++ these s ts) ≡ length pool + length ts
  grown pool ts = length-append pool (these s ts) ∙ rw (length-map ts (bytes_at s))

  pub keep_item-adds : (pool : Pool) (i : Item) → D.keep_item s pool i ≡ pool ++ these s (adds_item (length pool) i)
  unfolding D.keep_item adds_item
  keep_item-adds pool i =
      let a : List Span = adds_name (length pool) i.name in
      let v : List Span = adds_value (counted_name (length pool) i.name) i.value in
      keep_value-adds (D.keep_name s pool i.name) i.value
      ∙ rw (keep_name-length s pool i.name, keep_name-adds pool i.name, these-append s a v) (append_assoc pool (these s a) (these s v))

  pub pool-adds : (pool : Pool) (is : Items) → pool_of s pool is ≡ pool ++ these s (adds (length pool) is)
  unfolding pool_of adds
  pool-adds pool (item i is) =
      let a : List Span = adds_item (length pool) i in
      let v : List Span = adds (after (length pool) i) is in
      pool-adds (D.keep_item s pool i) is
      ∙ rw (keep_item-length s pool i, keep_item-adds pool i, these-append s a v) (append_assoc pool (these s a) (these s v))
  pool-adds pool (whole n e) = sym (append-nil pool)
  pool-adds pool (lacks k) = sym (append-nil pool)
  pool-adds pool (stops n d) = sym (append-nil pool)

-- ---- they lie in the input

abbrev pub AllIn : ℕ → List Span → Type 0
AllIn l [] = Unit {0}
AllIn l (t ∷ ts) = In l t × AllIn l ts

pub all_in-append : (l : ℕ) (a b : List Span) → AllIn l a → AllIn l b → AllIn l (a ++ b)
all_in-append l [] b p q = q
all_in-append l (t ∷ a) b p q = (p.0, all_in-append l a b p.1 q)

pub adds_ref-in : (l k j : ℕ) (r : Ref) → RefFits l j r → AllIn l (adds_ref k r)
unfolding adds_ref
adds_ref-in l k j (new t) f = cond-by (λ ts. AllIn l ts) (ltb k most) (t ∷ []) [] (λ _. (f, tt)) (λ _. tt)
adds_ref-in l k j (known i) f = tt

adds_name-in : (l k j : ℕ) (r : Option Ref) → NameFits l j r → AllIn l (adds_name k r)
unfolding adds_name
adds_name-in l k j none f = tt
adds_name-in l k j (some r) f = adds_ref-in l k j r f

adds_value-in : (l k j : ℕ) (h : Shape) (v : Value) → ValueFits l j h v → AllIn l (adds_value k v)
unfolding adds_value
adds_value-in l k j h Value.nothing f = tt
adds_value-in l k j h Value.empty f = tt
adds_value-in l k j h (Value.span t) f = tt
adds_value-in l k j h (Value.interned r) f = adds_ref-in l k j r f.0
adds_value-in l k j h (Value.word w) f = tt
adds_value-in l k j h (Value.pair a b) f = tt

pub adds_item-in : (l k j : ℕ) (i : Item) → ItemFits l j i → AllIn l (adds_item k i)
unfolding adds_item
adds_item-in l k j i f =
    let a : List Span = adds_name k i.name in
    all_in-append l a (adds_value (counted_name k i.name) i.value) (adds_name-in l k j i.name f.name-fits) (adds_value-in l (counted_name k i.name) _ _ i.value f.value-fits)

pub adds-in : (s t : List ℕ) (lo k j : ℕ) (is y : Items) → Agree s t j lo is y → AllIn (length s) (adds k is)
unfolding adds
adds-in s t lo k j (item i is) y a =
    let b : List Span = adds_item k i in
    all_in-append (length s) b (adds (after k i) is) (adds_item-in (length s) k j i a.0) (adds-in s t lo (after k i) (after j i) is a.1.0 a.1.2)
adds-in s t lo k j (whole n true) y a = tt
adds-in s t lo k j (whole n false) y a = tt
adds-in s t lo k j (lacks n) y a = tt
adds-in s t lo k j (stops n d) y a = tt

pub bytes_at-length : (s : List ℕ) (t : Span) → In (length s) t → length (bytes_at s t) ≡ t.len
unfolding bytes_at
bytes_at-length s t h = length-take-le t.len (drop t.start s) (simp length-drop (omega arith))

-- ---- the pool's count and the names that join it

pub counted-adds : (k : ℕ) (r : Ref) → counted k r ≡ k + length (adds_ref k r)
unfolding counted adds_ref
counted-adds k (new t) = by_test (ltb k most) (λ b. rw b) (λ b. rw b (omega arith))
counted-adds k (known i) = omega arith

pub counted_name-adds : (k : ℕ) (r : Option Ref) → counted_name k r ≡ k + length (adds_name k r)
unfolding counted_name adds_name
counted_name-adds k none = omega arith
counted_name-adds k (some r) = counted-adds k r

pub counted_value-adds : (k : ℕ) (v : Value) → counted_value k v ≡ k + length (adds_value k v)
unfolding counted_value adds_value
counted_value-adds k Value.nothing = omega arith
counted_value-adds k Value.empty = omega arith
counted_value-adds k (Value.span t) = omega arith
counted_value-adds k (Value.interned r) = counted-adds k r
counted_value-adds k (Value.word w) = omega arith
counted_value-adds k (Value.pair a b) = omega arith

pub after-adds : (k : ℕ) (i : Item) → after k i ≡ k + length (adds_item k i)
unfolding after adds_item
after-adds k i =
    let a : List Span = adds_name k i.name in
    let b : List Span = adds_value (counted_name k i.name) i.value in
    omega (arith, counted_value-adds (counted_name k i.name) i.value, counted_name-adds k i.name, length-append a b)
