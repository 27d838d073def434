-- The second pass, field by field: what was read before, and the words that it makes.
use Rattle.std.proofs.Common.{cond, List, [], ◌∷◌, ◌≡◌, refl, ℕ, ◌+◌, ◌-◌, ◌*◌, ◌≤◌, ◌<◌, le-ltb, arith, length, get_or}
use Rattle.wire.specs.Limits.{max_store}
use Rattle.wire.specs.Header.{u32_of, u32_at}
use Rattle.wire.specs.Token.{interned_new}
use Rattle.event.specs.Row.{shape}
use Rattle.event.specs.declared.Shape.TheVariants as Shape
use Rattle.grammar.specs.Reader.{Read, got, short, refused, next}
use Rattle.grammar.specs.Grammar.{Span, Ref, new, known, Value, u16, u32, u64, blob, name, value, shaped}
use Rattle.grammar.specs.Scan.{adds_ref, adds_value, span_words, ref_words, value_words}
use Rattle.grammar.proofs.Binds.{Got}
use Rattle.grammar.proofs.Values.{as_text, as_interned, as_word, as_pair, value-by}
use Rattle.grammar.specs.Trusted.{always}
use Rattle.grammar.proofs.Again.{blob-two, blob-spans, name-two, u32-four, u64-eight, new_two, new-spans, known-below, known_is}
use Rattle.scanner.specs.declared.fill.Home.{Home}
use Rattle.scanner.specs.declared.fill.Kept.{Kept}
use Rattle.scanner.specs.declared.fill.Filled.{Filled}
use Rattle.quick.specs.Quick.{words_of}
use Rattle.scanner.specs.Fill.{pooled_in, Room, Keeps, Has, Once, Within, SpanFilled, RefFilled, ValueFilled}
use Rattle.scanner.proofs.Keeping.{keeps-none}

-- ---- what was read

module _ {A : Type 0} (P : A → Type 0) where
  pub has-got : (x : Read A) → Has P x → Got x
  has-got (got a n) h = record { it = a; place = n; is = refl }
  has-got (short k) h = absurd h
  has-got (refused n d) h = absurd h

  pub has-as : (x y : Read A) → x ≡ y → Has P y → Has P x
  has-as x y e h = rw e h

  pub has-it : (x : Read A) (a : A) (n : ℕ) → x ≡ got a n → Has P x → P a
  has-it x a n e h = rw e at h

  pub it-has : (x : Read A) (a : A) (n : ℕ) → x ≡ got a n → P a → Has P x
  it-has x a n e p = rw e p

module _ {A : Type 0} (P : A → ℕ → Type 0) where
  pub once-got : (x : Read A) (a : A) (n : ℕ) → x ≡ got a n → P a n → Once P x
  once-got x a n e p = rw e p

  pub once-as : (x y : Read A) → x ≡ y → Once P y → Once P x
  once-as x y e h = rw e h

  pub once-it : (x : Read A) (a : A) (n : ℕ) → x ≡ got a n → Once P x → P a n
  once-it x a n e h = rw e at h

-- ---- a length or an index

pub field-is : (s : List ℕ) (at j v : ℕ) → at + 2 ≤ length s → j ≡ at + 1 → v ≡ get_or s at 0 * 256 + get_or s j 0 → u16 s at ≡ got v (at + 2)
unfolding u16
field-is s at j v h m e = rw (le-ltb (length s - at) 2 (omega arith), e, m)

-- the second number of a pair
pub pair-low : (s : List ℕ) (at v : ℕ) → v ≡ u32_of (get_or s (at + 4) 0) (get_or s (at + 5) 0) (get_or s (at + 6) 0) (get_or s (at + 7) 0) → v ≡ u32_at s (at + 4)
unfolding u32_at
pair-low s at v e =
    let a : at + 4 + 1 ≡ at + 5 = omega arith in
    let b : at + 4 + 2 ≡ at + 6 = omega arith in
    let c : at + 4 + 3 ≡ at + 7 = omega arith in
    rw (a, b, c) e

-- ---- a name

module _ (h : Home) (s : List ℕ) (k : Kept) (at : ℕ) (table store : List ℕ) (w : Within s at h.base)
    (g : Has (λ r. Room h k (adds_ref k.names r) table store) (name always k.names s at)) where
  abbrev named : Read Ref
  named = name always k.names s at

  name-got : Got named
  name-got = has-got (λ r. Room h k (adds_ref k.names r) table store) named g

  pub name-begins : at + 2 ≤ length s
  name-begins = name-two s at always k.names name-got

  module _ (i : ℕ) (e : u16 s at ≡ got i (at + 2)) where
    module _ (n : i ≡ interned_new) where
      pub new-begins : at + 2 + 2 ≤ length s
      new-begins = omega (arith, new_two k.names s at i e name-got n)

      module _ (v : ℕ) (f : u16 s (at + 2) ≡ got v (at + 2 + 2)) where
        abbrev its : Span
        its = record { start = at + 4; len = v }

        spans : (at + 4 + v ≤ length s) × (named ≡ got (new its) (at + 4 + v))
        spans = new-spans k.names s at i e name-got n v f

        pub new-asks : ((at + 4 + v ≤ length s) × (h.base + length s ≤ max_store)) × Room h k (adds_ref k.names (new its)) table store
        new-asks = ((spans.0, w.in-store), has-it (λ r. Room h k (adds_ref k.names r) table store) named (new its) (at + 4 + v) spans.1 g)

        pub new-filled : (table₁ store₁ : List ℕ) (f : Filled) → Keeps h s k (adds_ref k.names (new its)) table table₁ store store₁ f.kept
            → words_of f.words ≡ 0 ∷ (h.base + (at + 4)) ∷ v ∷ [] → f.next ≡ at + 4 + v → Once (RefFilled h s k table table₁ store store₁ f) named
        unfolding ref_words span_words
        new-filled table₁ store₁ f q a b =
            once-got (RefFilled h s k table table₁ store store₁ f) named (new its) (at + 4 + v) spans.1 (record { said = a; moved = b; keeps = q })

    module _ (o : i ≡ interned_new → ⊥) where
      pub known-room : 2 * i + 1 < length table
      unfolding adds_ref
      known-room =
          let r = has-it (λ r. Room h k (adds_ref k.names r) table store) named (known i) (at + 2) (known_is k.names s at i e name-got o) g in
          omega (arith, known-below k.names s at i e name-got o, r.pairs-fit)

      pub known-filled : (f : Filled) → f.kept ≡ k → words_of f.words ≡ cond h.copied 1 0 ∷ get_or table (2 * i) 0 ∷ get_or table (2 * i + 1) 0 ∷ [] → f.next ≡ at + 2
          → Once (RefFilled h s k table table store store f) named
      unfolding ref_words adds_ref
      known-filled f c a b =
          once-got (RefFilled h s k table table store store f) named (known i) (at + 2) (known_is k.names s at i e name-got o)
          (record { said = a; moved = b; keeps = rw c (keeps-none h s k table store) })

-- ---- a span

module _ (s : List ℕ) (at base : ℕ) (k : Kept) (w : Within s at base) (g : Has (λ (t : Span). Unit {0}) (blob s at)) where
  blob-got : Got (blob s at)
  blob-got = has-got (λ (t : Span). Unit {0}) (blob s at) g

  pub span_begins : at + 2 ≤ length s
  span_begins = blob-two s at blob-got

  module _ (v : ℕ) (e : u16 s at ≡ got v (at + 2)) where
    pub span-stored : base + (at + 2 + v) ≤ max_store
    span-stored = omega (arith, (blob-spans s at v e blob-got).0, w.in-store)

    pub span_filled : (f : Filled) → words_of f.words ≡ 0 ∷ (base + (at + 2)) ∷ v ∷ [] → f.next ≡ at + 2 + v → f.kept ≡ k → Once (SpanFilled base k f) (blob s at)
    span_filled f a b c =
        once-got (SpanFilled base k f) (blob s at) (record { start = at + 2; len = v }) (at + 2 + v) (blob-spans s at v e blob-got).1 (record { said = a; moved = b; stays = c })

-- ---- a value, by its field

module _ {A : Type 0} (f : A → Value) (P : Value → Type 0) where
  pub has-field : (x : Read A) → Has P (next x (λ a n. got (f a) n)) → Has (λ a. P (f a)) x
  has-field (got a n) h = h
  has-field (short k) h = h
  has-field (refused n d) h = h

pub has-any : {A : Type 0} (P : A → Type 0) (x : Read A) → Has P x → Has (λ (a : A). Unit {0}) x
has-any P (got a n) h = tt
has-any P (short k) h = h
has-any P (refused n d) h = h

-- a number has its bytes
module _ (h : Home) (s : List ℕ) (k : Kept) (type at : ℕ) (table store : List ℕ)
    (g : Has (λ v. Room h k (adds_value k.names v) table store) (value always k.names type s at)) where
  pub word-there : shape type ≡ Shape.Word → at + 4 ≤ length s
  unfolding shaped
  word-there e =
      let z = rw (value-by always k.names type s at Shape.Word e) at g in
      (u32-four s at (has-got _ _ (has-field Value.word (λ v. Room h k (adds_value k.names v) table store) (u32 s at) z))).0

  pub pair-there : shape type ≡ Shape.Pair → at + 8 ≤ length s
  unfolding shaped
  pair-there e =
      let z = rw (value-by always k.names type s at Shape.Pair e) at g in
      (u64-eight s at (has-got _ _ (has-field (λ w. Value.pair w.0 w.1) (λ v. Room h k (adds_value k.names v) table store) (u64 s at) z))).0

module _ (h : Home) (s : List ℕ) (k : Kept) (table store : List ℕ) (f : Filled) where
  -- what is no name
  plain-filled : (v : Value) (n : ℕ) → adds_value k.names v ≡ [] → f.kept ≡ k → words_of f.words ≡ value_words (pooled_in h) h.base table v → f.next ≡ n
      → ValueFilled h s k table table store store f v n
  plain-filled v n e c a b = record { said = a; moved = b; keeps = rw (e, c) (keeps-none h s k table store) }

  pub text-filled : (x : Read Span) → Once (SpanFilled h.base k f) x → Once (ValueFilled h s k table table store store f) (as_text x)
  unfolding adds_value value_words span_words
  text-filled (got t n) q = plain-filled (Value.span t) n refl q.stays q.said q.moved
  text-filled (short j) q = tt
  text-filled (refused n d) q = tt

  pub name-filled : (table₁ store₁ : List ℕ) (x : Read Ref) → Once (RefFilled h s k table table₁ store store₁ f) x → Once (ValueFilled h s k table table₁ store store₁ f) (as_interned x)
  unfolding adds_value value_words
  name-filled table₁ store₁ (got r n) q = q
  name-filled table₁ store₁ (short j) q = tt
  name-filled table₁ store₁ (refused n d) q = tt

  module _ (at : ℕ) where
    pub nothing-filled : f.kept ≡ k → words_of f.words ≡ 0 ∷ 0 ∷ 0 ∷ [] → f.next ≡ at → ValueFilled h s k table table store store f Value.nothing at
    unfolding adds_value value_words
    nothing-filled c a b = plain-filled Value.nothing at refl c a b

    pub word-filled : Got (u32 s at) → f.kept ≡ k → words_of f.words ≡ 0 ∷ 0 ∷ u32_at s at ∷ [] → f.next ≡ at + 4
        → Once (ValueFilled h s k table table store store f) (as_word (u32 s at))
    unfolding adds_value value_words
    word-filled g c a b = rw (u32-four s at g).1 (plain-filled (Value.word (u32_at s at)) (at + 4) refl c a b)

    pub pair-filled : Got (u64 s at) → f.kept ≡ k → words_of f.words ≡ 0 ∷ u32_at s at ∷ u32_at s (at + 4) ∷ [] → f.next ≡ at + 8
        → Once (ValueFilled h s k table table store store f) (as_pair (u64 s at))
    unfolding adds_value value_words
    pair-filled g c a b = rw (u64-eight s at g).1 (plain-filled (Value.pair (u32_at s at) (u32_at s (at + 4))) (at + 8) refl c a b)
