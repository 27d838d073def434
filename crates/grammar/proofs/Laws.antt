-- Laws of the readers: what is read lies in the input, and more input changes nothing that was read.
use Rattle.std.specs.Prelude.{Bool, true, ◌≡◌, get_or, take, drop, ltb, leb, eqb}
use Rattle.std.proofs.Math.Bool.{false, cond}
use mathlib.Core.List.{List, [], ◌++◌}
use Rattle.std.proofs.Math.Path.{refl, ap}
use Prim.Native.Nat.{ℕ, zero, suc, ◌+◌, ◌*◌, ◌-◌, ◌≤◌, ◌<◌}
use native.Mathlib.Omega.{arith}
use borrow.Author.Tests.{leb-true, ltb-true, ltb-false, lt-ltb, le-ltb, ne_eqb}
use Rattle.std.proofs.Math.ListN.{length, length-append, get_or-append}
use Rattle.std.proofs.Common.{length-drop}
use Rattle.std.proofs.lemmas.List.{take-append-le, drop-append-le}
use Rattle.grammar.specs.Reader.{Read, Reader, got, short, refused, ◌>>=◌, next, give, refuse}
use Rattle.utf8.specs.Utf8.{well_formed}
use Rattle.event.specs.Row.{shape, shapes, has_name}
use Rattle.event.specs.declared.Shape.{Shape}
use Rattle.grammar.specs.Grammar.{Span, new, known, Value, Item, Items, item, whole, lacks, stops, byte, u16, u32, u64, raw, utf8, blob, string, counted, counted_name, after, then_items, name, shaped, value, attribute, first, attributes_f, event}
use Rattle.wire.specs.Header.{u32_at}
use Rattle.wire.specs.Token.{command, interned_new}
use Rattle.wire.specs.Token as Token
use Rattle.grammar.specs.Document.{type_of}
use Rattle.grammar.specs.Fits.{In, RefFits, ValueFits, ItemFits}
use Rattle.grammar.proofs.Choice.{by_test, cond-by}
use Rattle.grammar.proofs.KindLaws.{bare-unnamed, tag-named, text-unnamed}

-- the shape of an attribute's type once an interned string counts as a string
abbrev pub plain : Shape → Shape
plain Shape.Nothing = Shape.Nothing
plain Shape.String = Shape.String
plain Shape.Interned = Shape.String
plain Shape.Blob = Shape.Blob
plain Shape.Word = Shape.Word
plain Shape.Pair = Shape.Pair
plain Shape.Unknown = Shape.Unknown

shape-type_of : (n : ℕ) → shape (type_of n) ≡ plain (shape n)
unfolding shape shapes type_of
shape-type_of zero = refl
shape-type_of (suc zero) = refl
shape-type_of (suc (suc zero)) = refl
shape-type_of (suc (suc (suc zero))) = refl
shape-type_of (suc (suc (suc (suc n)))) = rw (ne_eqb (suc (suc (suc (suc n)))) 3 (λ e. omega arith)) (go n)
  where
    go : (n : ℕ) → get_or shapes (suc (suc (suc (suc n)))) Shape.Unknown ≡ plain (get_or shapes (suc (suc (suc (suc n)))) Shape.Unknown)
    go zero = refl
    go (suc zero) = refl
    go (suc (suc zero)) = refl
    go (suc (suc (suc zero))) = refl
    go (suc (suc (suc (suc zero)))) = refl
    go (suc (suc (suc (suc (suc zero))))) = refl
    go (suc (suc (suc (suc (suc (suc zero)))))) = refl
    go (suc (suc (suc (suc (suc (suc (suc zero))))))) = refl
    go (suc (suc (suc (suc (suc (suc (suc (suc zero)))))))) = refl
    go (suc (suc (suc (suc (suc (suc (suc (suc (suc zero))))))))) = refl
    go (suc (suc (suc (suc (suc (suc (suc (suc (suc (suc zero)))))))))) = refl
    go (suc (suc (suc (suc (suc (suc (suc (suc (suc (suc (suc zero))))))))))) = refl
    go (suc (suc (suc (suc (suc (suc (suc (suc (suc (suc (suc (suc n)))))))))))) = refl

module _ (s t : List ℕ) where
  -- what was read at a place moves on by m bytes or more, ends in the input, has the property P and is read from s ++ t too
  abbrev pub Fine : {A : Type 0} → (A → Type 0) → ℕ → ℕ → Read A → Read A → Type 0
  Fine P m at (got a n) y = (at + m ≤ n) × (n ≤ length s) × P a × (y ≡ got a n)
  Fine P m at (short k) y = Unit {0}
  Fine P m at (refused n d) y = y ≡ refused n d

  pub record Good {A : Type 0} (P : A → Type 0) (m : ℕ) (r : Reader A) : Type 0 where
    pub law : (at : ℕ) → at ≤ length s → Fine P m at (r s at) (r (s ++ t) at)

  pub good-bind : {A B : Type 0} (P : A → Type 0) (Q : B → Type 0) (m : ℕ) (r : Reader A) (k : A → Reader B)
      → Good P m r → ((a : A) → P a → Good Q 0 (k a)) → Good Q m (r >>= k)
  good-bind {A} {B} P Q m r k gr gk = record { law = λ at h. go at (r s at) (gr.law at h) }
    where
      go : (at : ℕ) (x : Read A) → Fine P m at x (r (s ++ t) at) → Fine Q m at (next x (λ a n. k a s n)) (next (r (s ++ t) at) (λ a n. k a (s ++ t) n))
      go at (got a n) w = rw w.3 (widen (k a s n) (k a (s ++ t) n) ((gk a w.2).law n w.1))
        where
          widen : (y z : Read B) → Fine Q 0 n y z → Fine Q m at y z
          widen (got b j) z v = (omega arith, v.1, v.2, v.3)
          widen (short j) z v = tt
          widen (refused j d) z v = v
      go at (short j) w = tt
      go at (refused j d) w = rw w

  pub good-cond : {A : Type 0} (P : A → Type 0) (m : ℕ) (b : Bool) (x y : Reader A) → (b ≡ true → Good P m x) → (b ≡ false → Good P m y) → Good P m (cond b x y)
  good-cond P m b x y = cond-by (λ r. Good P m r) b x y

  pub good-give : {A : Type 0} (P : A → Type 0) (a : A) → P a → Good P 0 (give a)
  good-give P a p = record { law = λ at h. (omega arith, h, p, refl) }

  pub good-refuse : {A : Type 0} (P : A → Type 0) (m n d : ℕ) → Good P m (refuse n d)
  good-refuse P m n d = record { law = λ at h. refl }

  abbrev Any : {A : Type 0} → A → Type 0
  Any a = Unit {0}

  abbrev Inside : Span → Type 0
  Inside u = In (length s) u

  -- so many bytes are there: what is read of them is the same in s ++ t
  enough : (at k : ℕ) → ltb (length s - at) k ≡ false → ltb (length (s ++ t) - at) k ≡ false
  enough at k b = le-ltb (length (s ++ t) - at) k (simp length-append (omega (arith, ltb-false (length s - at) k b)))

  pub good-byte : Good Any 1 byte
  unfolding byte
  good-byte = record {
    law = λ at h.
        by_test (ltb (length s - at) 1) (λ b. rw b tt)
        (λ b. let k = ltb-false (length s - at) 1 b in
        rw (b, enough at 1 b, get_or-append s t 0 at (omega arith)) (omega arith, omega arith, tt, refl));
  }

  pub good-u16 : Good Any 0 u16
  unfolding u16
  good-u16 = record {
    law = λ at h.
        by_test (ltb (length s - at) 2) (λ b. rw b tt)
        (λ b. let k = ltb-false (length s - at) 2 b in
        rw (b, enough at 2 b, get_or-append s t 0 at (omega arith), get_or-append s t 0 (at + 1) (omega arith)) (omega arith, omega arith, tt, refl));
  }

  pub u32_at-append : (at : ℕ) → at + 4 ≤ length s → u32_at (s ++ t) at ≡ u32_at s at
  unfolding u32_at
  u32_at-append at h =
      rw (get_or-append s t 0 at (omega arith), get_or-append s t 0 (at + 1) (omega arith), get_or-append s t 0 (at + 2) (omega arith), get_or-append s t 0 (at + 3) (omega arith))

  pub good-u32 : Good Any 0 u32
  unfolding u32
  good-u32 = record {
    law = λ at h.
        by_test (ltb (length s - at) 4) (λ b. rw b tt)
        (λ b. let k = ltb-false (length s - at) 4 b in
        rw (b, enough at 4 b, u32_at-append at (omega arith)) (omega arith, omega arith, tt, refl));
  }

  pub good-u64 : Good Any 0 u64
  unfolding u64
  good-u64 = record {
    law = λ at h.
        by_test (ltb (length s - at) 8) (λ b. rw b tt)
        (λ b. let k = ltb-false (length s - at) 8 b in
        rw (b, enough at 8 b, u32_at-append at (omega arith), u32_at-append (at + 4) (omega arith)) (omega arith, omega arith, tt, refl));
  }

  pub good-raw : (n : ℕ) → Good Inside 0 (raw n)
  unfolding raw
  good-raw n = record {
    law = λ at h.
        by_test (ltb (length s - at) n) (λ b. rw b tt)
        (λ b. let k = ltb-false (length s - at) n b in
        rw (b, enough at n b) (omega arith, omega arith, omega arith, refl));
  }

  -- a part of s is that part of s ++ t
  pub part-append : (n at : ℕ) → at + n ≤ length s → take n (drop at (s ++ t)) ≡ take n (drop at s)
  part-append n at h = rw (drop-append-le at s t (omega arith)) (take-append-le n (drop at s) t (simp length-drop (omega arith)))

  pub good-utf8 : (n : ℕ) → Good Inside 0 (utf8 n)
  unfolding utf8
  good-utf8 n = record {
    law = λ at h.
        by_test (ltb (length s - at) n) (λ b. rw b tt)
        (λ b. let k = ltb-false (length s - at) n b in
        rw (b, enough at n b, part-append n at (omega arith))
        (by_test (well_formed (take n (drop at s))) (λ c. rw c (omega arith, omega arith, omega arith, refl)) (λ c. rw c refl)));
  }

  pub good-blob : Good Inside 0 blob
  unfolding blob
  good-blob = good-bind Any Inside 0 u16 raw good-u16 (λ n _. good-raw n)

  pub good-string : Good Inside 0 string
  unfolding string
  good-string = good-bind Any Inside 0 u16 utf8 good-u16 (λ n _. good-utf8 n)

  module _ (sound : ℕ → Bool) where
    pub good-name : (names : ℕ) → Good (RefFits (length s) names) 0 (name sound names)
    unfolding name
    good-name names =
        let P = RefFits (length s) names in
        good-bind Any P 0 u16 _ good-u16 (λ i _.
        good-cond P 0 (eqb i interned_new) _ _
        (λ _. good-bind Inside P 0 string _ good-string (λ u p. good-give P (new u) p))
        (λ _. good-cond P 0 (ltb i names) _ _
        (λ b. good-cond P 0 (sound i) _ _ (λ _. good-give P (known i) (ltb-true i names b)) (λ _. good-refuse P 0 19 0))
        (λ _. good-refuse P 0 6 i)))

    pub good-shaped : (names type : ℕ) (h : Shape) → Good (ValueFits (length s) names (plain h)) 0 (shaped sound names type h)
    unfolding shaped
    good-shaped names type Shape.Nothing = good-give _ Value.nothing tt
    good-shaped names type Shape.String = good-bind Inside _ 0 string _ good-string (λ u p. good-give _ (Value.span u) (p, tt))
    good-shaped names type Shape.Interned = good-bind (RefFits (length s) names) _ 0 (name sound names) _ (good-name names) (λ r p. good-give _ (Value.interned r) (p, tt))
    good-shaped names type Shape.Blob = good-bind Inside _ 0 blob _ good-blob (λ u p. good-give _ (Value.span u) (p, tt))
    good-shaped names type Shape.Word = good-bind Any _ 0 u32 _ good-u32 (λ w _. good-give _ (Value.word w) refl)
    good-shaped names type Shape.Pair = good-bind Any _ 0 u64 _ good-u64 (λ w _. good-give _ (Value.pair w.0 w.1) refl)
    good-shaped names type Shape.Unknown = good-refuse _ 0 8 (type * 16)

    pub good-attribute : (names : ℕ) → Good (ItemFits (length s) names) 1 (attribute sound names)
    unfolding attribute value counted_name has_name
    good-attribute names =
        let P = ItemFits (length s) names in
        good-bind Any P 1 byte _ good-byte (λ x _.
        good-bind (RefFits (length s) names) P 0 (name sound names) _ (good-name names) (λ r p.
        good-bind (ValueFits (length s) (counted names r) (plain (shape (Token.type x)))) P 0 (shaped sound (counted names r) (Token.type x) (shape (Token.type x))) _
        (good-shaped (counted names r) (Token.type x) (shape (Token.type x))) (λ v q.
        good-give P _ (record { name-fits = p; name-kind = refl; value-fits = rw shape-type_of q }))))

    pub good-first : (names : ℕ) → Good (ItemFits (length s) names) 1 (first sound names)
    unfolding first has_name counted_name type_of shape shapes
    good-first names =
        let P = ItemFits (length s) names in
        good-bind Any P 1 byte _ good-byte (λ x _.
        good-cond P 0 (ltb (command x) 2) _ _
        (λ b. let k = ltb-true (command x) 2 b in good-give P _ (record { name-fits = tt; name-kind = bare-unnamed (command x) k; value-fits = tt }))
        (λ b. good-cond P 0 (ltb (command x) 4) _ _
        (λ c. good-bind (RefFits (length s) names) P 0 (name sound names) _ (good-name names) (λ r p.
        good-give P _ (record { name-fits = p; name-kind = tag-named (command x) (ltb-false (command x) 2 b) (ltb-true (command x) 4 c); value-fits = tt })))
        (λ c. let k = ltb-false (command x) 4 c in good-cond P 0 (leb (command x) 10) _ _
        (λ d. let j = leb-true (command x) 10 d in
        let no : has_name (command x) ≡ false = text-unnamed (command x) k j in
        good-cond P 0 (eqb (Token.type x) 2) _ _
        (λ _. good-bind Inside P 0 string _ good-string (λ u p. good-give P _ (record { name-fits = tt; name-kind = no; value-fits = (p, tt) })))
        (λ _. good-give P _ (record { name-fits = tt; name-kind = no; value-fits = tt })))
        (λ _. good-refuse P 0 9 (command x)))))

  -- the rows of an event read from s and from s ++ t, lo the least place where it may end: the same, unless s ends in it
  abbrev pub Agree : ℕ → ℕ → Items → Items → Type 0
  Agree names lo (item i is) y = ItemFits (length s) names i × ((z : Items) × (y ≡ item i z) × Agree (after names i) lo is z)
  Agree names lo (whole n true) y = (lo ≤ n) × (n ≡ length s)
  Agree names lo (whole n false) y = (lo ≤ n) × (n ≤ length s) × (y ≡ whole n false)
  Agree names lo (lacks k) y = Unit {0}
  Agree names lo (stops n d) y = y ≡ stops n d

  module _ (sound : ℕ → Bool) where
    pub agree-attributes : (lo f g names at : ℕ) → lo ≤ at → at ≤ length s → length s ≤ at + f → length (s ++ t) ≤ at + g
        → Agree names lo (attributes_f sound f names s at) (attributes_f sound g names (s ++ t) at)
    unfolding attributes_f
    agree-attributes lo zero g names at a b c d = (a, omega arith)
    agree-attributes lo (suc f) zero names at a b c d =
        by_test (ltb at (length s))
        (λ p. let k = ltb-true at (length s) p in let q = length-append s t in let z : 1 ≤ 0 = omega arith in absurd (omega arith))
        (λ p. rw p (a, omega (arith, ltb-false at (length s) p)))
    agree-attributes lo (suc f) (suc g) names at a b c d =
        by_test (ltb at (length s))
        (λ p. let k = ltb-true at (length s) p in
        rw (p, lt-ltb at (length (s ++ t)) (simp length-append (omega arith)), get_or-append s t 0 at k)
        (by_test (eqb (command (get_or s at 0)) 15)
        (λ q. rw q (go (λ i n. agree-attributes lo f g (after names i) n) (attribute sound names s at) (attribute sound names (s ++ t) at) ((good-attribute sound names).law at b)))
        (λ q. rw q (a, omega arith, refl))))
        (λ p. rw p (a, omega (arith, ltb-false at (length s) p)))
      where
        go : ((i : Item) (n : ℕ) → lo ≤ n → n ≤ length s → length s ≤ n + f → length (s ++ t) ≤ n + g
            → Agree (after names i) lo (attributes_f sound f (after names i) s n) (attributes_f sound g (after names i) (s ++ t) n))
            → (x y : Read Item) → Fine (ItemFits (length s) names) 1 at x y
            → Agree names lo (then_items x (λ i n. attributes_f sound f (after names i) s n)) (then_items y (λ i n. attributes_f sound g (after names i) (s ++ t) n))
        go ih (got i n) y w = rw w.3 (w.2, (attributes_f sound g (after names i) (s ++ t) n, refl, ih i n (omega arith) w.1 (omega arith) (omega arith)))
        go ih (short k) y w = tt
        go ih (refused n e) y w = rw w

    pub agree-event : (names : ℕ) → Agree names 1 (event sound names s) (event sound names (s ++ t))
    unfolding event
    agree-event names = go (first sound names s 0) (first sound names (s ++ t) 0) ((good-first sound names).law 0 (omega arith))
      where
        go : (x y : Read Item) → Fine (ItemFits (length s) names) 1 0 x y
            → Agree names 1 (then_items x (λ i n. cond (eqb i.kind 2) (attributes_f sound (length s) (after names i) s n) (whole n false)))
            (then_items y (λ i n. cond (eqb i.kind 2) (attributes_f sound (length (s ++ t)) (after names i) (s ++ t) n) (whole n false)))
        go (got i n) y w =
            rw w.3 (
              w.2,
              (
                _,
                refl,
                by_test (eqb i.kind 2)
                    (λ p. rw p (agree-attributes 1 (length s) (length (s ++ t)) (after names i) n (omega arith) w.1 (omega arith) (omega arith)))
                    (λ p. rw p (omega arith, w.1, refl)),
              ),
            )
        go (short k) y w = tt
        go (refused n e) y w = rw w

-- ---- the attributes from a place on, one by one: for the code that walks them

module _ (sound : ℕ → Bool) (s : List ℕ) where
  -- as much fuel as there are bytes left is enough
  pub attributes_f-fuel : (f g names at : ℕ) → at ≤ length s → length s ≤ at + f → length s ≤ at + g → attributes_f sound f names s at ≡ attributes_f sound g names s at
  unfolding attributes_f
  attributes_f-fuel zero zero names at a b c = refl
  attributes_f-fuel zero (suc g) names at a b c = rw (le-ltb at (length s) (omega arith))
  attributes_f-fuel (suc f) zero names at a b c = rw (le-ltb at (length s) (omega arith))
  attributes_f-fuel (suc f) (suc g) names at a b c =
      by_test (ltb at (length s))
      (λ p. rw p
      (by_test (eqb (command (get_or s at 0)) 15)
      (λ q. rw q (go (λ i n. attributes_f-fuel f g (after names i) n) (attribute sound names s at) ((good-attribute s [] sound names).law at a)))
      (λ q. rw q)))
      (λ p. rw p)
    where
      go : ((i : Item) (n : ℕ) → n ≤ length s → length s ≤ n + f → length s ≤ n + g → attributes_f sound f (after names i) s n ≡ attributes_f sound g (after names i) s n)
          → (x : Read Item) → Fine s [] (ItemFits (length s) names) 1 at x (attribute sound names (s ++ []) at)
          → then_items x (λ i n. attributes_f sound f (after names i) s n) ≡ then_items x (λ i n. attributes_f sound g (after names i) s n)
      go ih (got i n) w = ap (λ (y : Items). item i y) (ih i n w.1 (omega arith) (omega arith))
      go ih (short k) w = refl
      go ih (refused n d) w = refl

  -- one attribute more
  pub attributes_f-more : (f names at : ℕ) (i : Item) (n : ℕ) → at < length s → length s ≤ at + f → eqb (command (get_or s at 0)) 15 ≡ true → attribute sound names s at ≡ got i n
      → attributes_f sound f names s at ≡ item i (attributes_f sound f (after names i) s n)
  unfolding attributes_f
  attributes_f-more zero names at i n a b t e = absurd (omega arith)
  attributes_f-more (suc f) names at i n a b t e =
      let w : Fine s [] (ItemFits (length s) names) 1 at (got i n) (attribute sound names (s ++ []) at) = rw e at ((good-attribute s [] sound names).law at (omega arith)) in
      rw (lt-ltb at (length s) a, t, e) (ap (λ (y : Items). item i y) (attributes_f-fuel f (suc f) (after names i) n w.1 (omega arith) (omega arith)))
