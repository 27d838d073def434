-- The numbers of the grammar's refusals: input that ends in an event is 3, 4 or 5, and what no byte that follows can mend is 6 to 9.
use Rattle.std.specs.Prelude.{Bool, true, false, cond, List, [], ◌∷◌, ◌≡◌, refl, ℕ, zero, suc, ◌+◌, ◌*◌, ◌-◌, ◌≤◌, length, get_or, take, drop, ltb, leb, eqb}
use Rattle.std.proofs.Common.{arith}
use Rattle.grammar.specs.Reader.{Read, Reader, got, short, refused, ◌>>=◌, next, give, refuse}
use Rattle.utf8.specs.Utf8.{well_formed}
use Rattle.event.specs.Row.{shape}
use Rattle.event.specs.declared.Shape.{Shape}
use Rattle.wire.specs.Refusal.{unexpected_eof, unknown_attribute_type}
use Rattle.wire.specs.Token.{command, interned_new}
use Rattle.wire.specs.Token as Token
use Rattle.grammar.specs.Grammar.{Ref, new, known, Value, Item, Items, item, whole, lacks, stops, byte, u16, u32, u64, raw, utf8, blob, string, counted, after, then_items, name, shaped, value, attribute, first, attributes_f, event}
use Rattle.grammar.specs.Document.{all, Short, Lasting}
use Rattle.grammar.proofs.Choice.{by_test, cond-by}
use Rattle.grammar.specs.Scan.{bad, outcome}

-- ---- readers

-- refused with a number up to `most`
abbrev pub Numbered : ℕ → {A : Type 0} → Read A → Type 0
Numbered most (got a n) = Unit {0}
Numbered most (short n) = Short n
Numbered most (refused n d) = (6 ≤ n) × (n ≤ most)

module _ (s : List ℕ) (most : ℕ) where
  pub record Numbers {A : Type 0} (r : Reader A) : Type 0 where
    pub law : (at : ℕ) → Numbered most (r s at)

  numbers-bind : {A B : Type 0} (r : Reader A) (k : A → Reader B) → Numbers r → ((a : A) → Numbers (k a)) → Numbers (r >>= k)
  numbers-bind {A} {B} r k gr gk = record { law = λ at. go (r s at) (gr.law at) }
    where
      go : (x : Read A) → Numbered most x → Numbered most (next x (λ a n. k a s n))
      go (got a n) w = (gk a).law n
      go (short n) w = w
      go (refused n d) w = w

  numbers-cond : {A : Type 0} (b : Bool) (x y : Reader A) → Numbers x → Numbers y → Numbers (cond b x y)
  numbers-cond b x y p q = cond-by (λ r. Numbers r) b x y (λ _. p) (λ _. q)

  numbers-give : {A : Type 0} (a : A) → Numbers (give a)
  numbers-give a = record { law = λ at. tt }

  numbers-refuse : {A : Type 0} (n d : ℕ) → (6 ≤ n) × (n ≤ most) → Numbers {A = A} (refuse n d)
  numbers-refuse n d h = record { law = λ at. h }

  -- so many bytes, or the input ends
  numbers-there : {A : Type 0} (b : Bool) (n : ℕ) (x : Read A) → Short n → Numbered most x → Numbered most (cond b (short n) x)
  numbers-there b n x h w = cond-by (λ y. Numbered most y) b (short n) x (λ _. h) (λ _. w)

  numbers-byte : Numbers byte
  unfolding byte
  numbers-byte = record { law = λ at. numbers-there (ltb (length s - at) 1) 3 _ (omega arith) tt }

  numbers-u16 : Numbers u16
  unfolding u16
  numbers-u16 = record { law = λ at. numbers-there (ltb (length s - at) 2) 3 _ (omega arith) tt }

  numbers-u32 : Numbers u32
  unfolding u32
  numbers-u32 = record { law = λ at. numbers-there (ltb (length s - at) 4) 3 _ (omega arith) tt }

  numbers-u64 : Numbers u64
  unfolding u64
  numbers-u64 = record { law = λ at. numbers-there (ltb (length s - at) 8) 3 _ (omega arith) tt }

  numbers-raw : (n : ℕ) → Numbers (raw n)
  unfolding raw
  numbers-raw n = record { law = λ at. numbers-there (ltb (length s - at) n) 5 _ (omega arith) tt }

  numbers-blob : Numbers blob
  unfolding blob
  numbers-blob = numbers-bind u16 raw numbers-u16 numbers-raw

  module _ (more : 7 ≤ most) where
    numbers-utf8 : (n : ℕ) → Numbers (utf8 n)
    unfolding utf8
    numbers-utf8 n = record {
      law = λ at.
          numbers-there (ltb (length s - at) n) 4 _ (omega arith)
          (cond-by (λ y. Numbered most y) (well_formed (take n (drop at s))) (got (record { start = at; len = n }) (at + n)) (refused 7 0) (λ _. tt) (λ _. omega arith));
    }

    numbers-string : Numbers string
    unfolding string
    numbers-string = numbers-bind u16 utf8 numbers-u16 numbers-utf8

    -- a name is refused with 6 or 7 alone
    numbers-name : (names : ℕ) → Numbers (name all names)
    unfolding name
    numbers-name names =
        numbers-bind u16 _ numbers-u16 (λ i.
        numbers-cond (eqb i interned_new) _ _
        (numbers-bind string _ numbers-string (λ t. numbers-give (new t)))
        (numbers-cond (ltb i names) _ _ (numbers-give (known i)) (numbers-refuse 6 i (omega arith))))

  module _ (more : 9 ≤ most) where
    abbrev strings : Numbers string
    strings = numbers-string (omega arith)

    abbrev named : (names : ℕ) → Numbers (name all names)
    named names = numbers-name (omega arith) names

    numbers-shaped : (names type : ℕ) (h : Shape) → Numbers (shaped all names type h)
    unfolding shaped
    numbers-shaped names type Shape.Nothing = numbers-give Value.nothing
    numbers-shaped names type Shape.String = numbers-bind string _ strings (λ t. numbers-give (Value.span t))
    numbers-shaped names type Shape.Interned = numbers-bind (name all names) _ (named names) (λ r. numbers-give (Value.interned r))
    numbers-shaped names type Shape.Blob = numbers-bind blob _ numbers-blob (λ t. numbers-give (Value.span t))
    numbers-shaped names type Shape.Word = numbers-bind u32 _ numbers-u32 (λ w. numbers-give (Value.word w))
    numbers-shaped names type Shape.Pair = numbers-bind u64 _ numbers-u64 (λ w. numbers-give (Value.pair w.0 w.1))
    numbers-shaped names type Shape.Unknown = numbers-refuse 8 (type * 16) (omega arith)

    numbers-attribute : (names : ℕ) → Numbers (attribute all names)
    unfolding attribute value
    numbers-attribute names =
        numbers-bind byte _ numbers-byte (λ x.
        numbers-bind (name all names) _ (named names) (λ r.
        numbers-bind (shaped all (counted names r) (Token.type x) (shape (Token.type x))) _ (numbers-shaped (counted names r) (Token.type x) (shape (Token.type x)))
        (λ v. numbers-give _)))

    numbers-first : (names : ℕ) → Numbers (first all names)
    unfolding first
    numbers-first names =
        numbers-bind byte _ numbers-byte (λ x.
        numbers-cond (ltb (command x) 2) _ _ (numbers-give _)
        (numbers-cond (ltb (command x) 4) _ _ (numbers-bind (name all names) _ (named names) (λ r. numbers-give _))
        (numbers-cond (leb (command x) 10) _ _
        (numbers-cond (eqb (Token.type x) 2) _ _ (numbers-bind string _ strings (λ t. numbers-give _)) (numbers-give _))
        (numbers-refuse 9 (command x) (omega arith)))))

-- 8 comes after the attribute's name is read
pub type-after-name : (names : ℕ) (s : List ℕ) (at d : ℕ) → attribute all names s at ≡ refused unknown_attribute_type d
    → (r : Ref) × ((n : ℕ) × (name all names s (at + 1) ≡ got r n))
unfolding attribute byte
type-after-name names s at d h =
    by_test (ltb (length s - at) 1)
    (λ b. let e : ◌≡◌ {A = Read Item} (short 3) (refused 8 d) = rw b at h in let z : ◌≡◌ {A = ℕ} 0 1 = cc e in absurd (omega arith))
    (λ b. go (name all names s (at + 1)) _ refl ((numbers-name s 7 (omega arith) names).law (at + 1)) (rw b at h))
  where
    go : (x : Read Ref) (k : Ref → ℕ → Read Item) → name all names s (at + 1) ≡ x → Numbered 7 x → next x k ≡ refused 8 d
        → (r : Ref) × ((n : ℕ) × (name all names s (at + 1) ≡ got r n))
    go (got r n) k e w h = (r, (n, e))
    go (short n) k e w h = let z : ◌≡◌ {A = ℕ} 0 1 = cc h in absurd (omega arith)
    go (refused n c) k e w h = let z : n ≡ 8 = cc h in absurd (omega arith)

-- so a token of type 14 with nothing after it lacks bytes
pub type-alone : attribute all 0 (0xEF ∷ []) 0 ≡ short unexpected_eof
unfolding attribute byte name u16 Token.type
type-alone = refl

-- ---- an event

abbrev pub NumberedItems : Items → Type 0
NumberedItems (item i is) = NumberedItems is
NumberedItems (whole n e) = Unit {0}
NumberedItems (lacks n) = Short n
NumberedItems (stops n d) = Lasting n

then-numbered : (x : Read Item) (k : Item → ℕ → Items) → Numbered 9 x → ((i : Item) (n : ℕ) → NumberedItems (k i n)) → NumberedItems (then_items x k)
then-numbered (got i n) k w h = h i n
then-numbered (short n) k w h = w
then-numbered (refused n d) k w h = w

attributes-numbered : (f names : ℕ) (s : List ℕ) (at : ℕ) → NumberedItems (attributes_f all f names s at)
unfolding attributes_f
attributes-numbered zero names s at = tt
attributes-numbered (suc f) names s at =
    cond-by NumberedItems (ltb at (length s)) _ _
    (λ _. cond-by NumberedItems (eqb (command (get_or s at 0)) 15) _ _
    (λ _. then-numbered (attribute all names s at) _ ((numbers-attribute s 9 (omega arith) names).law at) (λ i n. attributes-numbered f (after names i) s n)) (λ _. tt))
    (λ _. tt)

pub event-numbered : (names : ℕ) (s : List ℕ) → NumberedItems (event all names s)
unfolding event
event-numbered names s =
    then-numbered (first all names s 0) _ ((numbers-first s 9 (omega arith) names).law 0)
    (λ i n. cond-by NumberedItems (eqb i.kind 2) _ _ (λ _. attributes-numbered (length s) (after names i) s n) (λ _. tt))

-- ---- a refusal, by whether more may come

abbrev pub RefusedBy : Bool → ℕ → Type 0
RefusedBy true n = (3 ≤ n) × (n ≤ 9)
RefusedBy false n = Lasting n

pub refused-by : (finished : Bool) (is : Items) (n d : ℕ) → NumberedItems is → outcome finished is ≡ bad n d → RefusedBy finished n
unfolding outcome
refused-by finished (item i is) n d w h = refused-by finished is n d w h
refused-by true (whole m true) n d w h = let z : ◌≡◌ {A = ℕ} 0 1 = cc h in absurd (omega arith)
refused-by true (whole m false) n d w h = let z : ◌≡◌ {A = ℕ} 0 1 = cc h in absurd (omega arith)
refused-by false (whole m true) n d w h = let z : ◌≡◌ {A = ℕ} 0 1 = cc h in absurd (omega arith)
refused-by false (whole m false) n d w h = let z : ◌≡◌ {A = ℕ} 0 1 = cc h in absurd (omega arith)
refused-by true (lacks m) n d w h = let e : m ≡ n = cc h in omega arith
refused-by false (lacks m) n d w h = let z : ◌≡◌ {A = ℕ} 0 1 = cc h in absurd (omega arith)
refused-by true (stops m c) n d w h = let e : m ≡ n = cc h in omega arith
refused-by false (stops m c) n d w h = let e : m ≡ n = cc h in omega arith

pub number_of : (finished : Bool) (n : ℕ) → RefusedBy finished n → (1 ≤ n) × (n ≤ 9)
number_of true n h = omega arith
number_of false n h = omega arith
