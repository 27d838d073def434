-- Laws of numbers and bytes as text.
use Rattle.std.specs.Prelude.{List, [], ◌∷◌, ◌++◌, ◌≡◌, refl, ℕ, zero, suc, ◌+◌, ◌*◌, ◌/◌, ◌%◌, ◌^◌, ◌≤◌, ◌<◌, ltb, length}
use Rattle.std.proofs.Common.{append_assoc, sym, ap, ◌∙◌, not-suc-le-zero, mul-le-mul_right, arith, lt-ltb, le-ltb, ltb-false}
use Rattle.std.proofs.Math.Nat.{div-lt_self, mul-div-le}
use Rattle.grammar.proofs.Choice.{by_test}
use Rattle.text.specs.Numerals.{digit, hex, numeral_in, numeral, base64}
use Rattle.text.specs.Put.{Put}
use Rattle.text.specs.PutLaws.{put_both}

-- ---- numbers

-- any number of digits large enough gives the same
enough : (base j k n : ℕ) → 2 ≤ base → n < j → n < k → numeral_in base j n ≡ numeral_in base k n
unfolding numeral_in
enough base zero k n b h g = absurd (not-suc-le-zero h)
enough base (suc j) zero n b h g = absurd (not-suc-le-zero g)
enough base (suc j) (suc k) n b h g =
    by_test (ltb n base)
    (λ t. rw t)
    (λ t.
    let m = ltb-false n base t in
    let less : n / base < n = div-lt_self (omega arith) b in
    rw (t, enough base j k (n / base) b (omega arith) (omega arith)))

pub numeral-one : (base n : ℕ) → n < base → numeral base n ≡ digit n ∷ []
unfolding numeral numeral_in
numeral-one base n h = rw (lt-ltb n base h)

unrolled : (base k n : ℕ) → base ≤ n → numeral_in base (suc k) n ≡ numeral_in base k (n / base) ++ (digit (n % base) ∷ [])
unfolding numeral_in
unrolled base k n h = rw (le-ltb n base h)

pub numeral-more : (base n : ℕ) → 2 ≤ base → base ≤ n → numeral base n ≡ numeral base (n / base) ++ (digit (n % base) ∷ [])
unfolding numeral
numeral-more base n b h =
    let less : n / base < n = div-lt_self (omega arith) b in
    unrolled base n n h ∙ rw (enough base n (suc (n / base)) (n / base) b less (omega arith))

-- a digit less to a base of ten or more
pub one_less : (base n k : ℕ) → 10 ≤ base → n < 10 ^ suc k → n / base < 10 ^ k
one_less base n k b h =
    let all : base * (n / base) ≤ n = mul-div-le n base in
    let some : 10 * (n / base) ≤ base * (n / base) = mul-le-mul_right (n / base) b in
    omega arith

-- ---- bytes

pub hex-length : (s : List ℕ) → length (hex s) ≡ length s * 2
unfolding hex
hex-length [] = refl
hex-length (b ∷ s) = omega (arith, hex-length s)

pub hex-append : (s t : List ℕ) → hex (s ++ t) ≡ hex s ++ hex t
unfolding hex
hex-append [] t = refl
hex-append (b ∷ s) t = rw (hex-append s t)

-- ---- a text put part by part

-- a text of the bytes s that has been put up to the rest of them
pub record Begun (text : List ℕ → List ℕ) (s l : List ℕ) (at : ℕ) (rest l' : List ℕ) (end : ℕ) : Type 0 where
  pub so_far : List ℕ
  pub whole : so_far ++ text rest ≡ text s
  pub there : Put l at so_far l' end

pub begun_more : (text : List ℕ → List ℕ) (s l : List ℕ) (at : ℕ) (r₁ r₂ l₁ l₂ more : List ℕ) (e₁ e₂ : ℕ) → Begun text s l at r₁ l₁ e₁
    → text r₁ ≡ more ++ text r₂ → Put l₁ e₁ more l₂ e₂ → Begun text s l at r₂ l₂ e₂
begun_more text s l at r₁ r₂ l₁ l₂ more e₁ e₂ b e p =
    record {
      so_far = b.so_far ++ more;
      whole = append_assoc b.so_far more (text r₂) ∙ ap (λ (t : List ℕ). b.so_far ++ t) (sym e) ∙ b.whole;
      there = put_both l at b.so_far more l₁ l₂ e₁ e₂ b.there p;
    }

pub begun_all : (text : List ℕ → List ℕ) (s l : List ℕ) (at : ℕ) (rest l₁ l₂ : List ℕ) (e₁ e₂ : ℕ) → Begun text s l at rest l₁ e₁
    → Put l₁ e₁ (text rest) l₂ e₂ → Put l at (text s) l₂ e₂
begun_all text s l at rest l₁ l₂ e₁ e₂ b p =
    let all = put_both l at b.so_far (text rest) l₁ l₂ e₁ e₂ b.there p in
    rw b.whole at all

pub base64-length : (s : List ℕ) → length (base64 s) ≡ (length s + 2) / 3 * 4
unfolding base64
base64-length [] = refl
base64-length (a ∷ []) = refl
base64-length (a ∷ b ∷ []) = refl
base64-length (a ∷ b ∷ c ∷ s) = omega (arith, base64-length s)
