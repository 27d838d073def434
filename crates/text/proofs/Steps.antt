-- What a turn of each loop adds.
use Rattle.std.proofs.Common.{List, [], ◌∷◌, ◌++◌, append_assoc, ◌≡◌, refl, sym, ap, ◌∙◌, ℕ, zero, suc, ◌+◌, ◌*◌, ◌-◌, ◌/◌, ◌%◌, ◌^◌, ◌≤◌, ◌<◌, not-suc-le-zero, add-one, arith, length, get_or, set, take, drop, length-append, length-set, length-take-le, take_all, drop-cons}
use Rattle.std.proofs.Math.Seq.{take-suc, length-sets}
use Rattle.std.proofs.lemmas.List.{take-append-drop}
use Rattle.std.proofs.lemmas.List.Edits.{sets}
use Rattle.grammar.proofs.Stores.{sets-append}
use Rattle.byte_copy.specs.Sets.{sets-past}
use Rattle.text.specs.Numerals.{digit, hex, numeral, letter, pad, base64}
use Rattle.text.specs.Put.{after, Put}
use Rattle.text.specs.PutLaws.{put_both}
use Rattle.text.specs.Laws.{numeral-one, numeral-more, one_less, hex-length, hex-append}

-- ---- the digits of a number, the last first

-- what is left is to be put before the digits after a place, and has room there
pub record Digits (base n : ℕ) (bytes : List ℕ) (start left : ℕ) : Type 0 where
  pub size : length bytes ≡ 20
  pub inside : start < 20
  pub few : left < 10 ^ suc start
  pub whole : numeral base left ++ drop (suc start) bytes ≡ numeral base n

drop-set : (l : List ℕ) (i x : ℕ) → i < length l → drop i (set l i x) ≡ x ∷ drop (suc i) l
drop-set [] i x h = absurd (not-suc-le-zero h)
drop-set (y ∷ l) zero x h = refl
drop-set (y ∷ l) (suc i) x h = drop-set l i x (omega arith)

pub room : (start left : ℕ) → 10 ≤ left → left < 10 ^ suc start → 1 ≤ start
room zero left h f = omega arith
room (suc k) left h f = omega arith

pub digit-more : (base n left start d : ℕ) (bytes : List ℕ) → 10 ≤ base → base ≤ left → d ≡ digit (left % base) → Digits base n bytes start left
    → Digits base n (set bytes start d) (start - 1) (left / base)
digit-more base n left zero d bytes b h e g = absurd (not-suc-le-zero (room zero left (omega arith) g.few))
digit-more base n left (suc k) d bytes b h e g =
    let before : suc k - 1 ≡ k = omega arith in
    rw before
    (record {
      size = length-set bytes (suc k) d ∙ g.size;
      inside = omega (arith, g.inside);
      few = one_less base left (suc k) b g.few;
      whole =
          ap (λ (t : List ℕ). numeral base (left / base) ++ t)
          (drop-set bytes (suc k) d (omega (arith, g.inside, g.size)) ∙ ap (λ (x : ℕ). x ∷ drop (suc (suc k)) bytes) e)
          ∙ sym (append_assoc (numeral base (left / base)) (digit (left % base) ∷ []) (drop (suc (suc k)) bytes))
          ∙ ap (λ (t : List ℕ). t ++ drop (suc (suc k)) bytes) (sym (numeral-more base left (omega arith) h))
          ∙ g.whole;
    })

pub digits-all : (base n left start d : ℕ) (bytes : List ℕ) → left < base → d ≡ digit left → Digits base n bytes start left
    → drop start (set bytes start d) ≡ numeral base n
digits-all base n left start d bytes h e g =
    drop-set bytes start d (omega (arith, g.inside, g.size))
    ∙ ap (λ (x : ℕ). x ∷ drop (suc start) bytes) e
    ∙ ap (λ (t : List ℕ). t ++ drop (suc start) bytes) (sym (numeral-one base left h))
    ∙ g.whole

-- ---- hex digits

hex-more : (s : List ℕ) (i high low : ℕ) → i < length s → high ≡ digit (get_or s i 0 / 16) → low ≡ digit (get_or s i 0 % 16)
    → hex (take (suc i) s) ≡ hex (take i s) ++ (high ∷ low ∷ [])
unfolding hex
hex-more s i high low h f g = ap hex (take-suc s i 0 h) ∙ hex-append (take i s) (get_or s i 0 ∷ []) ∙ rw (f, g)

hex-whole : (s : List ℕ) (n high : ℕ) → n < length s → high ≡ digit (get_or s n 0 / 16)
    → (hex (take n s) ++ (high ∷ [])) ++ (digit (get_or s n 0 % 16) ∷ hex (drop (suc n) s)) ≡ hex s
unfolding hex
hex-whole s n high h f =
    append_assoc (hex (take n s)) (high ∷ []) (digit (get_or s n 0 % 16) ∷ hex (drop (suc n) s))
    ∙ ap (λ (x : ℕ). hex (take n s) ++ (x ∷ digit (get_or s n 0 % 16) ∷ hex (drop (suc n) s))) f
    ∙ sym (hex-append (take n s) (get_or s n 0 ∷ drop (suc n) s))
    ∙ ap (λ (t : List ℕ). hex (take n s ++ t)) (sym (drop-cons s n 0 h))
    ∙ ap hex (take-append-drop n s)

-- a byte more
pub pair-more : (o out s : List ℕ) (at i high low : ℕ) → i < length s → out ≡ sets o at (hex (take i s)) → high ≡ digit (get_or s i 0 / 16)
    → low ≡ digit (get_or s i 0 % 16) → set (set out (at + 2 * i) high) (at + 2 * i + 1) low ≡ sets o at (hex (take (i + 1) s))
pair-more o out s at i high low h e f g =
    let n : length (hex (take i s)) ≡ 2 * i = omega (arith, hex-length (take i s), length-take-le i s (omega arith)) in
    rw (add-one i, add-one (at + 2 * i), hex-more s i high low h f g, sets-append o at (hex (take i s)) (high ∷ low ∷ []), n, ← e)

hex-fits : (l l' s : List ℕ) (at : ℕ) → at + 2 * length s ≤ length l → l' ≡ sets l at (hex s) → Put l at (hex s) l' (at + 2 * length s)
unfolding after
hex-fits l l' s at h e = record { text = e; place = omega (arith, hex-length s) }

pub hex-done : (l l' s : List ℕ) (at n : ℕ) → n ≡ length s → at + 2 * n ≤ length l → l' ≡ sets l at (hex (take n s)) → Put l at (hex s) l' (at + 2 * n)
hex-done l l' s at n e h f = rw e (hex-fits l l' s at (omega arith) (f ∙ ap (λ (t : List ℕ). sets l at (hex t)) (take_all n s (omega arith))))

-- where a text ends past an output, more of it changes nothing
put-past : (l : List ℕ) (at : ℕ) (t u l' : List ℕ) (end : ℕ) → length l ≤ at + length t → Put l at t l' end → Put l at (t ++ u) l' end
unfolding after
put-past l at t u l' end h p =
    record {
      text = p.text ∙ sym (sets-append l at t u ∙ sets-past (sets l at t) u (at + length t) (omega (arith, length-sets l at t)));
      place = omega (arith, length-append t u, p.place);
    }

pub hex-cut : (l l₁ l₂ s : List ℕ) (at n high end : ℕ) → n < length s → at + 2 * n ≤ length l → length l ≤ at + 2 * n + 1
    → l₁ ≡ sets l at (hex (take n s)) → high ≡ digit (get_or s n 0 / 16) → Put l₁ (at + 2 * n) (high ∷ []) l₂ end → Put l at (hex s) l₂ end
hex-cut l l₁ l₂ s at n high end h a b e f p =
    let len : length (take n s) ≡ n = length-take-le n s (omega arith) in
    let first : Put l at (hex (take n s)) l₁ (at + 2 * n) = rw len at (hex-fits l l₁ (take n s) at (omega arith) e) in
    let t : List ℕ = hex (take n s) ++ (high ∷ []) in
    let u : List ℕ = digit (get_or s n 0 % 16) ∷ hex (drop (suc n) s) in
    let whole : t ++ u ≡ hex s = hex-whole s n high h f in
    let long : length t ≡ 2 * n + 1 = omega (arith, length-append (hex (take n s)) (high ∷ []), hex-length (take n s)) in
    rw whole at (put-past l at t u l₂ end (omega arith) (put_both l at (hex (take n s)) (high ∷ []) l₁ l₂ (at + 2 * n) end first p))

pub hex-none : (l s : List ℕ) (at : ℕ) → length l ≤ at → Put l at (hex s) l (length l)
unfolding after
hex-none l s at h = record { text = sym (sets-past l (hex s) at h); place = omega arith }

-- ---- base64

pub none_left : (s : List ℕ) → length s ≡ 0 → base64 s ≡ []
unfolding base64
none_left [] h = refl
none_left (a ∷ s) h = absurd (omega arith)

pub one_left : (s : List ℕ) (x y : ℕ) → length s ≡ 1 → x ≡ letter (get_or s 0 0 / 4) → y ≡ letter (get_or s 0 0 % 4 * 16)
    → base64 s ≡ x ∷ y ∷ pad ∷ pad ∷ []
unfolding base64
one_left [] x y h f g = absurd (omega arith)
one_left (a ∷ []) x y h f g = rw (f, g)
one_left (a ∷ b ∷ s) x y h f g = absurd (omega arith)

pub two-left : (s : List ℕ) (x y z : ℕ) → length s ≡ 2 → x ≡ letter (get_or s 0 0 / 4) → y ≡ letter (get_or s 0 0 % 4 * 16 + get_or s 1 0 / 16)
    → z ≡ letter (get_or s 1 0 % 16 * 4) → base64 s ≡ x ∷ y ∷ z ∷ pad ∷ []
unfolding base64
two-left [] x y z h f g e = absurd (omega arith)
two-left (a ∷ []) x y z h f g e = absurd (omega arith)
two-left (a ∷ b ∷ []) x y z h f g e = rw (f, g, e)
two-left (a ∷ b ∷ c ∷ s) x y z h f g e = absurd (omega arith)

-- three bytes and those after them
pub quad-more : (s : List ℕ) → 3 ≤ length s
    → base64 s ≡ base64 (get_or s 0 0 ∷ get_or s 1 0 ∷ get_or s 2 0 ∷ []) ++ base64 (take (length s - 3) (drop 3 s))
unfolding base64
quad-more [] h = absurd (omega arith)
quad-more (a ∷ []) h = absurd (omega arith)
quad-more (a ∷ b ∷ []) h = absurd (omega arith)
quad-more (a ∷ b ∷ c ∷ s) h = let e : length (a ∷ b ∷ c ∷ s) - 3 ≡ length s = omega arith in rw (e, take_all (length s) s (omega arith))
