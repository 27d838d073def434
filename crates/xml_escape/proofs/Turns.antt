-- What a turn of each loop adds.
use Rattle.std.proofs.Common.{true, List, [], ◌∷◌, ◌++◌, append-nil, ◌≡◌, refl, sym, ◌∙◌, ap, ℕ, suc, ◌+◌, ◌*◌, ◌-◌, ◌≤◌, ◌<◌, arith, length, get_or, take, drop, drop-cons, take_all}
use Rattle.std.proofs.Math.Seq.{drop-drop, take-suc, take-add, take-length, length-sets}
use Rattle.std.proofs.lemmas.List.{length-take}
use Rattle.std.proofs.lemmas.List.Elements.{recursion_from_All}
use Rattle.std.specs.List.{All, AllByRecursion as ByRecursion}
use Rattle.text.specs.Put.{after, Put}
use Rattle.text.specs.PutLaws.{after-after, put-none, put_both}
use Rattle.xml_spec.specs.Xml.{escaped, escape}
use Rattle.xml_escape.specs.Extra.{extra, extras, plain, Bare, extra-plain, escape-append, extras-append, escape-length, escape-bare, extras-most}

-- ---- the count

pub extras-more : (s : List ℕ) (k sum e : ℕ) → k < length s → e ≡ extra (get_or s k 0) → sum ≡ extras (take k s) → sum + e ≡ extras (take (k + 1) s)
unfolding extras
extras-more s k sum e h p q =
    let o : k + 1 ≡ suc k = omega arith in
    let x = extras-append (take k s) (get_or s k 0 ∷ []) in
    rw (o, take-suc s k 0 h) (omega arith)

-- so many octets take at most five times as many bytes over their own
pub part-most : (s : List ℕ) (k : ℕ) → extras (take k s) ≤ 5 * k
part-most s k = omega (arith, extras-most (take k s), length-take k s)

extras-split : (s : List ℕ) (i n : ℕ) → extras (take (i + n) s) ≡ extras (take i s) + extras (take n (drop i s))
extras-split s i n = ap extras (take-add i n s) ∙ extras-append (take i s) (take n (drop i s))

pub end_more : (s : List ℕ) (limit at i n place e r : ℕ) → place ≡ after limit at (length s + extras (take i s)) → e ≡ extras (take n (drop i s))
    → r ≡ after limit place e → r ≡ after limit at (length s + extras (take (i + n) s))
end_more s limit at i n place e r p q h =
    let m : length s + extras (take i s) + extras (take n (drop i s)) ≡ length s + extras (take (i + n) s) = omega (arith, extras-split s i n) in
    h ∙ rw (p, q) (after-after limit at (length s + extras (take i s)) (extras (take n (drop i s))) ∙ rw m)

pub end-all : (s : List ℕ) (limit at r : ℕ) → r ≡ after limit at (length s + extras (take (length s) s)) → r ≡ after limit at (length (escape s))
end-all s limit at r h = h ∙ rw (take-length s, escape-length s)

-- ---- octets of which none is escaped

bare-each : (s : List ℕ) → ByRecursion (λ x. extra x ≡ 0) s → escape s ≡ s
unfolding extras
bare-each s p = escape-bare s (none s p)
  where
    none : (s : List ℕ) → ByRecursion (λ x. extra x ≡ 0) s → extras s ≡ 0
    none [] p = refl
    none (x ∷ s) p = let e = none s p.1 in let f = p.0 in omega arith

-- by a quick look
pub plain-all : (s : List ℕ) → All (λ x. plain x ≡ true) s → escape s ≡ s
plain-all s p = bare-each s (recursion_from_All _ s (λ k d h. extra-plain (get_or s k d) (p k d h)))

-- blocks of which none is escaped
pub bare-none : (s : List ℕ) (i : ℕ) → i ≤ length s → Bare s i i
unfolding extras
bare-none s i h = let z : i - i ≡ 0 = omega arith in record { from = omega arith; inside = h; none = rw z }

pub bare-more : (s : List ℕ) (i k n e : ℕ) → k + n ≤ length s → e ≡ extras (take (k + n - k) (drop k s)) → e ≡ 0 → Bare s i k → Bare s i (k + n)
bare-more s i k n e h p z b =
    let m : k + n - i ≡ k - i + n = omega (arith, b.from) in
    let o : i + (k - i) ≡ k = omega (arith, b.from) in
    let r : k + n - k ≡ n = omega arith in
    let q = b.none in
    let t : extras (take n (drop k s)) ≡ 0 = rw r at (sym p ∙ z) in
    record {
      from = omega (arith, b.from);
      inside = h;
      none = rw (m, take-add (k - i) n (drop i s), extras-append, drop-drop, o) (omega arith);
    }

-- the part from 0 on is the whole
pub whole : (s : List ℕ) → take (length s - 0) s ≡ s
whole s = take_all (length s - 0) s (omega arith)

-- ---- the text

escape-split : (s : List ℕ) (i n : ℕ) → escape (take (i + n) s) ≡ escape (take i s) ++ escape (take n (drop i s))
escape-split s i n = ap escape (take-add i n s) ∙ escape-append (take i s) (take n (drop i s))

-- the first i octets are put into l₀, from `at` on
pub record UpTo (s l₀ : List ℕ) (at i : ℕ) (l : List ℕ) (place : ℕ) : Type 0 where
  pub within : i ≤ length s
  pub same : length l ≡ length l₀
  pub put : Put l₀ at (escape (take i s)) l place

module _ (s l₀ : List ℕ) (at : ℕ) where
  pub none-put : (place : ℕ) → place ≡ after (length l₀) at 0 → UpTo s l₀ at 0 l₀ place
  unfolding escape
  none-put place e = record { within = omega arith; same = refl; put = put-none l₀ at place e }

  pub all-put : (l : List ℕ) (place : ℕ) → UpTo s l₀ at (length s) l place → Put l₀ at (escape s) l place
  all-put l place u = rw (take-length s) at u.put

  module _ (i : ℕ) (l : List ℕ) (place : ℕ) (l' : List ℕ) (place' : ℕ) (u : UpTo s l₀ at i l place) where
    more-put : (n : ℕ) → i + n ≤ length s → Put l place (escape (take n (drop i s))) l' place' → UpTo s l₀ at (i + n) l' place'
    more-put n h p = record {
      within = h;
      same = ap length p.text ∙ length-sets l place (escape (take n (drop i s))) ∙ u.same;
      put = rw (escape-split s i n) (put_both l₀ at (escape (take i s)) (escape (take n (drop i s))) l l' place place' u.put p);
    }

    pub octet-put : i < length s → Put l place (escaped (get_or s i 0)) l' place' → UpTo s l₀ at (i + 1) l' place'
    unfolding escape
    octet-put h p =
        let e : take 1 (drop i s) ≡ get_or s i 0 ∷ [] = rw (drop-cons s i 0 h) in
        more-put 1 (omega arith) (rw (e, append-nil (escaped (get_or s i 0))) p)

    pub part-put : (j : ℕ) → i ≤ j → j ≤ length s → Put l place (escape (take (j - i) (drop i s))) l' place' → UpTo s l₀ at j l' place'
    part-put j h m p = let e : i + (j - i) ≡ j = omega arith in rw e at (more-put (j - i) (omega arith) p)

    pub bare-put : (j : ℕ) → Bare s i j → Put l place (take (j - i) (drop i s)) l' place' → UpTo s l₀ at j l' place'
    bare-put j b p = part-put j b.from b.inside (rw (escape-bare (take (j - i) (drop i s)) b.none) p)
