-- What callers may cite of equal bytes and equal rows (`same` and `same_row` decide equality), of spans, and of a row's words.
use Rattle.std.specs.Prelude.{Bool, true, false, ◌&&◌, cond, List, [], ◌∷◌, ◌≡◌, refl, ℕ, ◌+◌, ◌≤◌, ◌<◌, leb, eqb, length, get_or, take, drop}
use Rattle.std.proofs.lemmas.Bool.{false≢true}
use Rattle.std.proofs.Common.{ap, arith, eqb-true, eq-eqb, length-take, get_or-take}
use Rattle.event.specs.Span.{part, span, same}
use Rattle.event.specs.Row.{Value, nothing, bytes, word, pair, Row, row_at, same_value, same_row}

-- both sides of a conjunction that holds
pub both : (a b : Bool) → (a && b) ≡ true → (a ≡ true) × (b ≡ true)
both true b h = (refl, h)
both false b h = absurd (false≢true h)

pub same_refl : (a : List ℕ) → same a a ≡ true
unfolding same
same_refl [] = refl
same_refl (x ∷ a) = rw (eq-eqb x x refl) (same_refl a)

pub same-eq : (a b : List ℕ) → same a b ≡ true → a ≡ b
unfolding same
same-eq [] [] h = refl
same-eq [] (y ∷ b) h = absurd (false≢true h)
same-eq (x ∷ a) [] h = absurd (false≢true h)
same-eq (x ∷ a) (y ∷ b) h =
    let x≡y : x ≡ y = eqb-true x y (both (eqb x y) (same a b) h).0 in
    let a≡b : a ≡ b = same-eq a b (both (eqb x y) (same a b) h).1 in
    λ i. x≡y i ∷ a≡b i

same-value-refl : (v : Value) → same_value v v ≡ true
unfolding same_value
same-value-refl nothing = refl
same-value-refl (bytes s) = same_refl s
same-value-refl (word a) = eq-eqb a a refl
same-value-refl (pair a b) = rw (eq-eqb a a refl, eq-eqb b b refl)

pub same-row-refl : (r : Row) → same_row r r ≡ true
unfolding same_row
same-row-refl r = rw (eq-eqb r.kind r.kind refl, eq-eqb r.type r.type refl, same_refl r.name, same-value-refl r.value)

same-value-eq : (v u : Value) → same_value v u ≡ true → v ≡ u
unfolding same_value
same-value-eq nothing nothing h = refl
same-value-eq nothing (bytes t) h = absurd (false≢true h)
same-value-eq nothing (word c) h = absurd (false≢true h)
same-value-eq nothing (pair c d) h = absurd (false≢true h)
same-value-eq (bytes s) nothing h = absurd (false≢true h)
same-value-eq (bytes s) (bytes t) h = ap bytes (same-eq s t h)
same-value-eq (bytes s) (word c) h = absurd (false≢true h)
same-value-eq (bytes s) (pair c d) h = absurd (false≢true h)
same-value-eq (word a) nothing h = absurd (false≢true h)
same-value-eq (word a) (bytes t) h = absurd (false≢true h)
same-value-eq (word a) (word c) h = ap word (eqb-true a c h)
same-value-eq (word a) (pair c d) h = absurd (false≢true h)
same-value-eq (pair a b) nothing h = absurd (false≢true h)
same-value-eq (pair a b) (bytes t) h = absurd (false≢true h)
same-value-eq (pair a b) (word c) h = absurd (false≢true h)
same-value-eq (pair a b) (pair c d) h =
    let high : a ≡ c = eqb-true a c (both (eqb a c) (eqb b d) h).0 in
    let low : b ≡ d = eqb-true b d (both (eqb a c) (eqb b d) h).1 in
    λ i. pair (high i) (low i)

pub same-row-eq : (r q : Row) → same_row r q ≡ true → r ≡ q
unfolding same_row
same-row-eq r q h =
    let kinds = both (eqb r.kind q.kind) (eqb r.type q.type && (same r.name q.name && same_value r.value q.value)) h in
    let types = both (eqb r.type q.type) (same r.name q.name && same_value r.value q.value) kinds.1 in
    let rest = both (same r.name q.name) (same_value r.value q.value) types.1 in
    let kind : r.kind ≡ q.kind = eqb-true r.kind q.kind kinds.0 in
    let type : r.type ≡ q.type = eqb-true r.type q.type types.0 in
    let name : r.name ≡ q.name = same-eq r.name q.name rest.0 in
    let value : r.value ≡ q.value = same-value-eq r.value q.value rest.1 in
    λ i. record { kind = kind i; name = name i; type = type i; value = value i }

-- ---- the length of a span

part-short : (store : List ℕ) (start len : ℕ) → length (part store start len) ≤ len
unfolding part
part-short store start len = go (leb (start + len) (length store))
  where
    go : (t : Bool) → length (cond t (take len (drop start store)) []) ≤ len
    go true = simp length-take (omega arith)
    go false = omega arith

-- no span is longer than its length word says
pub span-short : (first second : List ℕ) (source start len : ℕ) → length (span first second source start len) ≤ len
unfolding span
span-short first second source start len = go (eqb source 0) (eqb source 1)
  where
    go : (s t : Bool) → length (cond s (part first start len) (cond t (part second start len) [])) ≤ len
    go true t = part-short first start len
    go false true = part-short second start len
    go false false = omega arith

-- the first eight words are all that a row is made of
pub row-of-eight : (first second w : List ℕ) → row_at first second (take 8 w) ≡ row_at first second w
unfolding row_at
row-of-eight first second w = rw (at 0 (omega arith), at 1 (omega arith), at 2 (omega arith), at 3 (omega arith), at 4 (omega arith), at 5 (omega arith), at 6 (omega arith), at 7 (omega arith))
  where
    at : (i : ℕ) → i < 8 → get_or (take 8 w) i 0 ≡ get_or w i 0
    at i h = get_or-take 8 w i 0 h
