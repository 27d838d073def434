-- Reading a document event by event: an event that was read whole is the next one of the document, however it goes on.
use Rattle.std.specs.Prelude.{Bool, true, false, List, [], ◌∷◌, ◌++◌, ◌≡◌, ℕ, zero, suc, ◌≤◌, length, take, drop, ltb}
use Rattle.std.proofs.Math.Option.{Option, none, some}
use Rattle.std.proofs.Common.{append-nil, ap, ◌∙◌, arith, le-ltb, eq-eqb, length-append, length-drop}
use Rattle.std.proofs.Math.Path.{refl}
use Rattle.std.proofs.lemmas.List.{drop-append-le}
use Rattle.event.specs.Row.{Event}
use Rattle.grammar.specs.Grammar.{Span, Ref, new, known, Value, Item, Items, item, whole, lacks, stops, most, counted, counted_name, counted_value, after, event}
use Rattle.wire.specs.Header.{u32_at, magic, header}
use Rattle.grammar.specs.Document.{Pool, bytes_at, ref_bytes, keep, name_bytes, keep_name, value_of, keep_value, keep_item, row_of, rows_of, pool_of, One, one, ending, all, read_one, Reading, reads, then_reading, read_f, read, events, sizes, names_from, names_of, Open}
use Rattle.grammar.specs.Endings.{Ends}
use Rattle.grammar.specs.Fits.{In, RefFits, NameFits, ValueFits, ItemFits}
use Rattle.grammar.proofs.Laws.{Agree, agree-event, part-append, u32_at-append}
use Rattle.event.specs.declared.Shape.{Shape}
use Rattle.grammar.proofs.Choice.{by_test}

-- ---- the pool's count

keep-length : (s : List ℕ) (pool : Pool) (r : Ref) → length (keep s pool r) ≡ counted (length pool) r
unfolding keep counted
keep-length s pool (new t) = by_test (ltb (length pool) most) (λ b. rw (b, length-append)) (λ b. rw b)
keep-length s pool (known i) = refl

pub keep_name-length : (s : List ℕ) (pool : Pool) (r : Option Ref) → length (keep_name s pool r) ≡ counted_name (length pool) r
unfolding keep_name counted_name
keep_name-length s pool none = refl
keep_name-length s pool (some r) = keep-length s pool r

keep_value-length : (s : List ℕ) (pool : Pool) (v : Value) → length (keep_value s pool v) ≡ counted_value (length pool) v
unfolding keep_value counted_value
keep_value-length s pool Value.nothing = refl
keep_value-length s pool Value.empty = refl
keep_value-length s pool (Value.span t) = refl
keep_value-length s pool (Value.interned r) = keep-length s pool r
keep_value-length s pool (Value.word w) = refl
keep_value-length s pool (Value.pair h l) = refl

pub keep_item-length : (s : List ℕ) (pool : Pool) (i : Item) → length (keep_item s pool i) ≡ after (length pool) i
unfolding keep_item after
keep_item-length s pool i = keep_value-length s (keep_name s pool i.name) i.value ∙ ap (λ (k : ℕ). counted_value k i.value) (keep_name-length s pool i.name)

-- ---- more input changes nothing that was read

module _ (s t : List ℕ) where
  bytes_at-append : (u : Span) → In (length s) u → bytes_at (s ++ t) u ≡ bytes_at s u
  unfolding bytes_at
  bytes_at-append u h = part-append s t u.len u.start h

  ref_bytes-append : (k : ℕ) (pool : Pool) (r : Ref) → RefFits (length s) k r → ref_bytes (s ++ t) pool r ≡ ref_bytes s pool r
  unfolding ref_bytes
  ref_bytes-append k pool (new u) h = bytes_at-append u h
  ref_bytes-append k pool (known i) h = refl

  keep_append : (k : ℕ) (pool : Pool) (r : Ref) → RefFits (length s) k r → keep (s ++ t) pool r ≡ keep s pool r
  unfolding keep
  keep_append k pool (new u) h = rw (bytes_at-append u h)
  keep_append k pool (known i) h = refl

  keep_name-append : (k : ℕ) (pool : Pool) (r : Option Ref) → NameFits (length s) k r → keep_name (s ++ t) pool r ≡ keep_name s pool r
  unfolding keep_name
  keep_name-append k pool none h = refl
  keep_name-append k pool (some r) h = keep_append k pool r h

  name_bytes-append : (k : ℕ) (pool : Pool) (r : Option Ref) → NameFits (length s) k r → name_bytes (s ++ t) pool r ≡ name_bytes s pool r
  unfolding name_bytes
  name_bytes-append k pool none h = refl
  name_bytes-append k pool (some r) h = ref_bytes-append k pool r h

  module _ (k : ℕ) (h : Shape) (pool : Pool) where
    value_of-append : (v : Value) → ValueFits (length s) k h v → value_of (s ++ t) pool v ≡ value_of s pool v
    unfolding value_of
    value_of-append Value.nothing f = refl
    value_of-append Value.empty f = refl
    value_of-append (Value.span u) f = rw (bytes_at-append u f.0)
    value_of-append (Value.interned r) f = rw (ref_bytes-append k pool r f.0)
    value_of-append (Value.word w) f = refl
    value_of-append (Value.pair a b) f = refl

    keep_value-append : (v : Value) → ValueFits (length s) k h v → keep_value (s ++ t) pool v ≡ keep_value s pool v
    unfolding keep_value
    keep_value-append Value.nothing f = refl
    keep_value-append Value.empty f = refl
    keep_value-append (Value.span u) f = refl
    keep_value-append (Value.interned r) f = keep_append k pool r f.0
    keep_value-append (Value.word w) f = refl
    keep_value-append (Value.pair a b) f = refl

  row_of-append : (k : ℕ) (pool : Pool) (i : Item) → ItemFits (length s) k i → row_of (s ++ t) pool i ≡ row_of s pool i
  unfolding row_of
  row_of-append k pool i f =
      rw (name_bytes-append k pool i.name f.name-fits, keep_name-append k pool i.name f.name-fits, value_of-append _ _ (keep_name s pool i.name) i.value f.value-fits)

  keep_item-append : (k : ℕ) (pool : Pool) (i : Item) → ItemFits (length s) k i → keep_item (s ++ t) pool i ≡ keep_item s pool i
  unfolding keep_item
  keep_item-append k pool i f =
      rw (keep_name-append k pool i.name f.name-fits, keep_value-append _ _ (keep_name s pool i.name) i.value f.value-fits)

-- the whole event from s is the event from s ++ t
pub record Again (s t : List ℕ) (pool : Pool) (n : ℕ) (is y : Items) : Type 0 where
  pub rows : rows_of (s ++ t) pool y ≡ rows_of s pool is
  pub names : pool_of (s ++ t) pool y ≡ pool_of s pool is
  pub ends : Ends n false y

pub again : (s t : List ℕ) (pool : Pool) (lo n k : ℕ) (is y : Items) → k ≡ length pool → Agree s t k lo is y → Ends n false is → Again s t pool n is y
unfolding rows_of pool_of
again s t pool lo n k (item i is) y e a w =
    let z : Items = a.1.0 in
    let ih : Again s t (keep_item s pool i) n is z = again s t (keep_item s pool i) lo n (after k i) is z (rw (keep_item-length s pool i, e)) a.1.2 w in
    rw a.1.1 (record {
      rows = rw (row_of-append s t k pool i a.0, keep_item-append s t k pool i a.0, ih.rows);
      names = rw (keep_item-append s t k pool i a.0) ih.names;
      ends = ih.ends;
    })
again s t pool lo n k (whole m true) y e a w = absurd (let z : ◌≡◌ {A = ℕ} 0 1 = cc w.1 in omega arith)
again s t pool lo n k (whole m false) y e a w = rw a.2 (record { rows = refl; names = refl; ends = w })
again s t pool lo n k (lacks j) y e a w = absurd w
again s t pool lo n k (stops j d) y e a w = absurd w

pub ending-ends : (rows : Event) (pool : Pool) (n : ℕ) (e : Bool) (is : Items) → Ends n e is → ending rows pool is ≡ one rows n pool
unfolding ending
ending-ends rows pool n e (item i is) w = ending-ends rows pool n e is w
ending-ends rows pool n e (whole m d) w = rw w.0
ending-ends rows pool n e (lacks k) w = absurd w
ending-ends rows pool n e (stops m d) w = absurd w

-- an event takes a byte at least, and no more than there are
abbrev pub Moved : ℕ → One → Type 0
Moved l (one e n p) = (1 ≤ n) × (n ≤ l)
Moved l (One.refused n d) = Unit {0}

moved-items : (s t : List ℕ) (rows : Event) (pool : Pool) (k : ℕ) (is y : Items) → Agree s t k 1 is y → Moved (length s) (ending rows pool is)
unfolding ending
moved-items s t rows pool k (item i is) y a = moved-items s t rows pool (after k i) is a.1.0 a.1.2
moved-items s t rows pool k (whole m true) y a = omega arith
moved-items s t rows pool k (whole m false) y a = omega arith
moved-items s t rows pool k (lacks j) y a = tt
moved-items s t rows pool k (stops j d) y a = tt

moved : (pool : Pool) (s : List ℕ) → Moved (length s) (read_one pool s)
unfolding read_one
moved pool s = moved-items s [] _ _ (length pool) _ _ (agree-event s [] all (length pool))

-- reading goes on, with as much fuel as there are bytes
unfoldable pub read_s : Pool → List ℕ → Reading
read_s pool s = read_f (length s) pool s

pub read_f-fuel : (f g : ℕ) (pool : Pool) (s : List ℕ) → length s ≤ f → length s ≤ g → read_f f pool s ≡ read_f g pool s
unfolding read_f
read_f-fuel zero zero pool s a b = refl
read_f-fuel zero (suc g) pool [] a b = refl
read_f-fuel zero (suc g) pool (c ∷ s) a b = absurd (omega arith)
read_f-fuel (suc f) zero pool [] a b = refl
read_f-fuel (suc f) zero pool (c ∷ s) a b = absurd (omega arith)
read_f-fuel (suc f) (suc g) pool [] a b = refl
read_f-fuel (suc f) (suc g) pool (c ∷ s) a b = go (λ p n. read_f-fuel f g p (drop n (c ∷ s))) (read_one pool (c ∷ s)) (moved pool (c ∷ s))
  where
    go : ((p : Pool) (n : ℕ) → length (drop n (c ∷ s)) ≤ f → length (drop n (c ∷ s)) ≤ g → read_f f p (drop n (c ∷ s)) ≡ read_f g p (drop n (c ∷ s)))
        → (x : One) → Moved (suc (length s)) x → then_reading x (λ p n. read_f f p (drop n (c ∷ s))) ≡ then_reading x (λ p n. read_f g p (drop n (c ∷ s)))
    go ih (one e n p) m = ap (λ (r : Reading). reads e n r) (ih p n (rw (length-drop n (c ∷ s)) (omega arith)) (rw (length-drop n (c ∷ s)) (omega arith)))
    go ih (One.refused n d) m = refl

-- one event more
pub read_s-one : (pool : Pool) (s : List ℕ) (e : Event) (n : ℕ) (p : Pool) → read_one pool s ≡ one e n p → read_s pool s ≡ reads e n (read_s p (drop n s))
unfolding read_s read_f
read_s-one pool [] e n p h = absurd (let m : Moved 0 (one e n p) = rw h at (moved pool []) in omega arith)
read_s-one pool (c ∷ s) e n p h =
    let m : Moved (suc (length s)) (one e n p) = rw h at (moved pool (c ∷ s)) in
    rw h (ap (λ (r : Reading). reads e n r) (read_f-fuel (length s) (length (drop n (c ∷ s))) p (drop n (c ∷ s)) (rw (length-drop n (c ∷ s)) (omega arith)) (omega arith)))

ends-bounds : (s t : List ℕ) (k n : ℕ) (e : Bool) (is y : Items) → Agree s t k 1 is y → Ends n e is → (1 ≤ n) × (n ≤ length s)
ends-bounds s t k n e (item i is) y a w = ends-bounds s t (after k i) n e is a.1.0 a.1.2 w
ends-bounds s t k n e (whole m true) y a w = omega arith
ends-bounds s t k n e (whole m false) y a w = omega arith
ends-bounds s t k n e (lacks j) y a w = absurd w
ends-bounds s t k n e (stops j d) y a w = absurd w

-- an event that was read whole from s is the next one of what s begins
pub record ReadsOn (pool : Pool) (s : List ℕ) (fin : Bool) (n : ℕ) (is : Items) : Type 0 where
  pub some_bytes : 1 ≤ n
  pub within : n ≤ length s
  pub onward : (u : List ℕ) → Open fin u → read_s pool (s ++ u) ≡ reads (rows_of s pool is) n (read_s (pool_of s pool is) (drop n s ++ u))
  pub same_names : (u : List ℕ) → Open fin u → pool_of (s ++ u) pool (event all (length pool) (s ++ u)) ≡ pool_of s pool is

pub reads-on-one : (pool : Pool) (s : List ℕ) (fin : Bool) (n : ℕ) → Ends n false (event all (length pool) s) → ReadsOn pool s fin n (event all (length pool) s)
unfolding read_one
reads-on-one pool s fin n w =
    let is : Items = event all (length pool) s in
    let b = ends-bounds s [] (length pool) n false is _ (agree-event s [] all (length pool)) w in
    record {
      some_bytes = b.0;
      within = b.1;
      onward = λ u _.
          let y : Items = event all (length pool) (s ++ u) in
          let g = again s u pool 1 n (length pool) is y refl (agree-event s u all (length pool)) w in
          read_s-one pool (s ++ u) (rows_of s pool is) n (pool_of s pool is) (rw (g.rows, g.names) (ending-ends _ _ n false y g.ends))
          ∙ rw (drop-append-le n s u b.1);
      same_names = λ u _. (again s u pool 1 n (length pool) is (event all (length pool) (s ++ u)) refl (agree-event s u all (length pool)) w).names;
    }

pub reads-on-edge : (pool : Pool) (s : List ℕ) (n : ℕ) → Ends n true (event all (length pool) s) → ReadsOn pool s true n (event all (length pool) s)
unfolding read_one
reads-on-edge pool s n w =
    let is : Items = event all (length pool) s in
    let b = ends-bounds s [] (length pool) n true is _ (agree-event s [] all (length pool)) w in
    record {
      some_bytes = b.0;
      within = b.1;
      onward = λ u z. rw (z, append-nil s, append-nil (drop n s)) (read_s-one pool s (rows_of s pool is) n (pool_of s pool is) (ending-ends _ _ n true is w));
      same_names = λ u z. rw (z, append-nil s);
    }

-- of the bytes as they stand
pub reads_here : (pool : Pool) (s : List ℕ) (fin : Bool) (n : ℕ) (is : Items) → ReadsOn pool s fin n is → Open fin []
    → read_s pool s ≡ reads (rows_of s pool is) n (read_s (pool_of s pool is) (drop n s))
reads_here pool s fin n is on v = rw (append-nil s, append-nil (drop n s)) at (on.onward [] v)

-- the names from there on
pub names-on : (pool : Pool) (s : List ℕ) (fin : Bool) (n : ℕ) (is : Items) → ReadsOn pool s fin n is → (u : List ℕ) → Open fin u
    → names_from (read_s pool (s ++ u)) pool (s ++ u) ≡ names_from (read_s (pool_of s pool is) (drop n s ++ u)) (pool_of s pool is) (drop n s ++ u)
unfolding names_from
names-on pool s fin n is on u v =
    let r : Reading = read_s (pool_of s pool is) (drop n s ++ u) in
    ap (λ (x : Reading). names_from x pool (s ++ u)) (on.onward u v)
    ∙ ap (λ (p : Pool). names_from r p (drop n (s ++ u))) (on.same_names u v)
    ∙ ap (λ (x : List ℕ). names_from r (pool_of s pool is) x) (drop-append-le n s u on.within)

-- ---- readings that begin with these events

abbrev pub chain : List Event → List ℕ → Reading → Reading
chain [] ns r = r
chain (e ∷ es) [] r = r
chain (e ∷ es) (n ∷ ns) r = reads e n (chain es ns r)

pub chain_snoc : (es : List Event) (ns : List ℕ) (e : Event) (n : ℕ) (r : Reading) → length ns ≡ length es → chain (es ++ (e ∷ [])) (ns ++ (n ∷ [])) r ≡ chain es ns (reads e n r)
chain_snoc [] [] e n r h = refl
chain_snoc [] (m ∷ ns) e n r h = absurd (omega arith)
chain_snoc (d ∷ es) [] e n r h = absurd (omega arith)
chain_snoc (d ∷ es) (m ∷ ns) e n r h = ap (λ (x : Reading). reads d m x) (chain_snoc es ns e n r (omega arith))

pub events-chain : (es : List Event) (ns : List ℕ) (r : Reading) → length ns ≡ length es → events (chain es ns r) ≡ es ++ events r
unfolding events
events-chain [] ns r h = refl
events-chain (d ∷ es) [] r h = absurd (omega arith)
events-chain (d ∷ es) (m ∷ ns) r h = ap (λ (x : List Event). d ∷ x) (events-chain es ns r (omega arith))

pub sizes-chain : (es : List Event) (ns : List ℕ) (r : Reading) → length ns ≡ length es → take (length es) (sizes (chain es ns r)) ≡ ns
unfolding sizes
sizes-chain [] [] r h = refl
sizes-chain [] (m ∷ ns) r h = absurd (omega arith)
sizes-chain (d ∷ es) [] r h = absurd (omega arith)
sizes-chain (d ∷ es) (m ∷ ns) r h = ap (λ (x : List ℕ). m ∷ x) (sizes-chain es ns r (omega arith))

-- the header is passed
pub read-passed : (s u : List ℕ) → 4 ≤ length s → u32_at s 0 ≡ magic → read (s ++ u) ≡ read_s [] (drop 4 s ++ u)
unfolding read read_s header
read-passed s u a b =
    let l = length-append s u in
    rw (le-ltb (length (s ++ u)) 4 (omega arith), u32_at-append s u 0 (omega arith), eq-eqb (u32_at s 0) magic b, drop-append-le 4 s u a)
    (read_f-fuel (length (s ++ u)) (length (drop 4 s ++ u)) [] (drop 4 s ++ u) (omega (arith, length-append (drop 4 s) u, length-drop 4 s)) (omega arith))

pub names-passed : (s u : List ℕ) → 4 ≤ length s → u32_at s 0 ≡ magic → names_of (s ++ u) ≡ names_from (read_s [] (drop 4 s ++ u)) [] (drop 4 s ++ u)
unfolding names_of
names-passed s u a b = rw (read-passed s u a b, drop-append-le 4 s u a)
