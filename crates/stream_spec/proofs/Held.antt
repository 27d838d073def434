-- The pool table and the name store hold the pool.
use Rattle.std.specs.Prelude.{List, [], ◌∷◌, ◌++◌, ◌≡◌, refl, ℕ, suc, ◌+◌, ◌*◌, ◌≤◌, ◌<◌, length, get_or, take, drop, set, ltb}
use Rattle.std.proofs.Common.{append_assoc, append-nil, sym, ap, ◌∙◌, add-zero, arith, ltb-true, ltb-false, le-leb, length-append, length-set, take-append-drop, get_or-set_same, get_or-set_other, take_at, drop_at, length-take-le}
use Rattle.std.proofs.Math.ListN.{get_or-append}
use Rattle.std.proofs.lemmas.List.Edits.{sets, sets-eq}
use Rattle.std.proofs.Math.Seq.{length-sets, get_or-append_seam}
use Rattle.event.specs.Span.{part, span}
use Rattle.grammar.specs.Grammar.{Span}
use Rattle.grammar.specs.Document.{Pool, pool_bytes, bytes_at}
use Rattle.grammar.proofs.Choice.{by_test}
use Rattle.grammar.proofs.Laws.{part-append}
use Rattle.grammar.proofs.Added.{these, AllIn, bytes_at-length}
use Rattle.grammar.proofs.Said.{Finds}
use Rattle.grammar.proofs.Stores.{get_d_sets, sets-append}
use Rattle.grammar.specs.Scan.{lengths, copied_pairs, joined}

pub pool_bytes-append : (a b : Pool) → pool_bytes (a ++ b) ≡ pool_bytes a + pool_bytes b
pool_bytes-append [] b = omega arith
pool_bytes-append (n ∷ a) b = omega (arith, pool_bytes-append a b)

-- entry i's pair names these bytes of the store's first so many
pub record Entry (bytes : ℕ) (table store : List ℕ) (i : ℕ) (name : List ℕ) : Type 0 where
  pub inside : get_or table (2 * i) 0 + get_or table (2 * i + 1) 0 ≤ bytes
  pub reads_as : take (get_or table (2 * i + 1) 0) (drop (get_or table (2 * i) 0) store) ≡ name

pub record Held (pool : Pool) (names bytes : ℕ) (table store : List ℕ) : Type 0 where
  pub counts : names ≡ length pool
  pub used : bytes ≡ pool_bytes pool
  pub table_fits : 2 * names ≤ length table
  pub store-fits : bytes ≤ length store
  pub entry : (i : ℕ) → i < names → Entry bytes table store i (get_or pool i [])

-- bytes stored from a place on leave those before it, and can be taken out again
module _ (store b : List ℕ) (at : ℕ) (h : at + length b ≤ length store) where
  sets-before : (a n : ℕ) → a + n ≤ at → take n (drop a (sets store at b)) ≡ take n (drop a store)
  sets-before a n k =
      let l : length (take at store) ≡ at = length-take-le at store (omega arith) in
      rw (sets-eq b store at h, append_assoc (take at store) b (drop (at + length b) store))
      (part-append (take at store) (b ++ drop (at + length b) store) n a (omega arith)
      ∙ sym (part-append (take at store) (drop at store) n a (omega arith))
      ∙ rw (take-append-drop at store))

  sets-there : take (length b) (drop at (sets store at b)) ≡ b
  sets-there =
      rw (sets-eq b store at h, append_assoc (take at store) b (drop (at + length b) store), drop_at (take at store) (b ++ drop (at + length b) store) at (length-take-le at store (omega arith)))
      (take_at b (drop (at + length b) store) (length b) refl)

-- a name joins: its pair at the table's end, its bytes at the store's
held-add : (pool : Pool) (names bytes : ℕ) (table store b : List ℕ) → Held pool names bytes table store
    → 2 * names + 2 ≤ length table → bytes + length b ≤ length store
    → Held (pool ++ (b ∷ [])) (names + 1) (bytes + length b) (set (set table (2 * names) bytes) (suc (2 * names)) (length b)) (sets store bytes b)
held-add pool names bytes table store b h ht hs =
    let table' : List ℕ = set (set table (2 * names) bytes) (suc (2 * names)) (length b) in
    record {
      counts = rw (length-append pool (b ∷ []), h.counts);
      used = omega (arith, pool_bytes-append pool (b ∷ []), h.used);
      table_fits = simp length-set (omega arith);
      store-fits = simp length-sets (omega arith);
      entry = λ i k.
          by_test (ltb i names)
          (λ p.
          let q = ltb-true i names p in
          let c : i < length pool = omega arith in
          let e₀ : get_or table' (2 * i) 0 ≡ get_or table (2 * i) 0 = get_d_sets table (2 * names) (bytes ∷ length b ∷ []) (2 * i) 0 (omega arith) in
          let e₁ : get_or table' (2 * i + 1) 0 ≡ get_or table (2 * i + 1) 0 = get_d_sets table (2 * names) (bytes ∷ length b ∷ []) (2 * i + 1) 0 (omega arith) in
          let old : Entry bytes table store i (get_or pool i []) = h.entry i q in
          rw (get_or-append pool (b ∷ []) [] i c)
          (record { inside = rw (e₀, e₁) (omega arith); reads_as = rw (e₀, e₁) (sets-before store b bytes hs _ _ old.inside ∙ old.reads_as) }))
          (λ p.
          let q = ltb-false i names p in
          let c : i ≡ names = omega arith in
          let d : i ≡ length pool = omega arith in
          let e₀ : get_or table' (2 * names) 0 ≡ bytes = get_or-set_other (set table (2 * names) bytes) (suc (2 * names)) (2 * names) (length b) 0 (λ z. omega arith) ∙ get_or-set_same table (2 * names) bytes 0 (omega arith) in
          let e₁ : get_or table' (2 * names + 1) 0 ≡ length b =
          ap (λ (k : ℕ). get_or table' k 0) (omega arith) ∙ get_or-set_same (set table (2 * names) bytes) (suc (2 * names)) (length b) 0 (simp length-set (omega arith)) in
          rw (c, h.counts, get_or-append_seam pool b [] [], ← h.counts)
          (record { inside = rw (e₀, e₁) (omega arith); reads_as = rw (e₀, e₁) (sets-there store b bytes hs) }));
    }

held-cast : (p p' : Pool) (n n' b b' : ℕ) (t t' s s' : List ℕ) → p ≡ p' → n ≡ n' → b ≡ b' → t ≡ t' → s ≡ s' → Held p n b t s → Held p' n' b' t' s'
held-cast p p' n n' b b' t t' s s' e₁ e₂ e₃ e₄ e₅ h = rw (← e₁, ← e₂, ← e₃, ← e₄, ← e₅) h

-- the names of an event join
pub held-adds : (s : List ℕ) (ts : List Span) (pool : Pool) (names bytes : ℕ) (table store : List ℕ) → AllIn (length s) ts → Held pool names bytes table store
    → 2 * (names + length ts) ≤ length table → bytes + lengths ts ≤ length store
    → Held (pool ++ these s ts) (names + length ts) (bytes + lengths ts) (sets table (2 * names) (copied_pairs bytes ts)) (sets store bytes (joined s ts))
unfolding lengths copied_pairs joined
held-adds s [] pool names bytes table store a h ht hs = rw (append-nil pool, add-zero names, add-zero bytes) h
held-adds s (t ∷ ts) pool names bytes table store a h ht hs =
    let b : List ℕ = bytes_at s t in
    let e : length b ≡ t.len = bytes_at-length s t a.0 in
    let one : Held (pool ++ (b ∷ [])) (names + 1) (bytes + length b) (set (set table (2 * names) bytes) (suc (2 * names)) (length b)) (sets store bytes b) =
    held-add pool names bytes table store b h (omega arith) (omega arith) in
    let more = held-adds s ts (pool ++ (b ∷ [])) (names + 1) (bytes + length b) _ _ a.1 one (simp length-set (omega arith)) (simp length-sets (omega arith)) in
    held-cast _ _ _ _ _ _ _ _ _ _
    (append_assoc pool (b ∷ []) (these s ts)) (omega arith) (omega arith)
    (rw e (ap (λ (k : ℕ). sets (set (set table (2 * names) bytes) (suc (2 * names)) t.len) k (copied_pairs (bytes + t.len) ts)) (omega arith)))
    (sym (sets-append store bytes b (joined s ts)))
    more

-- a name by index is found in the name store
pub held-finds : (w : List ℕ) (pool : Pool) (names bytes : ℕ) (table store : List ℕ) → Held pool names bytes table store → Finds 1 w store table pool
unfolding span part
held-finds w pool names bytes table store h i k =
    let e : Entry bytes table store i (get_or pool i []) = h.entry i (omega (arith, h.counts)) in
    rw (le-leb (get_or table (2 * i) 0 + get_or table (2 * i + 1) 0) (length store) (omega (arith, e.inside, h.store-fits))) e.reads_as
