-- The pool table holds the pool: each pair names bytes of the document, which never change.
use Rattle.std.specs.Prelude.{List, [], ◌∷◌, ◌++◌, ◌≡◌, refl, ℕ, suc, ◌+◌, ◌*◌, ◌≤◌, ◌<◌, length, get_or, take, drop, set, ltb}
use Rattle.std.proofs.Common.{append_assoc, append-nil, ap, ◌∙◌, add-zero, arith, ltb-true, ltb-false, le-leb, length-append, length-drop, length-set, drop_of_length-le, take_at, length-take-le, drop-drop, get_or-take, get_or-set_same, get_or-set_other}
use Rattle.std.proofs.Math.ListN.{get_or-append}
use Rattle.std.proofs.lemmas.List.Edits.{sets, sets-eq}
use Rattle.std.proofs.Math.Seq.{get_or-append_seam}
use Rattle.event.specs.Span.{part, span}
use Rattle.grammar.specs.Grammar.{Span}
use Rattle.grammar.specs.Document.{Pool, all, bytes_at}
use Rattle.grammar.specs.Scan.{sound, pairs}
use Rattle.grammar.proofs.Choice.{by_test}
use Rattle.grammar.proofs.Added.{these, AllIn}
use Rattle.grammar.proofs.Said.{Finds}
use Rattle.grammar.proofs.Stores.{pairs-length}
use Rattle.grammar.proofs.Stores as Stores

-- entry i's pair names these bytes of the document
pub record Entry (document table : List ℕ) (i : ℕ) (name : List ℕ) : Type 0 where
  pub inside : get_or table (2 * i) 0 + get_or table (2 * i + 1) 0 ≤ length document
  pub reads_as : take (get_or table (2 * i + 1) 0) (drop (get_or table (2 * i) 0) document) ≡ name

pub record Held (document : List ℕ) (pool : Pool) (names : ℕ) (table : List ℕ) : Type 0 where
  pub counts : names ≡ length pool
  pub table_fits : 2 * names ≤ length table
  pub entry : (i : ℕ) → i < names → Entry document table i (get_or pool i [])

pub held_none : (document table : List ℕ) → Held document [] 0 table
held_none document table = record { counts = refl; table_fits = omega arith; entry = λ i k. absurd (omega arith) }

-- a name joins: its pair at the table's end
held-add : (document : List ℕ) (pool : Pool) (names : ℕ) (table : List ℕ) (start len : ℕ) → Held document pool names table
    → 2 * names + 2 ≤ length table → start + len ≤ length document
    → Held document (pool ++ (take len (drop start document) ∷ [])) (names + 1) (set (set table (2 * names) start) (suc (2 * names)) len)
held-add document pool names table start len h ht hd =
    let b : List ℕ = take len (drop start document) in
    let first : List ℕ = set table (2 * names) start in
    let both : List ℕ = set first (suc (2 * names)) len in
    record {
      counts = rw (length-append pool (b ∷ []), h.counts);
      table_fits = simp length-set (omega arith);
      entry = λ i k.
          by_test (ltb i names)
          (λ p.
          let q = ltb-true i names p in
          let c : i < length pool = omega arith in
          let e₀ : get_or both (2 * i) 0 ≡ get_or table (2 * i) 0 = Stores.get_d_sets table (2 * names) (start ∷ len ∷ []) (2 * i) 0 (omega arith) in
          let e₁ : get_or both (2 * i + 1) 0 ≡ get_or table (2 * i + 1) 0 = Stores.get_d_sets table (2 * names) (start ∷ len ∷ []) (2 * i + 1) 0 (omega arith) in
          let old : Entry document table i (get_or pool i []) = h.entry i q in
          rw (get_or-append pool (b ∷ []) [] i c) (record { inside = rw (e₀, e₁) old.inside; reads_as = rw (e₀, e₁) old.reads_as }))
          (λ p.
          let q = ltb-false i names p in
          let c : i ≡ names = omega arith in
          let e₀ : get_or both (2 * names) 0 ≡ start = get_or-set_other first (suc (2 * names)) (2 * names) len 0 (λ z. omega arith) ∙ get_or-set_same table (2 * names) start 0 (omega arith) in
          let e₁ : get_or both (2 * names + 1) 0 ≡ len =
          ap (λ (k : ℕ). get_or both k 0) (omega arith) ∙ get_or-set_same first (suc (2 * names)) len 0 (simp length-set (omega arith)) in
          rw (c, h.counts, get_or-append_seam pool b [] [], ← h.counts)
          (record { inside = rw (e₀, e₁) hd; reads_as = rw (e₀, e₁) }));
    }

held-cast : (document : List ℕ) (p q : Pool) (n m : ℕ) (t u : List ℕ) → p ≡ q → n ≡ m → t ≡ u → Held document p n t → Held document q m u
held-cast document p q n m t u e₁ e₂ e₃ h = rw (← e₁, ← e₂, ← e₃) h

-- the names of an event that starts at `base` join
pub held-adds : (document : List ℕ) (base : ℕ) (ts : List Span) (pool : Pool) (names : ℕ) (table : List ℕ) → base ≤ length document
    → AllIn (length (drop base document)) ts → Held document pool names table → 2 * (names + length ts) ≤ length table
    → Held document (pool ++ these (drop base document) ts) (names + length ts) (sets table (2 * names) (pairs base ts))
unfolding pairs bytes_at
held-adds document base [] pool names table hb a h ht = rw (append-nil pool, add-zero names) h
held-adds document base (t ∷ ts) pool names table hb a h ht =
    let b : List ℕ = bytes_at (drop base document) t in
    let d : take t.len (drop (base + t.start) document) ≡ b = rw (drop-drop t.start base document) in
    let l = length-drop base document in
    let one : Held document (pool ++ (b ∷ [])) (names + 1) (set (set table (2 * names) (base + t.start)) (suc (2 * names)) t.len) =
    rw d at (held-add document pool names table (base + t.start) t.len h (omega arith) (omega (arith, a.0))) in
    let more = held-adds document base ts (pool ++ (b ∷ [])) (names + 1) _ hb a.1 one (simp length-set (omega arith)) in
    held-cast document _ _ _ _ _ _
    (append_assoc pool (b ∷ []) (these (drop base document) ts)) (omega arith)
    (ap (λ (k : ℕ). sets (set (set table (2 * names) (base + t.start)) (suc (2 * names)) t.len) k (pairs base ts)) (omega arith))
    more

-- a name by index is found in the document
pub held-finds : (document : List ℕ) (pool : Pool) (names : ℕ) (table : List ℕ) → Held document pool names table → Finds 0 document [] table pool
unfolding span part
held-finds document pool names table h i k =
    let e : Entry document table i (get_or pool i []) = h.entry i (omega (arith, h.counts)) in
    rw (le-leb (get_or table (2 * i) 0 + get_or table (2 * i + 1) 0) (length document) e.inside) e.reads_as

-- every name of a pool that is held is at hand
pub sound-all : (document : List ℕ) (pool : Pool) (names : ℕ) (table : List ℕ) → Held document pool names table → sound names table (length document) ≡ all
sound-all document pool names table h = Stores.sound-all names (length document) table (λ i k. (h.entry i k).inside)

-- a table of the pool's pairs alone, and the new ones after them, holds the pool with the new names
pub held_with : (document : List ℕ) (base : ℕ) (ts : List Span) (pool : Pool) (names : ℕ) (table : List ℕ) → base ≤ length document
    → AllIn (length (drop base document)) ts → Held document pool names table
    → Held document (pool ++ these (drop base document) ts) (names + length ts) (take (2 * names) table ++ pairs base ts)
held_with document base ts pool names table hb a h =
    let front : List ℕ = take (2 * names) table in
    let ps : List ℕ = pairs base ts in
    let lf : length front ≡ 2 * names = length-take-le (2 * names) table h.table_fits in
    let lp : length ps ≡ 2 * length ts = pairs-length base ts in
    let l : length (front ++ ps) ≡ 2 * (names + length ts) = omega (arith, length-append front ps) in
    let same : (j : ℕ) → j < 2 * names → get_or (front ++ ps) j 0 ≡ get_or table j 0 = λ j k. get_or-append front ps 0 j (omega arith) ∙ get_or-take (2 * names) table j 0 k in
    let old : Held document pool names (front ++ ps) = record {
      counts = h.counts;
      table_fits = omega arith;
      entry = λ i k.
          let e : Entry document table i (get_or pool i []) = h.entry i k in
          let e₀ : get_or (front ++ ps) (2 * i) 0 ≡ get_or table (2 * i) 0 = same (2 * i) (omega arith) in
          let e₁ : get_or (front ++ ps) (2 * i + 1) 0 ≡ get_or table (2 * i + 1) 0 = same (2 * i + 1) (omega arith) in
          record { inside = rw (e₀, e₁) e.inside; reads_as = rw (e₀, e₁) e.reads_as };
    } in
    let again : sets (front ++ ps) (2 * names) ps ≡ front ++ ps =
    sets-eq ps (front ++ ps) (2 * names) (omega arith)
    ∙ rw (take_at front ps (2 * names) lf, drop_of_length-le (front ++ ps) {i = 2 * names + length ps} (omega arith), append-nil (front ++ ps)) in
    rw again at (held-adds document base ts pool names (front ++ ps) hb a old (omega arith))
