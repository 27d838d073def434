-- A list is written as its parts one after another.
use Rattle.std.specs.Prelude.{Bool, false, List, [], ◌∷◌, ◌++◌, ◌≡◌, refl, ℕ, ◌+◌, ◌*◌}
use Rattle.std.proofs.Math.Bool.{true}
use Rattle.std.proofs.Math.Option.{none}
use Rattle.std.proofs.Common.{append-nil, ◌∙◌, add-zero}
use Rattle.std.proofs.Math.Path.{sym, ap}
use Rattle.std.proofs.Math.Nat.{add_assoc}
use Rattle.std.proofs.Math.ListN.{length, length-append}
use Rattle.std.proofs.lemmas.List.Edits.{sets}
use Rattle.std.proofs.Math.Seq.{length-sets}
use Rattle.event.specs.Row.{Row, Event}
use Rattle.grammar.specs.Document.{Pool}
use Rattle.grammar.proofs.Stores.{sets-append}
use Rattle.writer_spec.specs.Encode.{row_bytes, keep_row, rows_bytes, keep_rows}
use Rattle.writer_spec.specs.Faults.{group}
use Rattle.writer_spec.specs.Writer.{Writer, Lent, wrote, Left, pool_at, room_refusal, ends, rows_refusal, rows_pairs, unless, advanced, append, write}
use Rattle.writer_spec.proofs.Held.{pairs-count}
use Rattle.writer_spec.proofs.Unrefused.{split}
use Rattle.writer_spec.proofs.Wrote.{rows_bytes-append, keep_rows-append, rows_pairs-append, pool_after, Wrote, pool-is, pool-more, wrote-is}
use Rattle.writer_spec.proofs.Laws.{Passed, passed, write-wrote, sound, own-refusal}

-- only how much is lent matters
refusal-sized : (l k : Lent) (bad : List ℕ → Bool) → length l.output ≡ length k.output → length l.table ≡ length k.table
    → (rs : List Row) (at : ℕ) (pool : Pool) → rows_refusal l bad at pool rs ≡ rows_refusal k bad at pool rs
unfolding rows_refusal room_refusal
refusal-sized l k bad o t [] at pool = refl
refusal-sized l k bad o t (r ∷ rs) at pool = rw (o, t, refusal-sized l k bad o t rs (at + length (row_bytes pool r)) (keep_row pool r))

refusal-append : (l : Lent) (bad : List ℕ → Bool) (a b : List Row) (at : ℕ) (pool : Pool) → ends b ≡ true
    → rows_refusal l bad at pool a ≡ none → rows_refusal l bad (at + length (rows_bytes pool a)) (keep_rows pool a) b ≡ none
    → rows_refusal l bad at pool (a ++ b) ≡ none
unfolding rows_refusal rows_bytes keep_rows ends
refusal-append l bad [] b at pool n h k = rw (add-zero at) at k
refusal-append l bad (r ∷ []) b at pool n h k =
    let parts = split l bad at pool r [] h in
    rw (parts.0, n, parts.1) (rw (append-nil (row_bytes pool r)) at k)
refusal-append l bad (r ∷ q ∷ a) b at pool n h k =
    let parts = split l bad at pool r (q ∷ a) h in
    rw (parts.0, parts.1)
    (refusal-append l bad (q ∷ a) b (at + length (row_bytes pool r)) (keep_row pool r) n parts.2
    (rw (length-append (row_bytes pool r) (rows_bytes (keep_row pool r) (q ∷ a)), ← add_assoc at (length (row_bytes pool r))) at k))

module _ (es : List Event) (w w₁ : Writer) (l : Lent) (a b : List Row) (h : Wrote es w l) (e : (write true w l a).reply ≡ wrote w₁) where
  abbrev l₁ : Lent
  l₁ = (write true w l a).lent

  h₁ : Wrote (es ++ group a) w₁ l₁
  h₁ = write-wrote true es w w₁ l a h e

  p₁ : Passed true w l a
  p₁ = passed true w w₁ l a e

  state₁ : w₁ ≡ advanced w (pool_after es) a
  unfolding append
  state₁ = rw (pool-is es w l h) at (wrote-is (append w l a).reply w₁ _ (rw p₁.leaves at e) refl)

  pool₁ : pool_at l₁.output w₁.names l₁.table ≡ keep_rows (pool_after es) a
  pool₁ = pool-is (es ++ group a) w₁ l₁ h₁ ∙ pool-more es a

  left₁ : append w l a ≡ record { reply = wrote (advanced w (pool_after es) a); lent = record { output = sets l.output w.written (rows_bytes (pool_after es) a); table = sets l.table (2 * w.names) (rows_pairs w.written (pool_after es) a) } }
  unfolding append
  left₁ = rw (pool-is es w l h)

  output₁ : l₁.output ≡ sets l.output w.written (rows_bytes (pool_after es) a)
  output₁ = ap (λ (x : Left). x.lent.output) (p₁.leaves ∙ left₁)

  table₁ : l₁.table ≡ sets l.table (2 * w.names) (rows_pairs w.written (pool_after es) a)
  table₁ = ap (λ (x : Left). x.lent.table) (p₁.leaves ∙ left₁)

  append-append : append w l (a ++ b) ≡ append w₁ l₁ b
  unfolding append
  append-append =
      let pool : Pool = pool_after es in
      let counts : 2 * w.names + length (rows_pairs w.written pool a) ≡ 2 * length (keep_rows pool a) = rw h.count-is (pairs-count a w.written pool) in
      rw (
        pool₁,
        pool-is es w l h,
        rows_bytes-append a b pool,
        keep_rows-append a b pool,
        rows_pairs-append a b w.written pool,
        output₁,
        table₁,
        ap (λ (x : Writer). x.written) state₁,
        ap (λ (x : Writer). x.names) state₁,
        length-append (rows_bytes pool a),
        ← add_assoc w.written,
        sets-append l.output w.written (rows_bytes pool a),
        sets-append l.table (2 * w.names) (rows_pairs w.written pool a),
        counts,
      )

  passes : Passed true w₁ l₁ b → ends b ≡ true → rows_refusal l (λ name. false) w.written (pool_after es) (a ++ b) ≡ none
  passes p₂ n =
      let pool : Pool = pool_after es in
      let one : rows_refusal l (λ name. false) w.written pool a ≡ none = rw (sound es w l h, pool-is es w l h) at p₁.by_rows in
      let two : rows_refusal l₁ (λ name. false) w₁.written (keep_rows pool a) b ≡ none = rw (sound (es ++ group a) w₁ l₁ h₁, pool₁) at p₂.by_rows in
      let sized = refusal-sized l₁ l (λ name. false) (rw output₁ (simp length-sets)) (rw table₁ (simp length-sets)) b w₁.written (keep_rows pool a) in
      refusal-append l (λ name. false) a b w.written pool n one (rw (sized, ap (λ (x : Writer). x.written) state₁) at two)

  -- where neither part is refused, and the second begins with no attribute, the list is not refused and leaves the same
  pub one-after-another : (w₂ : Writer) → ends b ≡ true → (write true w₁ l₁ b).reply ≡ wrote w₂ → write true w l (a ++ b) ≡ write true w₁ l₁ b
  unfolding write unless
  one-after-another w₂ n e₂ =
      let p₂ : Passed true w₁ l₁ b = passed true w₁ w₂ l₁ b e₂ in
      rw (own-refusal true es w l (a ++ b) h p₁.sizes, passes p₂ n) (append-append ∙ sym p₂.leaves)
