-- New names that are kept, one after another.
use Rattle.std.proofs.Common.{true, false, true≢false, List, [], ◌∷◌, ◌++◌, append-nil, ◌≡◌, refl, sym, ap, ◌∙◌, ℕ, ◌+◌, ◌*◌, ◌≤◌, ◌<◌, arith, lt-ltb, le-ltb, length, take, drop, length-append}
use Rattle.std.proofs.Math.Seq.{sets, length-sets}
use borrow.Rule.Slice.PartMut.{put_mid}
use Rattle.byte_copy.proofs.Parts.{part-back}
use Rattle.grammar.proofs.Choice.{by_test, cond-by}
use Rattle.wire.specs.Limits.{max_store}
use Rattle.grammar.specs.Grammar.{Span, new, most}
use Rattle.grammar.specs.Document.{bytes_at}
use Rattle.grammar.specs.Scan.{adds_ref, lengths, pairs, copied_pairs, joined}
use Rattle.grammar.proofs.Added.{AllIn}
use Rattle.grammar.proofs.Stores.{sets-append, pairs-length, pairs-append, copied-length, copied-append, lengths-append, joined-append, joined_length}
use Rattle.scanner.specs.declared.fill.Home.{Home}
use Rattle.scanner.specs.declared.fill.Kept.{Kept}
use Rattle.scanner.specs.Fill.{kept_pairs, kept_bytes, Room, Keeps}

-- a part of a slice that was written
pub part-put : (l ws part : List ℕ) (i k : ℕ) → part ≡ ws → k ≡ length ws → i + length ws ≤ length l → put_mid i k l part ≡ sets l i ws
part-put l ws part i k p e h = rw p (part-back l ws i k e h)

module _ (h : Home) where
  kept-length : (used : ℕ) (ts : List Span) → length (kept_pairs h used ts) ≡ 2 * length ts
  kept-length used ts = cond-by (λ (x : List ℕ). length x ≡ 2 * length ts) h.copied _ _ (λ _. copied-length used ts) (λ _. pairs-length h.base ts)

  kept_append : (used used' : ℕ) (a b : List Span) → (h.copied ≡ true → used' ≡ used + lengths a) → kept_pairs h used (a ++ b) ≡ kept_pairs h used a ++ kept_pairs h used' b
  kept_append used used' a b e =
      by_test h.copied (λ c. rw (c, e c) (copied-append used a b)) (λ c. rw c (pairs-append h.base a b))

  -- none
  pub keeps-none : (s : List ℕ) (k : Kept) (table store : List ℕ) → Keeps h s k [] table table store store k
  unfolding pairs copied_pairs joined lengths
  keeps-none s k table store = record {
    table_is = by_test h.copied (λ c. rw c) (λ c. rw c);
    store_is = by_test h.copied (λ c. rw c) (λ c. rw c);
    names-are = omega arith;
    used-is = λ c. omega arith;
  }

  -- these, and then others
  pub keeps-both : (s : List ℕ) (k k₁ k₂ : Kept) (a b : List Span) (table table₁ table₂ store store₁ store₂ : List ℕ) → AllIn (length s) a
      → Keeps h s k a table table₁ store store₁ k₁ → Keeps h s k₁ b table₁ table₂ store₁ store₂ k₂ → Keeps h s k (a ++ b) table table₂ store store₂ k₂
  keeps-both s k k₁ k₂ a b table table₁ table₂ store store₁ store₂ i x y = record {
    table_is = pairs-are;
    store_is = by_test h.copied (λ c. bytes-are c) (λ c. y.store_is ∙ rw c (x.store_is ∙ rw c));
    names-are = omega (arith, x.names-are, y.names-are, length-append a b);
    used-is = λ c. omega (arith, x.used-is c, y.used-is c, lengths-append a b);
  }
    where
      pairs-are : table₂ ≡ sets table (2 * k.names) (kept_pairs h k.used (a ++ b))
      pairs-are =
          let n : 2 * k₁.names ≡ 2 * k.names + length (kept_pairs h k.used a) = omega (arith, x.names-are, kept-length k.used a) in
          y.table_is ∙ ap (λ (m : ℕ). sets table₁ m (kept_pairs h k₁.used b)) n
          ∙ ap (λ (t : List ℕ). sets t (2 * k.names + length (kept_pairs h k.used a)) (kept_pairs h k₁.used b)) x.table_is
          ∙ sym (sets-append table (2 * k.names) (kept_pairs h k.used a) (kept_pairs h k₁.used b))
          ∙ ap (λ (v : List ℕ). sets table (2 * k.names) v) (sym (kept_append k.used k₁.used a b x.used-is))

      bytes-are : h.copied ≡ true → store₂ ≡ kept_bytes h s k.used store (a ++ b)
      bytes-are c =
          let n : k₁.used ≡ k.used + length (joined s a) = x.used-is c ∙ ap (λ (m : ℕ). k.used + m) (sym (joined_length s a i)) in
          let p : store₁ ≡ sets store k.used (joined s a) = x.store_is ∙ rw c in
          let q : store₂ ≡ sets store₁ k₁.used (joined s b) = y.store_is ∙ rw c in
          q ∙ rw (c, n, p, joined-append s a b, sets-append store k.used (joined s a) (joined s b))

  -- the words and bytes stay as many
  module _ {s : List ℕ} {k k₁ : Kept} {a : List Span} {table table₁ store store₁ : List ℕ} (x : Keeps h s k a table table₁ store store₁ k₁) where
    pub keeps-words : length table₁ ≡ length table
    keeps-words = ap length x.table_is ∙ length-sets table (2 * k.names) (kept_pairs h k.used a)

    pub keeps-bytes : length store₁ ≡ length store
    keeps-bytes = ap length x.store_is ∙ cond-by (λ (y : List ℕ). length y ≡ length store) h.copied _ _ (λ _. length-sets store k.used (joined s a)) (λ _. refl)

    -- room for others after them
    pub room-then : (b : List Span) → Room h k (a ++ b) table store → Room h k₁ b table₁ store₁
    room-then b r = record {
      pairs-fit = omega (arith, r.pairs-fit, x.names-are, keeps-words, length-append a b);
      bytes_fit = λ c. (omega (arith, (r.bytes_fit c).0, x.used-is c, keeps-bytes, lengths-append a b), omega (arith, (r.bytes_fit c).1, keeps-bytes));
    }

  pub room-first : (k : Kept) (a b : List Span) (table store : List ℕ) → Room h k (a ++ b) table store → Room h k a table store
  room-first k a b table store r = record {
    pairs-fit = omega (arith, r.pairs-fit, length-append a b);
    bytes_fit = λ c. (omega (arith, (r.bytes_fit c).0, lengths-append a b), (r.bytes_fit c).1);
  }

-- ---- a new name

module _ (h : Home) (s : List ℕ) (k : Kept) (t : Span) (table store : List ℕ) where
  abbrev new-names : List Span
  new-names = adds_ref k.names (new t)

  pub new_none : most ≤ k.names → Keeps h s k new-names table table store store k
  unfolding adds_ref
  new_none m = rw (le-ltb k.names most m) (keeps-none h s k table store)

  module _ (m : k.names < most) (r : Room h k new-names table store) where
    is_one : new-names ≡ t ∷ []
    unfolding adds_ref
    is_one = rw (lt-ltb k.names most m)

    one-room : Room h k (t ∷ []) table store
    one-room = rw is_one at r

    pub new-pair : 2 * k.names + 2 ≤ length table
    new-pair = omega (arith, one-room.pairs-fit)

    pub new-bytes : h.copied ≡ true → (k.used + t.len ≤ length store) × (length store ≤ max_store)
    unfolding lengths
    new-bytes c = (omega (arith, (one-room.bytes_fit c).0), (one-room.bytes_fit c).1)

    pub new-copied : h.copied ≡ true → (table₁ store₁ : List ℕ) → table₁ ≡ sets table (2 * k.names) (k.used ∷ t.len ∷ [])
        → store₁ ≡ sets store k.used (take t.len (drop t.start s)) → Keeps h s k new-names table table₁ store store₁ (record { names = k.names + 1; used = k.used + t.len })
    unfolding copied_pairs joined bytes_at lengths
    new-copied c table₁ store₁ d e = rw is_one (record {
      table_is = d ∙ rw c;
      store_is = e ∙ rw (c, append-nil (take t.len (drop t.start s)));
      names-are = refl;
      used-is = λ _. omega arith;
    })

    pub new-there : h.copied ≡ false → (table₁ : List ℕ) → table₁ ≡ sets table (2 * k.names) ((h.base + t.start) ∷ t.len ∷ [])
        → Keeps h s k new-names table table₁ store store (record { names = k.names + 1; used = k.used })
    unfolding pairs lengths
    new-there c table₁ d = rw is_one (record {
      table_is = d ∙ rw c;
      store_is = rw c;
      names-are = refl;
      used-is = λ x. absurd (true≢false (sym x ∙ c));
    })
