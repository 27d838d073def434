-- The two passes, by how the first ended.
use Rattle.std.proofs.Common.{Bool, true, false, ◌&&◌, cond, List, [], ◌++◌, append-nil, ◌≡◌, refl, sym, ap, ◌∙◌, ℕ, zero, suc, ◌+◌, ◌*◌, ◌-◌, ◌/◌, ◌≤◌, ◌<◌, arith, lt-ltb, le-ltb, ltb, length}
use Rattle.wire.specs.Limits.{max_store}
use Rattle.wire.specs.Refusal.{rows_full, pool_full, names_full}
use Rattle.grammar.proofs.Choice.{by_test}
use Rattle.grammar.specs.Grammar.{Span, Items, item, whole, lacks, stops, event}
use Rattle.grammar.specs.Scan.{sound, adds, lengths, count, words, complete, incomplete, bad, outcome, Measure, measure}
use Rattle.grammar.specs.Endings.{Ended}
use Rattle.grammar.proofs.Attributes.{complete-ended, own-before, own_row}
use Rattle.grammar.specs.Trusted.{always}
use Rattle.grammar.proofs.Trusted.{trusted-event}
use Rattle.extent.specs.Measured.{measured}
use Rattle.scanner.specs.declared.fill.Home.{Home}
use Rattle.scanner.specs.declared.fill.Kept.{Kept}
use Rattle.scanner.specs.declared.fill.Ahead.{Ahead}
use Rattle.scanner.specs.Fill.{pooled_in, only, Ready, FilledRows}
use Rattle.quick_step.specs.Step.{Reply, gives, need_more, refused, Left, written, hand_out, by_outcome, refused_first, step}
use Rattle.quick_step.specs.Laws.{not-long, not-outside, not-refused}
use Rattle.scanner.specs.Step.{Placed, read_by}
use Rattle.scanner.proofs.Walking.{prepend-count, prepend-adds, prepend-words}

-- ---- what no row has

none-adds : (names : ℕ) (is : Items) → count is ≡ 0 → adds names is ≡ []
unfolding count adds
none-adds names (item i is) e = absurd (omega (arith, e))
none-adds names (whole n d) e = refl
none-adds names (lacks k) e = refl
none-adds names (stops n d) e = refl

none-words : (k base : ℕ) (table : List ℕ) (is : Items) → count is ≡ 0 → words k base table is ≡ []
unfolding count words
none-words k base table (item i is) e = absurd (omega (arith, e))
none-words k base table (whole n d) e = refl
none-words k base table (lacks j) e = refl
none-words k base table (stops n d) e = refl

-- an event has a row
pub some-row : (S : ℕ → Bool) (names : ℕ) (s : List ℕ) → Ended (event S names s) → 0 < count (event S names s)
unfolding count
some-row S names s w =
    let g = own-before S s names w in
    let o = own_row (λ is. event S names s ≡ is) S s names refl g.it g.place g.is in
    rw o.left (omega arith)

-- all of it was written
module _ (h : Home) (s : List ℕ) (k : Kept) (all : Items) (table table₁ store store₁ rows rows₁ : List ℕ) (from : ℕ) (others : Items) (a : Ahead)
    (f : FilledRows h s k all table table₁ store store₁ rows rows₁ from 0 others a) (room : 8 * count all ≤ length rows) where
  none_left : count others ≡ 0
  none_left = go (count others) refl
    where
      go : (c : ℕ) → count others ≡ c → count others ≡ 0
      go zero e = e
      go (suc c) e = f.stops (omega (arith, room, ap count f.all-is, prepend-count f.those others, e))

  pub adds-all : adds k.names (only f.those) ≡ adds k.names all
  adds-all =
      sym (ap (adds k.names) f.all-is ∙ prepend-adds k.names _ f.those others refl
      ∙ ap (λ (ts : List Span). adds k.names (only f.those) ++ ts) (none-adds _ others none_left) ∙ append-nil (adds k.names (only f.those)))

  pub words-all : words (pooled_in h) h.base table₁ (only f.those) ≡ words (pooled_in h) h.base table₁ all
  words-all =
      sym (ap (words (pooled_in h) h.base table₁) f.all-is ∙ prepend-words (pooled_in h) h.base table₁ f.those others
      ∙ ap (λ (ws : List ℕ). words (pooled_in h) h.base table₁ (only f.those) ++ ws) (none-words (pooled_in h) h.base table₁ others none_left)
      ∙ append-nil (words (pooled_in h) h.base table₁ (only f.those)))

-- ---- the two passes

module _ (finished copied : Bool) (base names used stored : ℕ) (s table store rows : List ℕ) (r : Placed base copied names used stored s table store) where
  abbrev is : Items
  is = event (sound names table (cond copied (length store) (base + length s))) names s

  abbrev ts : List Span
  ts = adds names is

  abbrev pub Whole : Left
  Whole = read_by finished copied base names used s table store rows

  abbrev same : Reply → Left
  same q = record { reply = q; table = table; store = store; rows = rows }

  abbrev home : Home
  home = record { base = base; copied = copied }

  abbrev kept : Kept
  kept = record { names = names; used = used }

  -- what the first pass measured
  module _ (m : Measure) (d : m ≡ measured finished names stored table s) where
    e : m ≡ measure finished names is
    unfolding measured
    e = d ∙ rw (le-ltb max_store (length s) (omega (arith, r.in-store)), le-ltb (length table) (2 * names) r.names-fit, r.stored_is)

    pub rows_are : m.rows ≡ count is
    unfolding measure
    rows_are = ap (λ (x : Measure). x.rows) e

    added-are : m.added ≡ length ts
    unfolding measure
    added-are = ap (λ (x : Measure). x.added) e

    bytes-are : m.bytes ≡ lengths ts
    unfolding measure
    bytes-are = ap (λ (x : Measure). x.bytes) e

    result-is : m.result ≡ outcome finished is
    unfolding measure
    result-is = ap (λ (x : Measure). x.result) e

    pub incomplete-is : m.result ≡ incomplete → same need_more ≡ Whole
    unfolding read_by by_outcome
    incomplete-is k = rw (sym result-is ∙ k)

    pub bad-is : (n d : ℕ) → m.result ≡ bad n d → same (refused n d) ≡ Whole
    unfolding read_by by_outcome
    bad-is n d k = rw (sym result-is ∙ k)

    module _ (n : ℕ) (k : m.result ≡ complete n) where
      ended : outcome finished is ≡ complete n
      ended = sym result-is ∙ k

      whole-read : Ended is
      whole-read = complete-ended finished n is ended

      trusted : is ≡ event always names s
      trusted = trusted-event _ s names whole-read

      pub rows_short : length rows / 8 < m.rows → same (refused rows_full 0) ≡ Whole
      unfolding read_by by_outcome hand_out
      rows_short h = let t = rw rows_are at h in rw (ended, lt-ltb (length rows / 8) (count is) t)

      module _ (h : m.rows ≤ length rows / 8) where
        enough : ltb (length rows / 8) (count is) ≡ false
        enough = le-ltb (length rows / 8) (count is) (rw rows_are at h)

        row_room : 8 * count is ≤ length rows
        row_room = let c : count is ≤ length rows / 8 = rw rows_are at h in omega arith

        pub a-row : 8 ≤ length rows
        a-row = omega (arith, row_room, some-row _ names s whole-read)

        pub pairs-short : length table / 2 - names < m.added → same (refused pool_full 0) ≡ Whole
        unfolding read_by by_outcome hand_out
        pairs-short g =
            let t : length table < 2 * (names + length ts) = omega (arith, rw added-are at g, r.names-fit) in
            rw (ended, enough, lt-ltb (length table) (2 * (names + length ts)) t)

        module _ (g : m.added ≤ length table / 2 - names) where
          pair-room : 2 * (names + length ts) ≤ length table
          pair-room = let t : length ts ≤ length table / 2 - names = rw added-are at g in omega (arith, r.names-fit)

          pairs-enough : ltb (length table) (2 * (names + length ts)) ≡ false
          pairs-enough = le-ltb (length table) (2 * (names + length ts)) pair-room

          pub bytes-short : copied ≡ true → length store - used < m.bytes → same (refused names_full 0) ≡ Whole
          unfolding read_by by_outcome hand_out
          bytes-short c f =
              let t : length store < used + lengths ts = omega (arith, rw bytes-are at f, (r.used-fit c).0) in
              rw (ended, enough, pairs-enough, lt-ltb (length store) (used + lengths ts) t, c)

          module _ (f : copied ≡ true → m.bytes ≤ length store - used) where
            byte-room : copied ≡ true → used + lengths ts ≤ length store
            byte-room c = let t : lengths ts ≤ length store - used = rw bytes-are at (f c) in omega (arith, (r.used-fit c).0)

            bytes-enough : (copied && ltb (length store) (used + lengths ts)) ≡ false
            bytes-enough = by_test copied (λ c. rw (le-ltb (length store) (used + lengths ts) (byte-room c), c)) (λ c. rw c)

            pub can-fill : Ready home s kept (event always names s) table store
            can-fill = rw (← trusted) (record {
              ended = whole-read;
              in-store = r.in-store;
              room = record { pairs-fit = pair-room; bytes_fit = λ c. (byte-room c, (r.used-fit c).1) };
            })

            pub filled_is : (table₁ store₁ rows₁ : List ℕ) (others : Items) (a : Ahead) → FilledRows home s kept (event always names s) table table₁ store store₁ rows rows₁ 0 0 others a
                → record { reply = gives m.rows n m.added m.bytes; table = table₁; store = store₁; rows = rows₁ } ≡ Whole
            unfolding read_by by_outcome hand_out written
            filled_is table₁ store₁ rows₁ others a z =
                let y = rw (← trusted) at z in
                let x : adds names (only y.those) ≡ ts = adds-all home s kept is table table₁ store store₁ rows rows₁ 0 others a y row_room in
                let w = words-all home s kept is table table₁ store store₁ rows rows₁ 0 others a y row_room in
                rw (ended, enough, pairs-enough, bytes-enough, rows_are, added-are, bytes-are, y.stored, w, y.keeps.store_is, y.keeps.table_is, x)

-- ---- after 17 and 19

module _ (s : List ℕ) (base : ℕ) (finished copied : Bool) (names used : ℕ) (table store rows : List ℕ)
    (f : refused_first base (length s) copied (length store) (length table) names used ≡ 0) where
  pub step-placed : (stored : ℕ) → stored ≡ cond copied (length store) (base + length s) → Placed base copied names used stored s table store
  step-placed stored e =
      let n = not-refused base (length s) copied (length store) (length table) names used f in
      let a = not-long base (length s) copied (length store) n.0 in
      let b = not-outside (length table) names copied used (length store) n.1 in
      record { in-store = a.0; names-fit = b.0; used-fit = λ c. (b.1 c, a.1 c); stored_is = e }

  pub step-read : (x : Left) → x ≡ read_by finished copied base names used s table store rows → x ≡ step s base finished copied names used table store rows
  unfolding step read_by
  step-read x k = let n = not-refused base (length s) copied (length store) (length table) names used f in k ∙ rw (n.0, n.1)
