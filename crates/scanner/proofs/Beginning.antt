-- The second pass over an event: its own row, then its attributes; and one row alone.
use Rattle.std.proofs.Common.{true, false, true≢false, List, [], ◌∷◌, ◌++◌, append-nil, ◌≡◌, refl, sym, ap, ◌∙◌, ℕ, ◌+◌, ◌*◌, ◌≤◌, ◌<◌, arith, eqb-true, ne_eqb, eqb, length, get_or, drop}
use Rattle.std.proofs.lemmas.Bool.{eqb-false}
use Rattle.std.proofs.Math.Seq.{sets, sets-eq, drop-length}
use Rattle.wire.specs.Token as Token
use Rattle.grammar.proofs.Choice.{by_test}
use Rattle.grammar.specs.Grammar.{Item, Items, item, whole, after, first, event}
use Rattle.grammar.specs.Scan.{adds_item, adds, count, item_words, words}
use Rattle.grammar.proofs.Added.{after-adds}
use Rattle.grammar.proofs.Said.{item-length}
use Rattle.grammar.proofs.Binds.{Got}
use Rattle.grammar.proofs.Rows.{first_kind}
use Rattle.grammar.specs.Turn.{rest}
use Rattle.grammar.proofs.Attributes.{Own, own-tag, own-single, own_row, own-before}
use Rattle.grammar.specs.Trusted.{always}
use Rattle.scanner.specs.declared.fill.Home.{Home}
use Rattle.scanner.specs.declared.fill.Kept.{Kept}
use Rattle.scanner.specs.declared.fill.Ahead.{Ahead}
use Rattle.scanner.specs.Fill.{Room, Has, Once, Within, RowFilled, prepend, only, Ready, ReadyAt, FilledRows, Walked, Begun, BegunRows, OneFilled, rows_from, others_from, in_place, kept_by}
use Rattle.scanner.proofs.Filling.{it-has, once-it}
use Rattle.scanner.proofs.Walking.{walked_none, walked-room, walked-names, walked_more, walked-long, walked-rows, walked-ready, walked_both, filled-walk}

-- ---- the place is in a tag

pub begun-inside : (h : Home) (s : List ℕ) (k : Kept) (table store rows : List ℕ) (from : ℕ) (b : Begun) → (from ≡ 0 → ⊥) → from ≤ length s
    → b.next ≡ from → b.kept ≡ k → b.to ≡ 0 → b.inside ≡ true → BegunRows h s k table table store store rows rows from b
begun-inside h s k table store rows from b z w n e t i =
    let f : eqb from 0 ≡ false = ne_eqb from 0 z in
    record {
      tag = rw (f, i);
      walked = rw (f, i, n, e, t) (walked_none h s k (rest always s k.names from) table store rows 0);
      moves = omega (arith, n, t);
      word_in = omega (arith, t);
      within = omega (arith, n, w);
    }

-- ---- the event's own row

module _ (h : Home) (s : List ℕ) (k : Kept) (table store rows : List ℕ) (ready : Ready h s k (event always k.names s) table store) where
  abbrev start : Items → Type 0
  start is = Walked h s k (event always k.names s) table table store store rows rows 0 0 is k

  there : Got (first always k.names s 0)
  there = own-before always s k.names ready.ended

  own : Own start s k.names there.it there.place
  own = own_row start always s k.names (walked_none h s k (event always k.names s) table store rows 0) there.it there.place there.is

  pub some_bytes : 0 < length s
  some_bytes = omega (arith, own.moves, own.within)

  pub own-asks : Within s 1 h.base × Has (λ i. Room h k (adds_item k.names i) table store) (first always k.names s 0)
  own-asks = (
    record { inside = omega (arith, some_bytes); in-store = ready.in-store },
    it-has (λ i. Room h k (adds_item k.names i) table store) (first always k.names s 0) there.it there.place there.is
        (walked-room h s k (event always k.names s) table store rows 0 ready table store rows 0 k there.it _ own.left),
  )

  module _ (kind : ℕ) (q : kind ≡ Token.command (get_or s 0 0)) (table₁ store₁ rows₁ : List ℕ) (a : Ahead)
      (o : Once (RowFilled h s k table table₁ store store₁ rows rows₁ 0 a) (first always k.names s 0)) where
    done : RowFilled h s k table table₁ store store₁ rows rows₁ 0 a there.it there.place
    done = once-it (RowFilled h s k table table₁ store store₁ rows rows₁ 0 a) (first always k.names s 0) there.it there.place there.is o

    kind-is : there.it.kind ≡ kind
    kind-is = first_kind always k.names s some_bytes kind q there.it there.place there.is

    abbrev Written : Items → Type 0
    Written is = Walked h s k (event always k.names s) table table₁ store store₁ rows rows₁ 0 8 is a.kept

    more : (js : Items) → start (item there.it js) → Written js
    more js g = walked_more h s k (event always k.names s) table store rows 0 ready table store rows 0 k there.it js g own.fits table₁ store₁ rows₁ a _ done

    names-are : (js : Items) → start (item there.it js) → a.kept.names ≡ after k.names there.it
    names-are js g = walked-names h s k (event always k.names s) table store rows 0 ready table store rows 0 k there.it js g own.fits table₁ store₁ rows₁ a _ done

    tag-left : kind ≡ Token.start_tag → Written (rest always s a.kept.names a.next)
    tag-left z =
        let g = own-tag start always s k.names (walked_none h s k (event always k.names s) table store rows 0) there.it there.place there.is (kind-is ∙ z) in
        let e : rest always s a.kept.names a.next ≡ rest always s (after k.names there.it) there.place =
        ap (λ (m : ℕ). rest always s m a.next) (names-are _ g) ∙ ap (λ (m : ℕ). rest always s (after k.names there.it) m) done.moved in
        rw e (more _ g)

    single-left : (kind ≡ Token.start_tag → ⊥) → Written (whole a.next false)
    single-left z =
        let g = own-single start always s k.names (walked_none h s k (event always k.names s) table store rows 0) there.it there.place there.is (λ e. z (sym kind-is ∙ e)) in
        rw done.moved (more _ g)

    pub begun-own : (b : Begun) → b.next ≡ a.next → b.kept ≡ a.kept → b.to ≡ 8 → b.inside ≡ eqb kind Token.start_tag → BegunRows h s k table table₁ store store₁ rows rows₁ 0 b
    begun-own b n e t i = record {
      tag = i ∙ ap (λ (x : ℕ). eqb x Token.start_tag) q;
      walked = rw (n, e, t, i)
          (by_test (eqb kind Token.start_tag) (λ z. rw z (tag-left (eqb-true _ _ z))) (λ z. rw z (single-left (eqb-false _ _ z))));
      moves = omega (arith, n, t, done.moved, own.moves);
      word_in = omega (arith, t);
      within = omega (arith, n, done.moved, own.within);
    }

-- ---- the event's own row, then the attributes

module _ (h : Home) (s : List ℕ) (k : Kept) (table table₁ store store₁ rows rows₁ : List ℕ) (from : ℕ) (ready : Ready h s k (rows_from k.names s from) table store)
    (b : Begun) (g : BegunRows h s k table table₁ store store₁ rows rows₁ from b) (room : 8 ≤ length rows) where
  abbrev all : Items
  all = rows_from k.names s from

  long : length rows₁ ≡ length rows
  long = walked-long h s k all table store rows 0 table₁ store₁ rows₁ b.to _ b.kept g.walked

  module _ (i : b.inside ≡ true) where
    inside-walked : Walked h s k all table table₁ store store₁ rows rows₁ 0 b.to (rest always s b.kept.names b.next) b.kept
    inside-walked = rw i at g.walked

    pub rest-asks : ((b.next ≤ length s) × (b.to ≤ length rows₁)) × Ready h s b.kept (rest always s b.kept.names b.next) table₁ store₁
    rest-asks = (
      (g.within, omega (arith, long, g.word_in, room)),
      walked-ready h s k all table store rows 0 table₁ store₁ rows₁ b.to _ b.kept inside-walked ready,
    )

    pub rest-filled : (table₂ store₂ rows₂ : List ℕ) (a : Ahead)
        → FilledRows h s b.kept (rest always s b.kept.names b.next) table₁ table₂ store₁ store₂ rows₁ rows₂ b.next b.to (rest always s a.kept.names a.next) a
        → FilledRows h s k all table table₂ store store₂ rows rows₂ from 0 (others_from s from a) a
    rest-filled table₂ store₂ rows₂ a f =
        let w = walked_both h s k all table store rows 0 table₁ store₁ rows₁ b.to _ b.kept inside-walked table₂ store₂ rows₂ _ _ a.kept
        (filled-walk h s b.kept _ table₁ table₂ store₁ store₂ rows₁ rows₂ b.next b.to _ a f) in
        rw (sym g.tag ∙ i)
        (walked-rows h s k all table store rows 0 table₂ store₂ rows₂ from _ _ a w (omega (arith, long, f.rows_fit)) (λ z. f.stops (omega (arith, z, long))) (omega (arith, g.moves, f.moves)) f.within)

  pub single-filled : b.inside ≡ false → (a : Ahead) → a.next ≡ b.next → a.kept ≡ b.kept → FilledRows h s k all table table₁ store store₁ rows rows₁ from 0 (others_from s from a) a
  unfolding count
  single-filled i a n e =
      let w : Walked h s k all table table₁ store store₁ rows rows₁ 0 b.to (whole a.next false) a.kept = rw (n, e) (rw i at g.walked) in
      rw (sym g.tag ∙ i)
      (walked-rows h s k all table store rows 0 table₁ store₁ rows₁ from b.to _ a w (omega (arith, g.word_in, room)) (λ z. refl) (omega (arith, g.moves, n)) (omega (arith, g.within, n)))

-- ---- one row

module _ (base : ℕ) (s : List ℕ) (names : ℕ) (all : Items) (table table₁ store store₁ row row₁ : List ℕ) (from : ℕ) (others : Items) (a : Ahead)
    (some : 0 < count all) (eight : length row ≡ 8) (f : FilledRows (in_place base) s (kept_by names) all table table₁ store store₁ row row₁ from 0 others a) where
  fits_one : 8 * length f.those ≤ 8
  fits_one = omega (arith, f.rows_fit, eight)

  all_one : 8 ≤ 8 * length f.those
  unfolding prepend
  all_one = go f.those refl
    where
      go : (is : List Item) → f.those ≡ is → 8 ≤ 8 * length f.those
      go [] e = let z : count all ≡ count others = ap count (f.all-is ∙ ap (λ (is : List Item). prepend is others) e) in absurd (omega (arith, f.stops (omega (arith, eight, ap length e)), z, some))
      go (i ∷ is) e = omega (arith, ap length e)

  by_row : (i : Item) → f.those ≡ i ∷ [] → OneFilled base s names all table table₁ row₁ from others a
  unfolding prepend adds words
  by_row i e =
      let n : adds names (only (i ∷ [])) ≡ adds_item names i = append-nil (adds_item names i) in
      let k = rw (e, n) at f.keeps in
      record {
        it = i;
        all-is = f.all-is ∙ ap (λ (is : List Item). prepend is others) e;
        fits = (rw e at f.fit).0;
        table_is = k.table_is;
        names-are = k.names-are ∙ sym (after-adds names i);
        row_is =
            f.stored ∙ ap (λ (is : List Item). sets row 0 (words 0 base table₁ (only is))) e
            ∙ ap (sets row 0) (append-nil (item_words 0 base table₁ i)) ∙ over row (item_words 0 base table₁ i) (eight ∙ sym (item-length 0 base table₁ i));
        moves = omega (arith, f.moves, ap length e);
        within = f.within;
      }
    where
      over : (l vs : List ℕ) → length l ≡ length vs → sets l 0 vs ≡ vs
      over l vs m =
          let z : sets l 0 vs ≡ vs ++ drop (0 + length vs) l = sets-eq vs l 0 (omega (arith, m)) in
          let n : 0 + length vs ≡ length l = omega (arith, m) in
          z ∙ ap (λ (x : ℕ). vs ++ drop x l) n ∙ ap (λ (x : List ℕ). vs ++ x) (drop-length l) ∙ append-nil vs

  pub one-filled : OneFilled base s names all table table₁ row₁ from others a
  one-filled = go f.those refl
    where
      go : (is : List Item) → f.those ≡ is → OneFilled base s names all table table₁ row₁ from others a
      go [] e = absurd (omega (arith, all_one, ap length e))
      go (i ∷ []) e = by_row i e
      go (i ∷ (j ∷ is)) e = absurd (omega (arith, fits_one, ap length e))

-- names that stay in place ask nothing of a name store
pub ready-any : (base : ℕ) (s : List ℕ) (names : ℕ) (is : Items) (table store : List ℕ) → ReadyAt base s names is table → Ready (in_place base) s (kept_by names) is table store
ready-any base s names is table store r =
    record { ended = r.ended; in-store = r.in-store; room = record { pairs-fit = r.room.pairs-fit; bytes_fit = λ c. absurd (true≢false (sym c)) } }
