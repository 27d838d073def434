-- The second pass over an event: rows one after another, and what is left after each.
use Rattle.std.proofs.Common.{true, false, List, [], ◌∷◌, ◌++◌, append-nil, append_assoc, ◌≡◌, refl, sym, ap, ◌∙◌, ℕ, ◌+◌, ◌*◌, ◌≤◌, ◌<◌, arith, length, length-append}
use Rattle.std.proofs.Math.Seq.{sets, length-sets}
use Rattle.grammar.specs.Grammar.{Span, Item, Items, item, whole, after, attribute}
use Rattle.grammar.specs.Scan.{adds_item, adds, count, item_words, words}
use Rattle.grammar.specs.Fits.{ItemFits}
use Rattle.grammar.proofs.Added.{AllIn, all_in-append, adds_item-in, after-adds}
use Rattle.grammar.proofs.Stores.{sets-append}
use Rattle.grammar.proofs.Said.{words-length}
use Rattle.grammar.proofs.Binds.{Got}
use Rattle.grammar.specs.Turn.{rest}
use Rattle.grammar.specs.Attributes.{is_attribute}
use Rattle.grammar.specs.Endings.{Ended}
use Rattle.grammar.proofs.Attributes.{stands, Turn, turn_end, turn-row, attribute-before}
use Rattle.grammar.specs.Trusted.{always}
use Rattle.scanner.specs.declared.fill.Home.{Home}
use Rattle.scanner.specs.declared.fill.Kept.{Kept}
use Rattle.scanner.specs.declared.fill.Ahead.{Ahead}
use Rattle.scanner.specs.Fill.{pooled_in, kept_pairs, Room, Has, Once, Within, RowFilled, prepend, only, FitAll, Ready, FilledRows, Walked}
use Rattle.scanner.proofs.Keeping.{keeps-none, keeps-both, room-first, room-then}
use Rattle.scanner.proofs.Filling.{it-has, once-it}
use Rattle.scanner.proofs.Rowing.{item-later}

-- ---- rows, and others after them

-- the pool's count after rows
unfoldable after_all : ℕ → List Item → ℕ
after_all names [] = names
after_all names (i ∷ is) = after_all (after names i) is

prepend-both : (is js : List Item) (ks : Items) → prepend is (prepend js ks) ≡ prepend (is ++ js) ks
unfolding prepend
prepend-both [] js ks = refl
prepend-both (i ∷ is) js ks = ap (item i) (prepend-both is js ks)

pub prepend-ended : (is : List Item) (js : Items) → Ended (prepend is js) → Ended js
unfolding prepend
prepend-ended [] js w = w
prepend-ended (i ∷ is) js w = prepend-ended is js w

pub prepend-count : (is : List Item) (js : Items) → count (prepend is js) ≡ length is + count js
unfolding prepend count
prepend-count [] js = omega arith
prepend-count (i ∷ is) js = omega (arith, prepend-count is js)

adds-by : (names : ℕ) (is : List Item) (js : Items) → adds names (prepend is js) ≡ adds names (only is) ++ adds (after_all names is) js
unfolding prepend adds after_all
adds-by names [] js = refl
adds-by names (i ∷ is) js = ap (λ (ts : List Span). adds_item names i ++ ts) (adds-by (after names i) is js) ∙ sym (append_assoc (adds_item names i) (adds (after names i) (only is)) _)

after-all : (names : ℕ) (is : List Item) → after_all names is ≡ names + length (adds names (only is))
unfolding prepend adds after_all
after-all names [] = omega arith
after-all names (i ∷ is) =
    omega (arith, after-all (after names i) is, after-adds names i, length-append (adds_item names i) (adds (after names i) (only is)))

-- by the names that are kept then
pub prepend-adds : (names m : ℕ) (is : List Item) (js : Items) → m ≡ names + length (adds names (only is)) → adds names (prepend is js) ≡ adds names (only is) ++ adds m js
prepend-adds names m is js e = adds-by names is js ∙ ap (λ (k : ℕ). adds names (only is) ++ adds k js) (after-all names is ∙ sym e)

module _ (pooled base : ℕ) (table : List ℕ) where
  pub prepend-words : (is : List Item) (js : Items) → words pooled base table (prepend is js) ≡ words pooled base table (only is) ++ words pooled base table js
  unfolding prepend words
  prepend-words [] js = refl
  prepend-words (i ∷ is) js =
      ap (λ (ws : List ℕ). item_words pooled base table i ++ ws) (prepend-words is js) ∙ sym (append_assoc (item_words pooled base table i) (words pooled base table (only is)) _)

  only-words : (is : List Item) → length (words pooled base table (only is)) ≡ 8 * length is
  unfolding count
  only-words is = words-length pooled base table (only is) ∙ omega (arith, prepend-count is (whole 0 false))

fit-in : (l names : ℕ) (is : List Item) → FitAll l names is → AllIn l (adds names (only is))
unfolding prepend adds
fit-in l names [] f = tt
fit-in l names (i ∷ is) f = all_in-append l (adds_item names i) _ (adds_item-in l names names i f.0) (fit-in l (after names i) is f.1)

fit-both : (l names : ℕ) (is js : List Item) → FitAll l names is → FitAll l (after_all names is) js → FitAll l names (is ++ js)
unfolding after_all
fit-both l names [] js f g = g
fit-both l names (i ∷ is) js f g = (f.0, fit-both l (after names i) is js f.1 g)

after-grows : (names : ℕ) (is : List Item) → names ≤ after_all names is
after-grows names is = omega (arith, after-all names is)

words-by : (pooled base l : ℕ) (table vs : List ℕ) (k names : ℕ) (is : List Item) → FitAll l names is → after_all names is ≤ k
    → words pooled base (sets table (2 * k) vs) (only is) ≡ words pooled base table (only is)
unfolding prepend words after_all
words-by pooled base l table vs k names [] f h = refl
words-by pooled base l table vs k names (i ∷ is) f h =
    rw (item-later pooled base l table vs k names i (omega (arith, h, after-grows (after names i) is)) f.0, words-by pooled base l table vs k (after names i) is f.1 h)

pub words-later : (pooled base l : ℕ) (table vs : List ℕ) (k names : ℕ) (is : List Item) → FitAll l names is → names + length (adds names (only is)) ≤ k
    → words pooled base (sets table (2 * k) vs) (only is) ≡ words pooled base table (only is)
words-later pooled base l table vs k names is f h = words-by pooled base l table vs k names is f (omega (arith, h, after-all names is))

-- ---- a walk that has come so far

module _ (h : Home) (s : List ℕ) (k : Kept) (all : Items) (table store rows : List ℕ) (first : ℕ) where
  pub walked_none : Walked h s k all table table store store rows rows first first all k
  unfolding prepend adds words
  walked_none = record { those = []; all-is = refl; fit = tt; keeps = keeps-none h s k table store; stored = refl; word-is = omega arith }

  pub walked-long : (table₁ store₁ rows₁ : List ℕ) (to : ℕ) (others : Items) (k₁ : Kept) → Walked h s k all table table₁ store store₁ rows rows₁ first to others k₁
      → length rows₁ ≡ length rows
  walked-long table₁ store₁ rows₁ to others k₁ g = ap length g.stored ∙ length-sets rows first (words (pooled_in h) h.base table₁ (only g.those))

  -- what is left is ready
  pub walked-ready : (table₁ store₁ rows₁ : List ℕ) (to : ℕ) (others : Items) (k₁ : Kept) → Walked h s k all table table₁ store store₁ rows rows₁ first to others k₁
      → Ready h s k all table store → Ready h s k₁ others table₁ store₁
  walked-ready table₁ store₁ rows₁ to others k₁ g r = record {
    ended = prepend-ended g.those others (rw g.all-is at r.ended);
    in-store = r.in-store;
    room = room-then h g.keeps (adds k₁.names others) (rw (ap (adds k.names) g.all-is ∙ prepend-adds k.names k₁.names g.those others g.keeps.names-are) at r.room);
  }

  -- these rows, then those
  module _ (table₁ store₁ rows₁ : List ℕ) (to : ℕ) (mid : Items) (k₁ : Kept) (g : Walked h s k all table table₁ store store₁ rows rows₁ first to mid k₁)
      (table₂ store₂ rows₂ : List ℕ) (to₂ : ℕ) (others : Items) (k₂ : Kept) (f : Walked h s k₁ mid table₁ table₂ store₁ store₂ rows₁ rows₂ to to₂ others k₂) where
    abbrev those₂ : List Item
    those₂ = g.those ++ f.those

    abbrev words_by : List ℕ → List Item → List ℕ
    words_by t is = words (pooled_in h) h.base t (only is)

    adds-both : adds k.names (only those₂) ≡ adds k.names (only g.those) ++ adds k₁.names (only f.those)
    adds-both = ap (adds k.names) (sym (prepend-both g.those f.those (whole 0 false))) ∙ prepend-adds k.names k₁.names g.those (only f.those) g.keeps.names-are

    words-both : words_by table₂ those₂ ≡ words_by table₂ g.those ++ words_by table₂ f.those
    words-both = ap (words (pooled_in h) h.base table₂) (sym (prepend-both g.those f.those (whole 0 false))) ∙ prepend-words (pooled_in h) h.base table₂ g.those (only f.those)

    same-words : words_by table₂ g.those ≡ words_by table₁ g.those
    same-words =
        ap (λ (t : List ℕ). words_by t g.those) f.keeps.table_is
        ∙ words-later (pooled_in h) h.base (length s) table₁ (kept_pairs h k₁.used (adds k₁.names (only f.those))) k₁.names k.names g.those g.fit
        (omega (arith, g.keeps.names-are))

    pub walked_both : Walked h s k all table table₂ store store₂ rows rows₂ first to₂ others k₂
    walked_both = record {
      those = those₂;
      all-is = g.all-is ∙ ap (prepend g.those) f.all-is ∙ prepend-both g.those f.those others;
      fit = fit-both (length s) k.names g.those f.those g.fit (rw (after-all k.names g.those ∙ sym g.keeps.names-are) f.fit);
      keeps = rw adds-both (keeps-both h s k k₁ k₂ _ _ table table₁ table₂ store store₁ store₂ (fit-in (length s) k.names g.those g.fit) g.keeps f.keeps);
      stored =
          let l : to ≡ first + length (words_by table₁ g.those) = omega (arith, g.word-is, only-words (pooled_in h) h.base table₁ g.those) in
          f.stored ∙ rw (words-both, same-words, g.stored, l, sets-append rows first (words_by table₁ g.those) (words_by table₂ f.those));
      word-is = omega (arith, g.word-is, f.word-is, length-append g.those f.those);
    }

  -- a row more
  module _ (ready : Ready h s k all table store) (table₁ store₁ rows₁ : List ℕ) (to : ℕ) (k₁ : Kept) (i : Item) (js : Items)
      (g : Walked h s k all table table₁ store store₁ rows rows₁ first to (item i js) k₁) where
    walked-left : Room h k₁ (adds k₁.names (item i js)) table₁ store₁
    walked-left = (walked-ready table₁ store₁ rows₁ to (item i js) k₁ g ready).room

    pub walked-room : Room h k₁ (adds_item k₁.names i) table₁ store₁
    unfolding adds
    walked-room = room-first h k₁ (adds_item k₁.names i) (adds (after k₁.names i) js) table₁ store₁ walked-left

    module _ (f : ItemFits (length s) k₁.names i) (table₂ store₂ rows₂ : List ℕ) (a : Ahead) (n : ℕ) (r : RowFilled h s k₁ table₁ table₂ store₁ store₂ rows₁ rows₂ to a i n) where
      pub walked-names : a.kept.names ≡ after k₁.names i
      walked-names = r.keeps.names-are ∙ sym (after-adds k₁.names i)

      this : Walked h s k₁ (item i js) table₁ table₂ store₁ store₂ rows₁ rows₂ to (to + 8) js a.kept
      unfolding prepend adds words
      this = record {
        those = i ∷ [];
        all-is = refl;
        fit = (f, tt);
        keeps = rw (append-nil (adds_item k₁.names i)) r.keeps;
        stored = r.stored ∙ rw (append-nil (item_words (pooled_in h) h.base table₂ i));
        word-is = omega arith;
      }

      pub walked_more : Walked h s k all table table₂ store store₂ rows rows₂ first (to + 8) js a.kept
      walked_more = walked_both table₁ store₁ rows₁ to (item i js) k₁ g table₂ store₂ rows₂ (to + 8) js a.kept this

  -- no more rows, or no room for one
  pub walked-rows : (table₁ store₁ rows₁ : List ℕ) (from to : ℕ) (others : Items) (a : Ahead) → Walked h s k all table table₁ store store₁ rows rows₁ first to others a.kept
      → to ≤ length rows → (to + 8 ≤ length rows → count others ≡ 0) → to + 8 * from ≤ first + 8 * a.next → a.next ≤ length s
      → FilledRows h s k all table table₁ store store₁ rows rows₁ from first others a
  walked-rows table₁ store₁ rows₁ from to others a g f e m w = record {
    those = g.those;
    all-is = g.all-is;
    fit = g.fit;
    keeps = g.keeps;
    stored = g.stored;
    rows_fit = omega (arith, g.word-is, f);
    stops = λ z. e (omega (arith, z, g.word-is));
    moves = omega (arith, m, g.word-is);
    within = w;
  }

-- the rows that were written as a walk
pub filled-walk : (h : Home) (s : List ℕ) (k : Kept) (all : Items) (table table₁ store store₁ rows rows₁ : List ℕ) (from to : ℕ) (others : Items) (a : Ahead)
    → (f : FilledRows h s k all table table₁ store store₁ rows rows₁ from to others a)
    → Walked h s k all table table₁ store store₁ rows rows₁ to (to + 8 * length f.those) others a.kept
filled-walk h s k all table table₁ store store₁ rows rows₁ from to others a f =
    record { those = f.those; all-is = f.all-is; fit = f.fit; keeps = f.keeps; stored = f.stored; word-is = refl }

-- ---- attributes

pub none_left : (s : List ℕ) (names at : ℕ) → is_attribute s at ≡ false → count (rest always s names at) ≡ 0
unfolding count
none_left s names at b = rw (turn_end (λ is. rest always s names at ≡ is) always s names at refl b)

module _ (h : Home) (s : List ℕ) (k : Kept) (all : Items) (table store rows : List ℕ) (first : ℕ) (ready : Ready h s k all table store) (table₁ store₁ rows₁ : List ℕ) (to : ℕ)
    (k₁ : Kept) (at : ℕ) (g : Walked h s k all table table₁ store store₁ rows rows₁ first to (rest always s k₁.names at) k₁) (b : is_attribute s at ≡ true) where
  abbrev Left : Items → Type 0
  Left is = Walked h s k all table table₁ store store₁ rows rows₁ first to is k₁

  there : Got (attribute always k₁.names s at)
  there = attribute-before always s k₁.names at (walked-ready h s k all table store rows first table₁ store₁ rows₁ to _ k₁ g ready).ended b

  turn : Turn Left always s k₁.names at there.it there.place
  turn = turn-row Left always s k₁.names at g b there.it there.place there.is

  pub walk-asks : Within s (at + 1) h.base × Has (λ i. Room h k₁ (adds_item k₁.names i) table₁ store₁) (attribute always k₁.names s at)
  walk-asks = (
    record { inside = omega (arith, (stands s at b).0); in-store = ready.in-store },
    it-has (λ i. Room h k₁ (adds_item k₁.names i) table₁ store₁) (attribute always k₁.names s at) there.it there.place there.is
        (walked-room h s k all table store rows first ready table₁ store₁ rows₁ to k₁ there.it _ turn.left),
  )

  module _ (table₂ store₂ rows₂ : List ℕ) (a : Ahead) (o : Once (RowFilled h s k₁ table₁ table₂ store₁ store₂ rows₁ rows₂ to a) (attribute always k₁.names s at)) where
    done : RowFilled h s k₁ table₁ table₂ store₁ store₂ rows₁ rows₂ to a there.it there.place
    done = once-it (RowFilled h s k₁ table₁ table₂ store₁ store₂ rows₁ rows₂ to a) (attribute always k₁.names s at) there.it there.place there.is o

    pub walk-moves : (at < a.next) × (a.next ≤ length s)
    walk-moves = (omega (arith, turn.moves, done.moved), omega (arith, turn.within, done.moved))

    pub walk_more : Walked h s k all table table₂ store store₂ rows rows₂ first (to + 8) (rest always s a.kept.names a.next) a.kept
    walk_more =
        let e : rest always s a.kept.names a.next ≡ rest always s (after k₁.names there.it) there.place =
        ap (λ (m : ℕ). rest always s m a.next) (walked-names h s k all table store rows first ready table₁ store₁ rows₁ to k₁ there.it _ turn.left turn.fits table₂ store₂ rows₂ a _ done)
        ∙ ap (λ (m : ℕ). rest always s (after k₁.names there.it) m) done.moved in
        rw e (walked_more h s k all table store rows first ready table₁ store₁ rows₁ to k₁ there.it _ turn.left turn.fits table₂ store₂ rows₂ a _ done)
