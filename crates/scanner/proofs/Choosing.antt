-- Rows that a query takes of an event, read one after another, and the new names that are kept on the way.
use Rattle.std.proofs.Common.{Bool, true, false, ◌||◌, ◌&&◌, not, cond, true≢false, List, [], ◌∷◌, ◌++◌, append-nil, append_assoc, ◌≡◌, refl, sym, ap, ◌∙◌, ℕ, ◌+◌, ◌*◌, ◌≤◌, ◌<◌, arith, eq-eqb, ne_eqb, ltb-true, ltb-false, leb, ltb, eqb, length, get_or, length-append}
use Rattle.std.proofs.Math.Seq.{sets, length-sets}
use Rattle.wire.specs.Token as Token
use Rattle.grammar.proofs.Choice.{by_test}
use Rattle.grammar.specs.Grammar.{Span, Item, Items, item, whole, event}
use Rattle.grammar.specs.Scan.{adds_item, adds, pairs, item_words, count}
use Rattle.grammar.proofs.Added.{after-adds}
use Rattle.grammar.proofs.Stores.{sets-append, pairs-append, pairs-length}
use Rattle.grammar.proofs.Said.{item-length}
use Rattle.grammar.proofs.Rows.{first_kind}
use Rattle.grammar.specs.Turn.{rest}
use Rattle.grammar.specs.Attributes.{is_attribute}
use Rattle.grammar.proofs.Attributes.{turn_end, turn-row, attribute-before, own-before, own_row}
use Rattle.grammar.specs.Trusted.{always}
use Rattle.slice_spec.specs.Queries.{Words, named, is_element, concat, kind_of}
use Rattle.scanner.specs.declared.fill.Ahead.{Ahead}
use Rattle.scanner.specs.declared.select.Query.{Query}
use Rattle.scanner.specs.Fill.{ReadyAt, OneFilled, rows_from, others_from}
use Rattle.scanner.specs.Select.{takes_all, takes_one, rows_of, taken, chosen, grown, Room, Chose}
use Rattle.scanner.proofs.Rowing.{item-later}
use Rattle.scanner.proofs.Picking.{chose_none, none-stored}

-- ---- a row that was read: the names that are left to keep, and its words by the table that has them all

module _ (base : ℕ) (s : List ℕ) (names : ℕ) (is : Items) (table table₁ row : List ℕ) (from : ℕ) (js : Items) (a : Ahead) (o : OneFilled base s names is table table₁ row from js a) where
  abbrev names₁ : ℕ
  names₁ = a.kept.names

  adds-first : adds names is ≡ adds_item names o.it ++ adds names₁ js
  unfolding adds
  adds-first = ap (adds names) o.all-is ∙ ap (λ (n : ℕ). adds_item names o.it ++ adds n js) (sym o.names-are)

  as_many : length (adds names is) ≡ length (adds_item names o.it) + length (adds names₁ js)
  as_many = ap length adds-first ∙ length-append (adds_item names o.it) (adds names₁ js)

  names-by : names₁ ≡ names + length (adds_item names o.it)
  names-by = o.names-are ∙ after-adds names o.it

  pub row-grown : grown base names₁ table₁ js ≡ grown base names table is
  row-grown =
      let n : 2 * names₁ ≡ 2 * names + length (pairs base (adds_item names o.it)) = omega (arith, names-by, pairs-length base (adds_item names o.it)) in
      ap (λ (t : List ℕ). sets t (2 * names₁) (pairs base (adds names₁ js))) o.table_is
      ∙ ap (λ (m : ℕ). sets (sets table (2 * names) (pairs base (adds_item names o.it))) m (pairs base (adds names₁ js))) n
      ∙ sym (sets-append table (2 * names) (pairs base (adds_item names o.it)) (pairs base (adds names₁ js)))
      ∙ ap (sets table (2 * names)) (sym (pairs-append base (adds_item names o.it) (adds names₁ js)))
      ∙ ap (λ (ts : List Span). sets table (2 * names) (pairs base ts)) (sym adds-first)

  pub row-ready : ReadyAt base s names is table → ReadyAt base s names₁ js table₁
  row-ready r = record {
    ended = rw o.all-is at r.ended;
    in-store = r.in-store;
    room = record {
      pairs-fit = omega (arith, r.room.pairs-fit, names-by, as_many, ap length o.table_is, length-sets table (2 * names) (pairs base (adds_item names o.it)));
      bytes_fit = λ c. absurd (true≢false (sym c));
    };
  }

  pub row-still : (still : Bool) → (still ≡ true → length (adds names is) ≡ 0) → still ≡ true → length (adds names₁ js) ≡ 0
  row-still still f e = omega (arith, f e, as_many)

  row_words : item_words 0 base (grown base names table is) o.it ≡ row
  row_words =
      ap (λ (t : List ℕ). item_words 0 base t o.it) (sym row-grown)
      ∙ item-later 0 base (length s) table₁ (pairs base (adds names₁ js)) names₁ names o.it (omega (arith, o.names-are)) o.fits ∙ sym o.row_is

  pub row_first : rows_of base (grown base names table is) is ≡ row ∷ rows_of base (grown base names table is) js
  unfolding rows_of
  row_first = ap (rows_of base (grown base names table is)) o.all-is ∙ ap (λ (w : Words). w ∷ rows_of base (grown base names table is) js) row_words

  pub row-eight : length row ≡ 8
  row-eight = ap length o.row_is ∙ item-length 0 base table₁ o.it

  pub row-kind : get_or row 0 0 ≡ kind_of is
  unfolding item_words kind_of
  row-kind = ap (λ (w : Words). get_or w 0 0) o.row_is ∙ sym (ap kind_of o.all-is)

-- a table that no name is added to
none-grown : (base names : ℕ) (table : List ℕ) (is : Items) → length (adds names is) ≡ 0 → table ≡ grown base names table is
none-grown base names table is e = none-stored table (2 * names) base (adds names is) (sym e)

pub grown-long : (base names : ℕ) (table : List ℕ) (is : Items) → length (grown base names table is) ≡ length table
grown-long base names table is = length-sets table (2 * names) (pairs base (adds names is))

-- ---- attributes

module _ (base : ℕ) (s document name : List ℕ) (all one still : Bool) (to : ℕ) where
  abbrev pub takes : Bool → List Words → List Words
  takes looking ws = cond looking (taken all one document name ws) []

  abbrev pub stored : ℕ → List Words → List ℕ → List ℕ
  stored n ws rows = sets rows (to + 8 * n) (concat ws)

  -- what is left to do leads to this table, so many rows, and these words
  pub record Taking (final : List ℕ) (total : ℕ) (written : List ℕ) (names : ℕ) (is : Items) (looking : Bool) (n : ℕ) (table rows : List ℕ) : Type 0 where
    pub ready : ReadyAt base s names is table
    pub still-none : still ≡ true → length (adds names is) ≡ 0
    pub grows : grown base names table is ≡ final
    pub counts : n + length (takes looking (rows_of base final is)) ≡ total
    pub stores : stored n (takes looking (rows_of base final is)) rows ≡ written
    pub room : 0 < length rows → to + 8 * total ≤ length rows

  stored-long : (n : ℕ) (ws : List Words) (rows : List ℕ) → length (stored n ws rows) ≡ length rows
  stored-long n ws rows = length-sets rows (to + 8 * n) (concat ws)

  stored-none : (n : ℕ) (rows : List ℕ) → stored n [] rows ≡ rows
  unfolding concat
  stored-none n rows = refl

  -- a row that is taken, then others
  stored_row : (n : ℕ) (w : Words) (ws : List Words) (rows : List ℕ) → length w ≡ 8 → stored (n + 1) ws (sets rows (to + 8 * n) w) ≡ stored n (w ∷ ws) rows
  unfolding concat
  stored_row n w ws rows l =
      let m : to + 8 * (n + 1) ≡ to + 8 * n + length w = omega (arith, l) in
      ap (λ (k : ℕ). sets (sets rows (to + 8 * n) w) k (concat ws)) m ∙ sym (sets-append rows (to + 8 * n) w (concat ws))

  module _ (names : ℕ) (is : Items) (look : Bool) (table rows : List ℕ) where
    abbrev pub asked_of : List Words
    asked_of = takes look (rows_of base (grown base names table is) is)

    pub taking-start : ReadyAt base s names is table → (still ≡ true → length (adds names is) ≡ 0) → Room to (length asked_of) rows
        → Taking (grown base names table is) (length asked_of) (stored 0 asked_of rows) names is look 0 table rows
    taking-start r f m = record { ready = r; still-none = f; grows = refl; counts = omega arith; stores = refl; room = m.fits }

    pub asked-long : length (stored 0 asked_of rows) ≡ length rows
    asked-long = stored-long 0 asked_of rows

    pub taken_is : (table₁ rows₁ : List ℕ) (n : ℕ) → n ≡ length asked_of → rows₁ ≡ stored 0 asked_of rows → Chose to asked_of rows rows₁ n
    taken_is table₁ rows₁ n e f =
        let m : to + 8 * 0 ≡ to = omega arith in
        record { counted = e; rows_are = f ∙ ap (λ (k : ℕ). sets rows k (concat asked_of)) m }

  module _ (final : List ℕ) (total : ℕ) (written : List ℕ) (names : ℕ) (is : Items) (looking : Bool) (n : ℕ) (table rows : List ℕ) (g : Taking final total written names is looking n table rows) where
    pub taking-long : length rows ≡ length written
    taking-long = sym (ap length (sym g.stores) ∙ stored-long n (takes looking (rows_of base final is)) rows)

    pub taking-few : n ≤ total
    taking-few = omega (arith, g.counts)

    -- nothing is left
    taking-over : takes looking (rows_of base final is) ≡ [] → length (adds names is) ≡ 0 → (n ≡ total) × (rows ≡ written) × (table ≡ final)
    taking-over e f = (
      omega (arith, g.counts, ap length e),
      sym (stored-none n rows) ∙ ap (λ (ws : List Words). stored n ws rows) (sym e) ∙ g.stores,
      none-grown base names table is f ∙ g.grows,
    )

    pub taking-done : (not looking && still) ≡ true → (n ≡ total) × (rows ≡ written) × (table ≡ final)
    taking-done e =
        by_test looking (λ l. absurd (true≢false (sym (rw l at e))))
        (λ l. taking-over (rw l) (g.still-none (rw l at e)))

    pub taking-end : (d : ℕ) (e : Bool) → is ≡ whole d e → (n ≡ total) × (rows ≡ written) × (table ≡ final)
    unfolding rows_of taken adds
    taking-end d e h =
        taking-over (ap (λ (js : Items). takes looking (rows_of base final js)) h ∙ by_test looking (λ l. rw l) (λ l. rw l)) (ap (λ (js : Items). length (adds names js)) h)

    -- a row was read
    module _ (table₁ row : List ℕ) (from : ℕ) (js : Items) (a : Ahead) (o : OneFilled base s names is table table₁ row from js a) where
      abbrev after-it : List Words
      after-it = rows_of base final js

      rows_are : rows_of base final is ≡ row ∷ after-it
      rows_are =
          let z = row_first base s names is table table₁ row from js a o in
          rw (← g.grows) z

      abbrev wanted : Bool
      wanted = looking && (all || named document name row)

      skips : wanted ≡ false → takes looking (row ∷ after-it) ≡ takes looking after-it
      unfolding taken
      skips e = by_test looking (λ l. rw l (let z = rw l at e in rw z)) (λ l. rw l)

      later : cond one [] (taken all one document name after-it) ≡ takes (not one) after-it
      later = by_test one (λ u. rw u) (λ u. rw u)

      picks : wanted ≡ true → takes looking (row ∷ after-it) ≡ row ∷ takes (not one) after-it
      unfolding taken
      picks e =
          by_test looking (λ l. rw l (let z = rw l at e in rw z (ap (λ (ws : List Words). row ∷ ws) later))) (λ l. absurd (true≢false (sym (rw l at e))))

      next : (looking₁ : Bool) (n₁ : ℕ) (rows₁ : List ℕ) → length rows₁ ≡ length rows → n₁ + length (takes looking₁ after-it) ≡ total → stored n₁ (takes looking₁ after-it) rows₁ ≡ written
          → Taking final total written a.kept.names js looking₁ n₁ table₁ rows₁
      next looking₁ n₁ rows₁ l c d = record {
        ready = row-ready base s names is table table₁ row from js a o g.ready;
        still-none = row-still base s names is table table₁ row from js a o still g.still-none;
        grows = row-grown base s names is table table₁ row from js a o ∙ g.grows;
        counts = c;
        stores = d;
        room = λ e. omega (arith, g.room (omega (arith, e, l)), l);
      }

      pub taking-skip : wanted ≡ false → Taking final total written a.kept.names js looking n table₁ rows
      taking-skip e =
          let z : takes looking (rows_of base final is) ≡ takes looking after-it = ap (takes looking) rows_are ∙ skips e in
          next looking n rows refl (rw (← z) g.counts) (rw (← z) g.stores)

      module _ (e : wanted ≡ true) where
        picked-is : takes looking (rows_of base final is) ≡ row ∷ takes (not one) after-it
        picked-is = ap (takes looking) rows_are ∙ picks e

        pub taking-room : 0 < length rows → to + 8 * n + 8 ≤ length rows
        taking-room f = omega (arith, g.room f, g.counts, ap length picked-is)

        pub taking-more : (rows₁ : List ℕ) → rows₁ ≡ sets rows (to + 8 * n) row → Taking final total written a.kept.names js (not one) (n + 1) table₁ rows₁
        taking-more rows₁ d =
            let l : length (sets rows (to + 8 * n) row) ≡ length rows = length-sets rows (to + 8 * n) row in
            next (not one) (n + 1) rows₁ (ap length d ∙ l) (omega (arith, g.counts, ap length picked-is))
            (ap (stored (n + 1) (takes (not one) after-it)) d ∙ stored_row n row (takes (not one) after-it) rows (row-eight base s names is table table₁ row from js a o)
            ∙ ap (λ (ws : List Words). stored n ws rows) (sym picked-is) ∙ g.stores)

-- attributes at a place after the event's first byte
module _ (s : List ℕ) (names at : ℕ) (p : 0 < at) where
  rest-here : rows_from names s at ≡ rest always s names at
  rest-here = let e : eqb at 0 ≡ false = ne_eqb at 0 (λ z. omega (arith, z)) in rw e

  pub one-asks : (base : ℕ) (table : List ℕ) → ReadyAt base s names (rest always s names at) table → is_attribute s at ≡ true
      → ReadyAt base s names (rows_from names s at) table × (0 < count (rows_from names s at))
  unfolding count
  one-asks base table r b =
      let g = attribute-before always s names at r.ended b in
      let t = turn-row (λ is. rest always s names at ≡ is) always s names at refl b g.it g.place g.is in
      let c : 0 < count (rest always s names at) = rw t.left (omega arith) in
      (rw rest-here r, rw rest-here c)

  pub one-here : (base : ℕ) (table table₁ row : List ℕ) (a : Ahead) → OneFilled base s names (rows_from names s at) table table₁ row at (others_from s at a) a
      → OneFilled base s names (rest always s names at) table table₁ row at (rest always s a.kept.names a.next) a
  one-here base table table₁ row a o =
      let e : eqb at 0 ≡ false = ne_eqb at 0 (λ z. omega (arith, z)) in
      rw e at o

  pub none_here : is_attribute s at ≡ false → rest always s names at ≡ whole at (leb (length s) at)
  none_here b = turn_end (λ is. rest always s names at ≡ is) always s names at refl b

-- ---- the event's own row, then its attributes

concat-append : (ws vs : List Words) → concat (ws ++ vs) ≡ concat ws ++ concat vs
unfolding concat
concat-append [] vs = refl
concat-append (w ∷ ws) vs = ap (λ (x : List ℕ). w ++ x) (concat-append ws vs) ∙ sym (append_assoc w (concat ws) (concat vs))

chose-both : (to : ℕ) (ws vs : List Words) (rows rows₁ rows₂ : List ℕ) (n m : ℕ) → length (concat ws) ≡ 8 * length ws
    → Chose to ws rows rows₁ n → Chose (to + 8 * n) vs rows₁ rows₂ m → Chose to (ws ++ vs) rows rows₂ (n + m)
chose-both to ws vs rows rows₁ rows₂ n m l x y =
    let k : to + 8 * n ≡ to + length (concat ws) = omega (arith, l, x.counted) in
    record {
      counted = omega (arith, x.counted, y.counted, length-append ws vs);
      rows_are = rw (concat-append ws vs, sets-append rows to (concat ws) (concat vs)) (y.rows_are ∙ rw (x.rows_are, k));
    }

module _ (base : ℕ) (s : List ℕ) (names : ℕ) (table table₁ row : List ℕ) (a : Ahead) (r : ReadyAt base s names (event always names s) table)
    (o : OneFilled base s names (event always names s) table table₁ row 0 (others_from s 0 a) a) where
  abbrev is : Items
  is = event always names s

  kind-is : get_or row 0 0 ≡ Token.command (get_or s 0 0)
  unfolding kind_of
  kind-is =
      let g = own-before always s names r.ended in
      let w = own_row (λ js. event always names s ≡ js) always s names refl g.it g.place g.is in
      let e : item g.it w.others ≡ item o.it (others_from s 0 a) = sym w.left ∙ o.all-is in
      let i : g.it ≡ o.it = cc e in
      row-kind base s names is table table₁ row 0 _ a o ∙ ap kind_of o.all-is ∙ ap (λ (x : Item). x.kind) (sym i)
      ∙ first_kind always names s (omega (arith, w.moves, w.within)) _ refl g.it g.place g.is

  pub event-kind : get_or row 0 0 ≡ kind_of is
  event-kind = row-kind base s names is table table₁ row 0 _ a o

  -- no start tag
  module _ (z : get_or row 0 0 ≡ Token.start_tag → ⊥) where
    single : others_from s 0 a ≡ whole a.next false
    single = let e : eqb (Token.command (get_or s 0 0)) Token.start_tag ≡ false = ne_eqb _ _ (λ x. z (kind-is ∙ x)) in rw e

    pub single-grown : table₁ ≡ grown base names table is
    unfolding adds
    single-grown =
        none-grown base a.kept.names table₁ (others_from s 0 a) (ap (λ (js : Items). length (adds a.kept.names js)) single)
        ∙ row-grown base s names is table table₁ row 0 _ a o

    pub single-chosen : (q : Query) (document element name rows : List ℕ) (to : ℕ)
        → Chose to (chosen q document element name (rows_of base (grown base names table is) is)) rows rows 0
    unfolding chosen is_element
    single-chosen q document element name rows to =
        let e : chosen q document element name (rows_of base (grown base names table is) is) ≡ [] =
        ap (chosen q document element name) (row_first base s names is table table₁ row 0 _ a o) ∙ rw (ne_eqb (get_or row 0 0) Token.start_tag z) in
        rw e (chose_none to rows)

  -- a start tag
  module _ (z : get_or row 0 0 ≡ Token.start_tag) where
    tag-row : OneFilled base s names is table table₁ row 0 (rest always s a.kept.names a.next) a
    tag-row = let e : eqb (Token.command (get_or s 0 0)) Token.start_tag ≡ true = eq-eqb _ _ (sym kind-is ∙ z) in rw e at o

    abbrev js : Items
    js = rest always s a.kept.names a.next

    pub tag-ready : ((0 < a.next) × (a.next ≤ length s)) × ReadyAt base s a.kept.names js table₁
    tag-ready = ((o.moves, o.within), row-ready base s names is table table₁ row 0 js a tag-row r)

    pub tag-still : (still : Bool) → (still ≡ true → length (adds names is) ≡ 0) → still ≡ true → length (adds a.kept.names js) ≡ 0
    tag-still still f e = row-still base s names is table table₁ row 0 js a tag-row still f e

    pub tag-eight : length row ≡ 8
    tag-eight = row-eight base s names is table table₁ row 0 js a tag-row

    pub tag-grown : (table₂ : List ℕ) → table₂ ≡ grown base a.kept.names table₁ js → table₂ ≡ grown base names table is
    tag-grown table₂ e = e ∙ row-grown base s names is table table₁ row 0 js a tag-row

    module _ (q : Query) (document element name : List ℕ) (look all one own : Bool) (el : look ≡ is_element document element row) (al : all ≡ takes_all q) (on : one ≡ takes_one q)
        (ow : own ≡ (look && all)) where
      abbrev its : List Words
      its = cond own (row ∷ []) []

      abbrev others : List Words
      others = cond look (taken all one document name (rows_of base (grown base a.kept.names table₁ js) js)) []

      abbrev Asked : List Words
      Asked = chosen q document element name (rows_of base (grown base names table is) is)

      parts : Asked ≡ its ++ others
      unfolding chosen
      parts =
          ap (chosen q document element name) (row_first base s names is table table₁ row 0 js a tag-row)
          ∙ rw (← el, ← al, ← on, ow, row-grown base s names is table table₁ row 0 js a tag-row) (by_test look (λ l. rw l) (λ l. rw l))

      its-eight : length (concat its) ≡ 8 * length its
      unfolding concat
      its-eight = by_test own (λ e. rw e (ap length (append-nil row) ∙ tag-eight)) (λ e. rw e)

      its-few : length its ≤ 1
      its-few = by_test own (λ e. rw e (omega arith)) (λ e. rw e (omega arith))

      both_long : length Asked ≡ length its + length others
      both_long = ap length parts ∙ length-append its others

      module _ (to : ℕ) (rows : List ℕ) (m : Room to (length Asked) rows) where
        pub own-fits : own ≡ true → 0 < length rows → to + 8 ≤ length rows
        own-fits e f = let l : length its ≡ 1 = rw e in omega (arith, m.fits f, both_long, l)

        module _ (rows₁ : List ℕ) (n : ℕ) (x : Chose to its rows rows₁ n) (nought : length rows ≡ 0 → to ≡ 0) where
          same-long : length rows₁ ≡ length rows
          same-long = ap length x.rows_are ∙ length-sets rows to (concat its)

          pub own-few : n ≤ 1
          own-few = omega (arith, x.counted, its-few)

          pub others-from : to + 8 * n < 18_446_744_073_709_551_616
          others-from =
              by_test (ltb 0 (length rows)) (λ e. omega (arith, m.fits (ltb-true 0 (length rows) e), m.sized, x.counted, both_long))
              (λ e. omega (arith, nought (omega (arith, ltb-false 0 (length rows) e)), own-few))

          pub others-room : Room (to + 8 * n) (length others) rows₁
          others-room = record {
            fits = λ e. omega (arith, m.fits (omega (arith, e, same-long)), x.counted, both_long, same-long);
            sized = omega (arith, m.sized, same-long);
            counts = λ e. omega (arith, nought (omega (arith, e, same-long)), own-few);
          }

          pub all-chosen : (rows₂ : List ℕ) (k : ℕ) → Chose (to + 8 * n) others rows₁ rows₂ k → Chose to Asked rows rows₂ (n + k)
          all-chosen rows₂ k y = rw parts (chose-both to its others rows rows₁ rows₂ n k its-eight x y)
