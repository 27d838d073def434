-- One event of a query, from a row's name to the turn that the definition makes.
use Rattle.std.proofs.Common.{Bool, true, false, ◌||◌, cond, true≢false, List, [], ◌∷◌, ◌++◌, append-nil, ◌≡◌, refl, sym, ap, ◌∙◌, ℕ, suc, ◌+◌, ◌*◌, ◌-◌, ◌/◌, ◌≤◌, ◌<◌, arith, lt-ltb, le-ltb, ltb-false, eq-eqb, ne_eqb, ltb, leb, eqb, length, take, drop, get_or, replicate, length-append, length-drop, take_all, length-take-le, take_at, drop_at}
use Rattle.std.proofs.lemmas.List.{length-replicate}
use Rattle.std.proofs.Math.Seq.{sets, take-nil, drop-nil, sets-eq, length-sets}
use Rattle.std.specs.Prelude.{Some, None, Ok, Err}
use Rattle.wire.specs.Token as Token
use Rattle.wire.specs.Refusal.{rows_full, pool_full, bad_size, bad_state}
use Rattle.wire.specs.declared.Refusal.{Refusal}
use Rattle.wire.specs.Answers.{number_of, detail_of}
use Rattle.wire.specs.Limits.{max_store}
use Rattle.event.specs.Span.{part, span, text, same}
use Rattle.event.specs.Row.{has_name, row_at}
use Rattle.grammar.specs.Grammar.{Span, Items, item, whole, lacks, stops, most, counted_name, after, event}
use Rattle.grammar.proofs.Added.{after-adds}
use Rattle.grammar.proofs.Attributes.{complete-ended}
use Rattle.grammar.specs.Scan.{sound, adds_item, adds, pairs, item_words, words, complete, incomplete, bad, outcome, Measure, measure}
use Rattle.grammar.specs.Scan as Scan
use Rattle.grammar.proofs.Choice.{by_test, cond-by}
use Rattle.grammar.proofs.Said.{item-length}
use Rattle.grammar.proofs.Laws.{Agree, agree-event}
use Rattle.grammar.proofs.Stores.{pairs-length}
use Rattle.grammar.specs.Trusted.{always}
use Rattle.grammar.proofs.Trusted.{trusted-event}
use Rattle.extent.specs.Measured.{measured}
use Rattle.slice_spec.specs.Slice.{Place, sizes_bad, place_bad, items_at, table_after, place_after}
use Rattle.slice_spec.specs.Queries.{Words, split, named, is_element, concat, all_named, first_named, picks, picked, Progress, past, kind_of, table_with, writes, done, refused}
use Rattle.slice_spec.specs.Bounds.{Fits}
use Rattle.slice_spec.proofs.Bounds.{fits}
use Rattle.slice_spec.proofs.Stored.{words-front}
use Rattle.slice_spec.proofs.Whole.{counted_name-most, counted_value-most}
use Rattle.slice_spec.specs.Turns.{Turn, passed, halted, passing, turn_by, turn_or_refuse}
use Rattle.scanner.specs.Fill.{ReadyAt}
use Rattle.scanner.specs.declared.select.Query.{Query}
use Rattle.scanner.specs.Select.{query_of, takes_one, most_of, rows_of, taken, chosen, grown, asked, Room, Chose, Whole, progress, seen, Sees, Tried, turned, unsure, in_doubt, uncounted_by, uncounted, turn-seen}

-- ---- a row's name

-- a span's bytes, where there is no second store
empty-part : (a b : ℕ) → part [] a b ≡ []
unfolding part
empty-part a b = cond-by (λ (x : List ℕ). x ≡ []) (leb (a + b) 0) _ _ (λ _. ap (take b) (drop-nil a) ∙ take-nil b) (λ _. refl)

alone : (document : List ℕ) (s a b : ℕ) → span document [] s a b ≡ text document s a b
unfolding span text
alone document s a b =
    by_test (eqb s 0) (λ e. rw e) (λ e. rw e (cond-by (λ (x : List ℕ). x ≡ []) (eqb s 1) _ _ (λ _. empty-part a b) (λ _. refl)))

same-empty : (b : Bool) (x : List ℕ) → b ≡ eqb (length x) 0 → b ≡ same [] x
unfolding same
same-empty b [] e = e
same-empty b (y ∷ x) e = e ∙ ne_eqb (suc (length x)) 0 (λ z. omega arith)

module _ (document name : List ℕ) where
  module _ (w : Words) (b : Bool) where
    pub named_by : has_name (get_or w 0 0) ≡ true → b ≡ same (text document (get_or w 1 0) (get_or w 2 0) (get_or w 3 0)) name → b ≡ named document name w
    unfolding named row_at
    named_by h f = f ∙ rw (h, alone document (get_or w 1 0) (get_or w 2 0) (get_or w 3 0))

    pub unnamed-by : has_name (get_or w 0 0) ≡ false → b ≡ eqb (length name) 0 → b ≡ named document name w
    unfolding named row_at
    unnamed-by h e = same-empty b name e ∙ rw h

    pub element-by : get_or w 0 0 ≡ Token.start_tag → b ≡ named document name w → b ≡ is_element document name w
    unfolding is_element
    element-by k e = e ∙ rw (eq-eqb (get_or w 0 0) Token.start_tag k)

  pub element-not : (w : Words) → (get_or w 0 0 ≡ Token.start_tag → ⊥) → false ≡ is_element document name w
  unfolding is_element
  element-not w k = rw (ne_eqb (get_or w 0 0) Token.start_tag k)

-- ---- rows that are stored

-- the row alone, where it is taken
pub chose-first : (to : ℕ) (w rows rows₁ : List ℕ) → rows₁ ≡ sets rows to w → Chose to (w ∷ []) rows rows₁ 1
unfolding concat
chose-first to w rows rows₁ e = record { counted = refl; rows_are = e ∙ rw (append-nil w) }

pub chose_none : (to : ℕ) (rows : List ℕ) → Chose to [] rows rows 0
unfolding concat
chose_none to rows = record { counted = refl; rows_are = refl }

-- ---- what the definition picks, and what the code takes

module _ (document name : List ℕ) where
  taken-all : (ws : List Words) → taken true false document name ws ≡ ws
  unfolding taken
  taken-all [] = refl
  taken-all (w ∷ ws) = ap (λ (x : List Words). w ∷ x) (taken-all ws)

  taken-first : (ws : List Words) → taken false true document name ws ≡ first_named document name ws
  unfolding taken first_named
  taken-first [] = refl
  taken-first (w ∷ ws) = ap (λ (x : List Words). cond (named document name w) (w ∷ []) x) (taken-first ws)

  taken-named : (ws : List Words) → taken false false document name ws ≡ all_named document name ws
  unfolding taken all_named
  taken-named [] = refl
  taken-named (w ∷ ws) = ap (λ (x : List Words). cond (named document name w) (w ∷ x) x) (taken-named ws)

  chosen-picked : (q : Query) (element : List ℕ) (ws : List Words) → chosen q document element name ws ≡ picked (query_of q element name) document ws
  unfolding chosen picked picks
  chosen-picked q element [] = refl
  chosen-picked Query.FindAttribute element (w ∷ ws) = rw (taken-first ws)
  chosen-picked Query.AttributesOf element (w ∷ ws) = rw (taken-all ws)
  chosen-picked Query.FindAllAttributes element (w ∷ ws) = rw (taken-named ws)
  chosen-picked Query.AllAttributesOf element (w ∷ ws) = rw (taken-all ws)

  few-step : (b one : Bool) (w : Words) (ws us : List Words) → length us ≤ length ws → length (cond b (w ∷ cond one [] us) us) ≤ suc (length ws)
  few-step true true w ws us h = omega arith
  few-step true false w ws us h = omega arith
  few-step false one w ws us h = omega arith

  taken-few : (all one : Bool) (ws : List Words) → length (taken all one document name ws) ≤ length ws
  unfolding taken
  taken-few all one [] = omega arith
  taken-few all one (w ∷ ws) = few-step (all || named document name w) one w ws (taken all one document name ws) (taken-few all one ws)

  taken-one : (all : Bool) (ws : List Words) → length (taken all true document name ws) ≤ 1
  unfolding taken
  taken-one all [] = omega arith
  taken-one all (w ∷ ws) = cond-by (λ (x : List Words). length x ≤ 1) (all || named document name w) _ _ (λ _. omega arith) (λ _. taken-one all ws)

  chosen-few : (q : Query) (element : List ℕ) (ws : List Words) → length (chosen q document element name ws) ≤ cond (takes_one q) 1 (length ws)
  unfolding chosen
  chosen-few Query.FindAttribute element [] = omega arith
  chosen-few Query.AttributesOf element [] = omega arith
  chosen-few Query.FindAllAttributes element [] = omega arith
  chosen-few Query.AllAttributesOf element [] = omega arith
  chosen-few Query.FindAttribute element (w ∷ ws) = cond-by (λ (x : List Words). length x ≤ 1) (is_element document element w) _ _ (λ _. taken-one false ws) (λ _. omega arith)
  chosen-few Query.AttributesOf element (w ∷ ws) =
      cond-by (λ (x : List Words). length x ≤ suc (length ws)) (is_element document element w) _ _ (λ _. let h = taken-few true false ws in omega arith) (λ _. omega arith)
  chosen-few Query.FindAllAttributes element (w ∷ ws) =
      cond-by (λ (x : List Words). length x ≤ suc (length ws)) (is_element document element w) _ _ (λ _. let h = taken-few false false ws in omega arith) (λ _. omega arith)
  chosen-few Query.AllAttributesOf element (w ∷ ws) =
      cond-by (λ (x : List Words). length x ≤ suc (length ws)) (is_element document element w) _ _ (λ _. let h = taken-few true false ws in omega arith) (λ _. omega arith)

-- where no name is added, none is stored
pub none-stored : (table : List ℕ) (k base : ℕ) (ts : List Span) → 0 ≡ length ts → table ≡ sets table k (pairs base ts)
unfolding pairs
none-stored table k base [] h = refl
none-stored table k base (t ∷ ts) h = absurd (omega arith)

-- rows that are only counted have room where none are lent
pub counting : (n : ℕ) → Room 0 n []
counting n = record { fits = λ t. absurd (omega (arith, t)); sized = omega arith; counts = λ _. omega arith }

-- words that are so many zeros; the number is a variable, since the list is long
pub zeros-long : (n : ℕ) → n ≤ length {A = ℕ} (replicate n 0)
zeros-long n = omega (arith, length-replicate {A = ℕ} n 0)

-- ---- rows by their words

module _ (base : ℕ) (table : List ℕ) where
  rows_split : (is : Items) → split (Scan.count is) (words 0 base table is) ≡ rows_of base table is
  unfolding split words Scan.count rows_of
  rows_split (item i is) =
      let w : List ℕ = item_words 0 base table i in
      let l : length w ≡ 8 = item-length 0 base table i in
      rw (take_at w (words 0 base table is) 8 l, drop_at w (words 0 base table is) 8 l, rows_split is)
  rows_split (whole n e) = refl
  rows_split (lacks k) = refl
  rows_split (stops n d) = refl

  rows-count : (is : Items) → length (rows_of base table is) ≡ Scan.count is
  unfolding rows_of Scan.count
  rows-count (item i is) = ap suc (rows-count is)
  rows-count (whole n e) = refl
  rows-count (lacks k) = refl
  rows-count (stops n d) = refl

-- what a query writes of an event is what the code takes
asked-writes : (q : Query) (element name document : List ℕ) (g : Progress) (is : Items)
    → asked q element name document g.place g.table is ≡ writes (query_of q element name) document g is
unfolding asked writes
asked-writes q element name document g is =
    chosen-picked document name q element _
    ∙ ap (picked (query_of q element name) document) (sym (rows_split g.place.at (table_with g.place g.table (adds g.place.names is)) is))

-- ---- no more names than can be named join the pool

adds-most : (k : ℕ) (is : Items) → k ≤ most → k + length (adds k is) ≤ most
unfolding adds after
adds-most k (item i is) h =
    let n = after-adds k i in
    let m = adds-most (after k i) is (counted_value-most (counted_name k i.name) i.value (counted_name-most k i.name h)) in
    omega (arith, length-append (adds_item k i) (adds (after k i) is))
adds-most k (whole n e) h = omega arith
adds-most k (lacks n) h = omega arith
adds-most k (stops n d) h = omega arith

-- ---- an event that was read whole

-- the bytes from a place on, as the code lends them
pub lent : (document : List ℕ) (at : ℕ) → at ≤ length document → take (length document - at) (drop at document) ≡ drop at document
lent document at h = take_all (length document - at) (drop at document) (omega (arith, length-drop at document))

module _ (document : List ℕ) (p : Place) (table : List ℕ) (count added : ℕ) (w : Whole document p table (items_at p document table) count added) where
  abbrev is : Items
  is = items_at p document table

  abbrev ts : List Span
  ts = adds p.names is

  abbrev bytes : List ℕ
  bytes = drop p.at document

  abbrev front : List ℕ
  front = take (2 * p.names) table

  abbrev fresh : List ℕ
  fresh = pairs p.at ts

  abbrev with_names : List ℕ
  with_names = table_with p table ts

  front_length : length front ≡ 2 * p.names
  front_length = length-take-le (2 * p.names) table w.names-fit

  fresh-length : length fresh ≡ 2 * length ts
  fresh-length = pairs-length p.at ts

  agreed : Agree bytes [] p.names 1 is (event (sound p.names table (length document)) p.names (bytes ++ []))
  unfolding items_at
  agreed = agree-event bytes [] (sound p.names table (length document)) p.names

  -- the rows by a table that begins with the pool's pairs and the event's
  same_rows : (T rest : List ℕ) → T ≡ (front ++ fresh) ++ rest → rows_of p.at T is ≡ rows_of p.at with_names is
  unfolding table_with
  same_rows T rest e =
      ap (λ (x : List ℕ). rows_of p.at x is) e
      ∙ sym (rows_split p.at ((front ++ fresh) ++ rest) is)
      ∙ ap (split (Scan.count is)) (words-front 0 p.at (front ++ fresh) rest bytes [] 1 p.names is _ agreed (omega (arith, length-append front fresh, front_length, fresh-length)))
      ∙ rows_split p.at (front ++ fresh) is

  -- its bytes read again, with every entry taken for sound
  module _ (s : List ℕ) (z : s ≡ bytes) where
    abbrev read : Items
    read = event always p.names s

    again : read ≡ is
    unfolding items_at
    again = ap (event always p.names) z ∙ sym (trusted-event (sound p.names table (length document)) bytes p.names w.ended)

    pub again-added : added ≡ length (adds p.names read)
    again-added = w.as_many ∙ ap (λ (x : Items). length (adds p.names x)) (sym again)

    -- by a table that begins with the pool's pairs and has room for the event's
    module _ (T : List ℕ) (begins : take (2 * p.names) T ≡ front) (room : 2 * (p.names + added) ≤ length T) where
      pub again-ready : ReadyAt p.at s p.names read T
      again-ready =
          rw again
          (record {
            ended = w.ended;
            in-store = omega (arith, ap length z, length-drop p.at document, w.at-fits, w.document-small);
            room = record { pairs-fit = omega (arith, w.as_many); bytes_fit = λ t. absurd (true≢false (sym t)) };
          })

      again-rows : rows_of p.at (grown p.at p.names T read) read ≡ rows_of p.at with_names is
      again-rows =
          let rest : List ℕ = drop (2 * p.names + length fresh) T in
          let e : sets T (2 * p.names) fresh ≡ (front ++ fresh) ++ rest =
          sets-eq fresh T (2 * p.names) (omega (arith, fresh-length, w.as_many)) ∙ ap (λ (x : List ℕ). (x ++ fresh) ++ rest) begins in
          ap (λ (x : Items). rows_of p.at (grown p.at p.names T x) x) again ∙ same_rows (sets T (2 * p.names) fresh) rest e

      pub again-asked : (q : Query) (element name : List ℕ) → chosen q document element name (rows_of p.at (grown p.at p.names T read) read) ≡ asked q element name document p table is
      unfolding asked
      again-asked q element name = ap (chosen q document element name) again-rows

  -- where no name is added, the pool's own table serves
  pub none-room : added ≡ 0 → 2 * (p.names + added) ≤ length table
  none-room e = omega (arith, w.names-fit)

  -- a copy of the pool's pairs
  module _ (own own₁ : List ℕ) (long : 131_072 ≤ length own) (copy : own₁ ≡ sets own 0 front) where
    pub copy-begins : take (2 * p.names) own₁ ≡ front
    copy-begins =
        ap (take (2 * p.names)) (copy ∙ sets-eq front own 0 (omega (arith, front_length, w.names-fit, w.table-small)))
        ∙ take_at front (drop (0 + length front) own) (2 * p.names) front_length

    pub copy-room : 2 * (p.names + added) ≤ length own₁
    unfolding most
    copy-room =
        let l : length own₁ ≡ length own = ap length copy ∙ length-sets own 0 front in
        omega (arith, w.as_many, adds-most p.names is (omega (arith, w.names-fit, w.table-small)))

  -- ---- what is asked of it

  module _ (q : Query) (element name : List ℕ) where
    abbrev ws : List Words
    ws = asked q element name document p table is

    asked-few : length ws ≤ most_of q count
    unfolding asked
    asked-few =
        let e : length (rows_of p.at with_names is) ≡ count = rows-count p.at with_names is ∙ sym w.rows_are in
        rw (← e) (chosen-few document name q element (rows_of p.at with_names is))

    -- enough for all that could be taken
    pub surely : (room written : ℕ) → ltb room (written + most_of q count) ≡ false → written + length ws ≤ room
    surely room written h = omega (arith, ltb-false room (written + most_of q count) h, asked-few)

    module _ (rows : List ℕ) (events written len : ℕ) where
      abbrev g : Progress
      g = progress p.at p.names table rows events written

      abbrev There : Turn
      There = passing g (kind_of is) len ts ws

      -- 10
      pub few-rows : ltb (length rows / 8) (written + length ws) ≡ true → halted (refused rows_full 0) g ≡ There
      unfolding passing
      few-rows h = rw h

      module _ (fit : written + length ws ≤ length rows / 8) where
        abbrev free : ℕ
        free = length table / 2 - p.names

        -- 11
        pub short-table : free < added → halted (refused pool_full 0) g ≡ There
        unfolding passing
        short-table h =
            rw (le-ltb (length rows / 8) (written + length ws) fit, lt-ltb (length table) (2 * (p.names + length ts)) (omega (arith, w.as_many, w.names-fit)))

        pub pairs-room : added ≤ free → 2 * (p.names + added) ≤ length table
        pairs-room h = omega (arith, w.names-fit)

        -- the bytes read again, by the pool's table
        module _ (s : List ℕ) (z : s ≡ bytes) (enough : added ≤ free) where
          abbrev took : List Words
          took = chosen q document element name (rows_of p.at (grown p.at p.names table (read s z)) (read s z))

          took-is : took ≡ ws
          took-is = again-asked s z table refl (pairs-room enough) q element name

          pub rows-room : length rows < 18_446_744_073_709_551_616 → Room (8 * written) (length took) rows
          rows-room small = record { fits = λ _. omega (arith, ap length took-is); sized = small; counts = λ t. omega (arith, t, fit) }

          pub rows-none : length rows ≡ 0 → 8 * written ≡ 0
          rows-none t = omega (arith, t, fit)

          pub handed : (table' rows' : List ℕ) (kind n : ℕ) → table' ≡ grown p.at p.names table (read s z) → kind ≡ kind_of (read s z) → Chose (8 * written) took rows rows' n
              → passed kind n (record { place = record { at = p.at + len; names = p.names + added }; table = table'; rows = rows'; events = events + 1; written = written + n }) ≡ There
          unfolding passing past place_after table_after
          handed table' rows' kind n t k x =
              rw (
                le-ltb (length rows / 8) (written + length ws) fit,
                le-ltb (length table) (2 * (p.names + length ts)) (omega (arith, w.as_many, w.names-fit)),
                k,
                t,
                x.rows_are,
                x.counted,
                took-is,
                again s z,
                w.as_many,
              )

-- ---- the event at a place

module _ (document : List ℕ) (p : Place) (table : List ℕ) where
  abbrev at_place : Items
  at_place = items_at p document table

  -- what the code's answer says
  pub sees-refused : (r : Refusal) → bad (number_of r) (detail_of r) ≡ seen document p table → Sees document p table (Err r)
  sees-refused r h = record { outcome-is = h; read_whole = λ x e. absurd (let z : ◌≡◌ {A = ℕ} 0 1 = cc e in omega arith) }

  pub sees-end : incomplete ≡ seen document p table → Sees document p table (Ok None)
  sees-end h = record { outcome-is = h; read_whole = λ x e. absurd (let z : ◌≡◌ {A = ℕ} 0 1 = cc e in omega arith) }

  -- ---- what is checked first

  pub seen-sizes : sizes_bad document table ≡ true → bad bad_size 0 ≡ seen document p table
  unfolding seen
  seen-sizes a = rw a

  module _ (a : sizes_bad document table ≡ false) where
    pub seen-place : place_bad p document table ≡ true → bad bad_state 0 ≡ seen document p table
    unfolding seen
    seen-place b = rw (a, b)

    module _ (b : place_bad p document table ≡ false) where
      pub seen_end : p.at ≡ length document → incomplete ≡ seen document p table
      unfolding seen
      seen_end e = rw (a, b, eq-eqb p.at (length document) e)

      -- ---- the event itself, as the code lends it

      abbrev r : Fits p document table
      r = fits p document table a b

      module _ (ne : p.at ≡ length document → ⊥) (s : List ℕ) (z : s ≡ drop p.at document) (m : Measure) (e : m ≡ measured true p.names (length document) table s) where
        measured-is : m ≡ measure true p.names at_place
        unfolding measured items_at
        measured-is =
            e ∙ rw (z, le-ltb max_store (length (drop p.at document)) (omega (arith, length-drop p.at document, r.document-small)), le-ltb (length table) (2 * p.names) r.names-fit)

        result-is : m.result ≡ outcome true at_place
        unfolding measure
        result-is = ap (λ (x : Measure). x.result) measured-is

        pub seen-goes : m.result ≡ seen document p table
        unfolding seen
        seen-goes = result-is ∙ rw (a, b, ne_eqb p.at (length document) ne)

        whole-at : (n : ℕ) → m.result ≡ complete n → Whole document p table at_place m.rows m.added
        unfolding measure
        whole-at n k = record {
          ended = complete-ended true n at_place (sym result-is ∙ k);
          rows_are = ap (λ (x : Measure). x.rows) measured-is;
          as_many = ap (λ (x : Measure). x.added) measured-is;
          at-fits = r.at-fits;
          names-fit = r.names-fit;
          document-small = r.document-small;
          table-small = r.table-small;
        }

        pub sees-whole : (n : ℕ) → m.result ≡ complete n → Sees document p table (Ok (Some (record { rows = m.rows; added = m.added; len = n })))
        sees-whole n k = record {
          outcome-is = sym k ∙ seen-goes;
          read_whole = λ x h. let y : record { rows = m.rows; added = m.added; len = n } ≡ x = cc h in rw (← y) (whole-at n k);
        }

-- ---- what was seen, picked

module _ (q : Query) (element name document : List ℕ) (p : Place) (table rows : List ℕ) (events written : ℕ) where
  abbrev so_far : Progress
  so_far = progress p.at p.names table rows events written

  abbrev here : Items
  here = items_at p document table

  abbrev passing-by : ℕ → Turn
  passing-by n = passing so_far (kind_of here) n (adds p.names here) (asked q element name document p table here)

  -- an event that is complete
  passing-is : (n : ℕ) → passing-by n ≡ turn_by (query_of q element name) document so_far here (complete n)
  unfolding turn_by
  passing-is n = ap (passing so_far (kind_of here) n (adds p.names here)) (asked-writes q element name document so_far here)

  pub picked-whole : (n : ℕ) → complete n ≡ seen document p table → (x : Turn) → x ≡ passing-by n → x ≡ turn_or_refuse (query_of q element name) document so_far
  picked-whole n o x h =
      h ∙ passing-is n ∙ ap (turn_by (query_of q element name) document so_far here) o ∙ turn-seen document so_far (query_of q element name)

  pub picked-end : incomplete ≡ seen document p table → halted done so_far ≡ turn_or_refuse (query_of q element name) document so_far
  unfolding turn_by
  picked-end o = ap (turn_by (query_of q element name) document so_far here) o ∙ turn-seen document so_far (query_of q element name)

  pub picked-refused : (n d : ℕ) → bad n d ≡ seen document p table → halted (refused n d) so_far ≡ turn_or_refuse (query_of q element name) document so_far
  unfolding turn_by
  picked-refused n d o = ap (turn_by (query_of q element name) document so_far here) o ∙ turn-seen document so_far (query_of q element name)

  -- the same without counting

  pub uncounted-whole : (n count : ℕ) → complete n ≡ seen document p table → count ≡ Scan.count here
      → (x : Tried) → x ≡ cond (in_doubt (length rows / 8) written (most_of q count)) (unsure so_far) (turned (passing-by n)) → x ≡ uncounted q element name document so_far
  unfolding uncounted uncounted_by
  uncounted-whole n count o k x h = h ∙ rw (← o, k, passing-is n)

  pub uncounted-end : incomplete ≡ seen document p table → turned (halted done so_far) ≡ uncounted q element name document so_far
  unfolding uncounted uncounted_by turn_by
  uncounted-end o = rw (← o)

  pub uncounted-refused : (n d : ℕ) → bad n d ≡ seen document p table → turned (halted (refused n d) so_far) ≡ uncounted q element name document so_far
  unfolding uncounted uncounted_by turn_by
  uncounted-refused n d o = rw (← o)
