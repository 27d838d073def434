-- A query agrees with the grammar: what it consumes, writes and answers, event by event of what is left to read.
use Rattle.std.specs.Prelude.{false, ◌≡◌, refl, ℕ, zero, suc, ◌+◌, ◌*◌, ◌/◌, ◌≤◌, ◌<◌, drop}
use mathlib.Core.List.{List, [], ◌∷◌, ◌++◌, map, append-nil}
use Rattle.std.proofs.Common.{sym, ◌∙◌}
use Rattle.std.proofs.Math.Path.{ap}
use native.Mathlib.Omega.{arith}
use borrow.Author.Tests.{lt-ltb, le-ltb, eq-eqb, ne_eqb}
use Rattle.std.proofs.Math.ListN.{length}
use Rattle.std.proofs.lemmas.List.{length-map}
use Rattle.std.proofs.lemmas.List.Edits.{sets}
use Rattle.std.proofs.Math.Seq.{length-sets}
use Rattle.wire.specs.Refusal.{rows_full, pool_full}
use Rattle.event.specs.Row.{Event, row_at, rows_at}
use Rattle.grammar.specs.Grammar.{Span, Items, item, whole, lacks, stops}
use Rattle.grammar.specs.Document.{Pool, row_of, rows_of, one, read_one, Reading, reads, ended, stopped, read}
use Rattle.grammar.specs.Scan.{adds, count, words}
use Rattle.grammar.proofs.Steps.{read_s}
use Rattle.grammar.proofs.Said.{words-length}
use Rattle.slice_spec.specs.Slice.{Place, created, create, sizes_bad, place_bad, items_at, table_after, place_after}
use Rattle.slice_spec.specs.Queries.{Query, table_with, find-attribute, attributes-of, find-all-attributes, all-attributes-of, Words, single, done, refused, Step, on, stop, after, Progress, Left, ends, split, concat, past, by_step, consume, kind_of, writes, by_outcome, query_f, query}
use Rattle.slice_spec.proofs.Held.{Held, held_none}
use Rattle.slice_spec.proofs.Kept.{drop-sets}
use Rattle.slice_spec.proofs.Standing.{Stands, There, nothing, refusal, event-of, there}
use Rattle.slice_spec.proofs.Agreement.{Fresh, created-fresh, header-there, read_past}
use Rattle.slice_spec.proofs.Asked.{chosen, Eight, picked-say, picked-eight, split-eight, split-says, concat-length, rows_written}

-- ---- what is claimed

-- the kind of an event: its own row's
abbrev pub kind_of_event : Event → ℕ
kind_of_event [] = 0
kind_of_event (r ∷ rs) = r.kind

-- past the event e of n bytes, after which the pool has these names: the chosen rows of it come after those written before
pub record Past (q : Query) (document : List ℕ) (g : Progress) (e : Event) (n : ℕ) (later : Pool) (g' : Progress) : Type 0 where
  pub moves : g'.place.at ≡ g.place.at + n
  pub names : g'.place.names ≡ length later
  pub counts : g'.events ≡ g.events + 1
  pub writes : g'.written ≡ g.written + length (chosen q e)
  pub says : rows_at document [] g'.written g'.rows ≡ rows_at document [] g.written g.rows ++ chosen q e
  pub rows-after : drop (8 * g'.written) g'.rows ≡ drop (8 * g'.written) g.rows
  pub same_rows : length g'.rows ≡ length g.rows
  pub same-table : length g'.table ≡ length g.table

-- after such an event it goes on, or stops there
abbrev pub Goes : Step → Progress → Left → Type 0 → Type 0
Goes on g x more = more
Goes (stop e) g x more = x ≡ ends g e

-- what a query leaves that has come so far, where the pool has these names and this is left to read: 10 where the chosen rows of
-- the event have no room, else 11 where the table has none for its names, else it goes on
abbrev pub Answers : Query → List ℕ → Pool → Reading → Progress → Left → Type 0
Answers q document pool (reads e n r) g x =
    (later : Pool) × (read_one pool (drop g.place.at document) ≡ one e n later)
    × (length g.rows / 8 < g.written + length (chosen q e) → x ≡ ends g (refused rows_full 0))
    × (g.written + length (chosen q e) ≤ length g.rows / 8 → length g.table < 2 * length later → x ≡ ends g (refused pool_full 0))
    × (g.written + length (chosen q e) ≤ length g.rows / 8 → 2 * length later ≤ length g.table
    → (g' : Progress) × Past q document g e n later g' × Goes (after q (kind_of_event e) (chosen q e)) g' x (Answers q document later r g' x))
Answers q document pool (ended last) g x = (g.place.at ≡ length document) × (x ≡ ends g done)
Answers q document pool (stopped n d) g x = x ≡ ends g (refused n d)

-- ---- an event that a query consumes

single-map : {A B : Type 0} (f : A → B) (k : ℕ) (ws : List A) → single k (map f ws) ≡ single k ws
unfolding single
single-map f k [] = refl
single-map f k (w ∷ ws) = refl

after_map : {A B : Type 0} (f : A → B) (q : Query) (k : ℕ) (ws : List A) → after q k (map f ws) ≡ after q k ws
unfolding after
after_map f (find-attribute element name) k ws = single-map f k ws
after_map f (attributes-of element) k ws = single-map f k ws
after_map f (find-all-attributes element name) k ws = refl
after_map f (all-attributes-of element) k ws = refl

pub kind-says : (s : List ℕ) (pool : Pool) (is : Items) → kind_of is ≡ kind_of_event (rows_of s pool is)
unfolding kind_of rows_of row_of
kind-says s pool (item i is) = refl
kind-says s pool (whole n e) = refl
kind-says s pool (lacks k) = refl
kind-says s pool (stops n d) = refl

goes_by : (s : Step) (g : Progress) (more : Progress → Left) (P : Left → Type 0) → P (more g) → Goes s g (by_step s g more) (P (by_step s g more))
unfolding by_step
goes_by on g more P a = a
goes_by (stop e) g more P a = refl

module _ (q : Query) (document : List ℕ) (pool : Pool) (g : Progress) (n : ℕ) (w : Stands document pool g.place g.table n) where
  abbrev is : Items
  is = items_at g.place document g.table

  abbrev ts : List Span
  ts = adds g.place.names is

  abbrev words_of : List ℕ
  words_of = words 0 g.place.at (table_with g.place g.table ts) is

  abbrev ws : List Words
  ws = writes q document g is

  ws-eight : Eight ws
  unfolding writes
  ws-eight = picked-eight document q _ (split-eight (count is) words_of (words-length 0 g.place.at (table_with g.place g.table ts) is))

  ws-say : map (row_at document []) ws ≡ chosen q w.rows
  unfolding writes
  ws-say =
      picked-say document q (split (count is) words_of)
      ∙ ap (chosen q) (split-says document (count is) words_of ∙ rw w.as_many (ap (rows_at document [] (length w.rows)) (sym (append-nil words_of)) ∙ w.told []))

  ws-length : length ws ≡ length (chosen q w.rows)
  ws-length = sym (length-map ws (row_at document [])) ∙ ap length ws-say

  ws-after : after q (kind_of is) ws ≡ after q (kind_of_event w.rows) (chosen q w.rows)
  ws-after =
      sym (after_map (row_at document []) q (kind_of is) ws)
      ∙ rw (ws-say, kind-says (drop g.place.at document) pool is, w.rows-of)

  past-event : g.written + length (chosen q w.rows) ≤ length g.rows / 8 → Past q document g w.rows n w.later (past g n ts ws)
  unfolding past place_after table_after
  past-event enough =
      let l : length ws ≡ length (chosen q w.rows) = ws-length in
      let lc : length (concat ws) ≡ 8 * length ws = concat-length ws ws-eight in
      let e : 8 * g.written + length (concat ws) ≡ 8 * (g.written + length ws) = omega arith in
      let said : rows_at document [] (g.written + length ws) (sets g.rows (8 * g.written) (concat ws)) ≡ rows_at document [] g.written g.rows ++ chosen q w.rows =
      rows_written document g.written g.rows ws ws-eight (omega arith) ∙ rw ws-say in
      record {
        moves = refl;
        names = w.joined;
        counts = refl;
        writes = ap (λ (k : ℕ). g.written + k) l;
        says = said;
        rows-after = rw e at (drop-sets g.rows (concat ws) (8 * g.written) (omega arith));
        same_rows = simp length-sets;
        same-table = simp length-sets;
      }

  module _ (more : Progress → Left) where
    abbrev eaten : Left
    eaten = consume q g (kind_of is) n ts ws more

    eaten-few : length g.rows / 8 < g.written + length (chosen q w.rows) → eaten ≡ ends g (refused rows_full 0)
    unfolding consume
    eaten-few few = rw (lt-ltb (length g.rows / 8) (g.written + length ws) (omega (arith, ws-length)))

    eaten-short : g.written + length (chosen q w.rows) ≤ length g.rows / 8 → length g.table < 2 * length w.later → eaten ≡ ends g (refused pool_full 0)
    unfolding consume
    eaten-short enough short =
        rw (
          le-ltb (length g.rows / 8) (g.written + length ws) (omega (arith, ws-length)),
          lt-ltb (length g.table) (2 * (g.place.names + length ts)) (omega (arith, w.joined)),
        )

    eaten-goes : g.written + length (chosen q w.rows) ≤ length g.rows / 8 → 2 * length w.later ≤ length g.table
        → eaten ≡ by_step (after q (kind_of_event w.rows) (chosen q w.rows)) (past g n ts ws) more
    unfolding consume
    eaten-goes enough room =
        rw (
          le-ltb (length g.rows / 8) (g.written + length ws) (omega (arith, ws-length)),
          le-ltb (length g.table) (2 * (g.place.names + length ts)) (omega (arith, w.joined)),
          ws-after,
        )

    eaten-answers : (2 * length w.later ≤ length g.table
        → Answers q document w.later (read_s w.later (drop (g.place.at + n) document)) (past g n ts ws) (more (past g n ts ws)))
        → Answers q document pool (read_s pool (drop g.place.at document)) g eaten
    eaten-answers onward = rw w.reading (
      w.later,
      w.alone,
      eaten-few,
      eaten-short,
      λ enough room. (
        past g n ts ws,
        past-event enough,
        rw (eaten-goes enough room)
            (goes_by (after q (kind_of_event w.rows) (chosen q w.rows)) (past g n ts ws) more
            (λ x. Answers q document w.later (read_s w.later (drop (g.place.at + n) document)) (past g n ts ws) x) (onward room)),
      ),
    )

-- ---- event after event

-- as many turns as there are bytes left are enough
answers-from : (f : ℕ) (q : Query) (document : List ℕ) (pool : Pool) (g : Progress) → Held document pool g.place.names g.table
    → g.place.at ≤ length document → length document ≤ g.place.at + f → Answers q document pool (read_s pool (drop g.place.at document)) g (query_f f q document g)
unfolding query_f by_outcome past place_after
answers-from zero q document pool g h placed enough = go (there document pool g.place g.table h placed)
  where
    go : There document pool g.place g.table → Answers q document pool (read_s pool (drop g.place.at document)) g (ends g done)
    go (nothing e r) = rw r (e, refl)
    go (refusal n d ne o r) = absurd (ne (omega arith))
    go (event-of n o w) = absurd (omega (arith, w.some_bytes, w.within))
answers-from (suc f) q document pool g h placed enough =
    go (there document pool g.place g.table h placed)
    (λ n w room. answers-from f q document w.later (past g n (ts q document pool g n w) (ws q document pool g n w)) (w.held room) w.within (omega (arith, w.some_bytes)))
  where
    go : There document pool g.place g.table
        → ((n : ℕ) (w : Stands document pool g.place g.table n) → 2 * length w.later ≤ length g.table
        → Answers q document w.later (read_s w.later (drop (g.place.at + n) document)) (past g n (ts q document pool g n w) (ws q document pool g n w))
        (query_f f q document (past g n (ts q document pool g n w) (ws q document pool g n w))))
        → Answers q document pool (read_s pool (drop g.place.at document)) g (query_f (suc f) q document g)
    go (nothing e r) onward = rw (r, eq-eqb g.place.at (length document) e) (e, refl)
    go (refusal n d ne o r) onward = rw (r, ne_eqb g.place.at (length document) ne, o) refl
    go (event-of n o w) onward =
        rw (ne_eqb g.place.at (length document) (λ z. omega (arith, w.some_bytes, w.within)), o)
        (eaten-answers q document pool g n w (λ g'. query_f f q document g') (onward n w))

-- ---- a query

-- where it starts
abbrev pub begun : Place → List ℕ → List ℕ → Progress
begun p table rows = record { place = p; table = table; rows = rows; events = 0; written = 0 }

-- from every place whose table holds a pool
pub held-answers : (q : Query) (document : List ℕ) (pool : Pool) (p : Place) (table rows : List ℕ) → sizes_bad document table ≡ false → Held document pool p.names table
    → p.at ≤ length document → Answers q document pool (read_s pool (drop p.at document)) (begun p table rows) (query q p document table rows)
unfolding query place_bad
held-answers q document pool p table rows good h placed =
    rw (good, le-ltb (length document) p.at placed, le-ltb (length table) (2 * p.names) h.table_fits)
    (answers-from (length document) q document pool (begun p table rows) h placed (omega arith))

-- of a created reader
pub created-answers : (q : Query) (document table : List ℕ) (p : Place) (rows : List ℕ) → create document table ≡ created p
    → Answers q document [] (read document) (begun p table rows) (query q p document table rows)
created-answers q document table p rows c =
    let f : Fresh document table p = created-fresh document table p c in
    rw (f.is-fresh, read_past document f.is-past)
    (held-answers q document [] (record { at = 4; names = 0 }) table rows f.sizes-good (held_none document table) (header-there document f.is-past))
