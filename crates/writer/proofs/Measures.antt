-- What a name and a row take, by what is known of the name.
use mathlib.Core.Bool.{Bool, true, false, cond, false≢true}
use mathlib.Core.Option.{Option, none, some}
use mathlib.Core.List.{List, [], ◌∷◌, ◌++◌}
use mathlib.Core.Path.{◌≡◌, refl, sym, ap, ◌∙◌}
use Prim.Native.Nat.{ℕ, ◌+◌, ◌-◌, ◌/◌, ◌≤◌, ◌<◌}
use native.Mathlib.Omega.{arith}
use lib.ListN.{length, get_or, set, take, length-append}
use lib.Seq.{sets, length-sets, length-take-le}
use Rattle.wire.specs.Header.{be16, be32}
use Rattle.wire.specs.Limits.{max_store}
use Rattle.wire.specs.Token.{interned_new}
use Rattle.event.specs.Span.{span}
use Rattle.event.specs.Row.{Row, shape, has_name, value_at, row_at}
use Rattle.event.specs.declared.Shape.{Shape}
use Rattle.grammar.specs.Grammar.{most}
use Rattle.grammar.specs.Document.{Pool}
use Rattle.grammar.proofs.Choice.{cond-by}
use Rattle.writer_spec.specs.Encode.{find, name_by, name_bytes, value_bytes, row_bytes, keep_row}
use Rattle.writer_spec.specs.Faults.{string_fault, value_fault}
use Rattle.writer_spec.specs.Writer.{Refusal, ◌before◌, refuse_if, row_refusal}
use Rattle.byte_copy.specs.Sets.{take-sets}
use Rattle.writer.specs.Answers.{takes, stops, measured, size_of, placed, barred, placed_by, name_found_of}
use Rattle.slots.specs.Slots.{slot_of}
use Rattle.writer.specs.Notes.{note_name, note_index, count, Unnoted, LookSays}
use Rattle.std.specs.Prelude.{Result, Ok, Err, Some, None}
use Rattle.std.specs.Prelude as Code
use Rattle.wire.specs.declared.Refusal as Wire
use Rattle.wire.specs.Answers.{number_of, detail_of}
use Rattle.writer.specs.declared.Stop.{Stop}
use Rattle.writer.specs.declared.Stop.TheVariants.{Refused, Crowded}
use Rattle.writer.specs.declared.measure.Tally.{Tally}
use Rattle.writer.specs.declared.measure.NameSize.{NameSize}
use Rattle.writer.specs.Passes.{name_refusal, capped, most-notes, bad, found, Known, Kept, NameTakes, NameSays, NameMeasured, RowNamed, RowNameSays, RowNameMeasured, RowTakes, RowMeasured}
use Rattle.writer.proofs.Pools.{keep-there, keep-new, keep-full, find-below}
use Rattle.writer.proofs.Links.{count-more, name_new}
use Rattle.writer.proofs.Noting.{few, still, noted-kept, noted-new}
use Rattle.event.specs.Laws.{span-short}
use Rattle.writer.proofs.Values.{sized-length}

-- a name that passes is faultless, and its search meets no bad pair
passes-by : (f : Refusal) (b : Bool) → (f before refuse_if b 19) ≡ none → (f ≡ none) × (b ≡ false)
passes-by none true e = absurd (let z : ◌≡◌ {A = ℕ} 0 1 = cc e in omega arith)
passes-by none false e = (refl, refl)
passes-by (some x) b e = absurd (let z : ◌≡◌ {A = ℕ} 0 1 = cc e in omega arith)

-- what a search not refused says
placed-is : (f : Refusal) (o p : Option ℕ) → placed o ≡ placed_by f p → (f ≡ none) × (p ≡ o)
placed-is none o p e = (refl, (let z : o ≡ p = cc e in sym z))
placed-is (some (a, b)) o p e = absurd (let z : ◌≡◌ {A = ℕ} 0 1 = cc e in omega arith)

barred-is : (f : Refusal) (a b : ℕ) (p : Option ℕ) → barred a b ≡ placed_by f p → f ≡ some (a, b)
barred-is none a b p e = absurd (let z : ◌≡◌ {A = ℕ} 0 1 = cc e in omega arith)
barred-is (some (c, d)) a b p e = (let x : c ≡ a = cc e in let y : d ≡ b = cc e in λ i. some (x i, y i))

-- ---- the size of a name

module _ (pool : Pool) (n : List ℕ) where
  size-there : (i : ℕ) → find pool n ≡ some i → 2 ≡ length (name_bytes pool n)
  unfolding name_bytes name_by be16
  size-there i e = rw e

  size-new : find pool n ≡ none → 4 + length n ≡ length (name_bytes pool n)
  unfolding name_bytes name_by be16
  size-new e = rw e (omega (arith, sized-length n))

module _ (first second output table : List ℕ) (kept : ℕ) where
  abbrev none-bad : List ℕ → Bool
  none-bad = bad first second output table kept

  abbrev Takes : Pool → List ℕ → ℕ → ℕ → List ℕ → List ℕ → List ℕ → Type 0
  Takes = NameTakes first second output table kept

  module _ (pool : Pool) (n notes heads : List ℕ) (t : Known first second output table kept pool notes heads) where
    -- a name with a note
    pub takes-noted : (k : ℕ) → k < count first second notes → note_name first second notes k ≡ n → Takes pool n 2 (length pool) notes notes heads
    takes-noted k h e =
        let i : ℕ = note_index first second notes k in
        let there : find pool n ≡ some i = rw e at (t.places k h) in
        record {
          passes = rw (rw e at (t.faultless k h), rw e at (t.searchable k h));
          size_is = size-there pool n i there;
          names-are = ap length (sym (keep-there pool n i there));
          more = record { knows = rw (keep-there pool n i there) t; still = λ m u. u };
          settled = λ u. absurd (u k h e);
        }

    -- a name that no pool will hold any more
    pub takes-full : name_refusal none-bad n ≡ none → find pool n ≡ none → most ≤ length pool → Takes pool n (4 + length n) (length pool) notes notes heads
    takes-full p f h =
        record {
          passes = p;
          size_is = size-new pool n f;
          names-are = ap length (sym (keep-full pool n h));
          more = record { knows = rw (keep-full pool n h) t; still = λ m u. u };
          settled = λ u. rw (keep-full pool n h) (f, h);
        }

  -- a name that gets a note
  module _ (pool : Pool) (source start len index link slot : ℕ) (notes heads : List ℕ) (t : Known first second output table kept pool notes heads)
      (u : Unnoted first second notes (span first second source start len)) (its : slot ≡ slot_of (length heads) (span first second source start len))
      (h : slot < length heads) (l : link ≡ get_or heads slot 0) (p : name_refusal none-bad (span first second source start len) ≡ none) where
    abbrev n : List ℕ
    n = span first second source start len

    abbrev notes' : List ℕ
    notes' = notes ++ (source ∷ start ∷ len ∷ index ∷ link ∷ [])

    abbrev heads' : List ℕ
    heads' = set heads slot (count first second notes + 1)

    fine : (string_fault n ≡ none) × (none-bad n ≡ false)
    fine = passes-by (string_fault n) (none-bad n) p

    -- the name is noted now
    new-noted : Unnoted first second notes' n → ⊥
    new-noted v = v (count first second notes) (omega (arith, count-more first second notes t.linked.whole source start len index link)) (name_new first second notes t.linked.whole source start len index link)

    pub takes-kept : find pool n ≡ some index → Takes pool n 2 (length pool) notes notes' heads'
    takes-kept f =
        record {
          passes = p;
          size_is = size-there pool n index f;
          names-are = ap length (sym (keep-there pool n index f));
          more = record {
            knows = rw (keep-there pool n index f) (noted-kept first second none-bad _ pool notes heads t source start len index link slot u its h l fine.0 fine.1 f);
            still = still first second none-bad _ pool notes heads t source start len index link slot u;
          };
          settled = λ v. absurd (new-noted v);
        }

    pub takes-new : find pool n ≡ none → index ≡ length pool → length pool < most → Takes pool n (4 + length n) (length pool + 1) notes notes' heads'
    takes-new f e m =
        record {
          passes = p;
          size_is = size-new pool n f;
          names-are = rw (keep-new pool n f m) (omega (arith, length-append pool (n ∷ [])));
          more = record {
            knows = rw (keep-new pool n f m) (noted-new first second none-bad _ pool notes heads t source start len index link slot u its h l fine.0 fine.1 f e);
            still = still first second none-bad _ pool notes heads t source start len index link slot u;
          };
          settled = λ v. absurd (new-noted v);
        }

-- ---- the same with the notes in the slice where they are stored

counted : (first second notes : List ℕ) (used : ℕ) → used ≤ length notes → count first second (take used notes) ≡ used / 5
counted first second notes used h = ap (λ (m : ℕ). m / 5) (length-take-le used notes h)

module _ (first second output table : List ℕ) (kept : ℕ) (pool : Pool) (w notes heads : List ℕ) (used slot : ℕ)
    (t : Known first second output table kept pool (take used notes) heads) where
  abbrev name : List ℕ
  name = span first second (get_or w 1 0) (get_or w 2 0) (get_or w 3 0)

  module _ (u : Unnoted first second (take used notes) name) (its : slot ≡ slot_of (length heads) name) (h : slot < length heads)
      (p : name_refusal (bad first second output table kept) name ≡ none) (in_use : used ≤ length notes) (small : length pool ≤ most) where
    abbrev words : ℕ → List ℕ
    words index = get_or w 1 0 ∷ get_or w 2 0 ∷ get_or w 3 0 ∷ index ∷ get_or heads slot 0 ∷ []

    abbrev notes-with : ℕ → List ℕ
    notes-with index = take used notes ++ words index

    abbrev heads-with : List ℕ
    heads-with = set heads slot (count first second (take used notes) + 1)

    longer : (index : ℕ) → length (notes-with index) ≡ used + 5
    longer index = length-append (take used notes) (words index) ∙ (let e = length-take-le used notes in_use in omega arith)

    -- all notes have room for this one: there are no more notes than names
    room_for : (index : ℕ) (pool' : Pool) → length pool' ≤ most → Known first second output table kept pool' (notes-with index) heads-with → used + 5 ≤ most-notes
    unfolding most
    room_for index pool' b k =
        let f = few first second (bad first second output table kept) (found first second output table kept) pool' (notes-with index) heads-with k in
        let whole = k.linked.whole in
        let l = longer index in
        omega arith

    known_kept : (index : ℕ) → find pool name ≡ some index → NameTakes first second output table kept pool name 2 (length pool) (take used notes) (notes-with index) heads-with
    known_kept index f = takes-kept first second output table kept pool (get_or w 1 0) (get_or w 2 0) (get_or w 3 0) index (get_or heads slot 0) slot (take used notes) heads t u its h refl p f

    known-new : find pool name ≡ none → length pool < most
        → NameTakes first second output table kept pool name (4 + length name) (length pool + 1) (take used notes) (notes-with (length pool)) heads-with
    known-new f m = takes-new first second output table kept pool (get_or w 1 0) (get_or w 2 0) (get_or w 3 0) (length pool) (get_or heads slot 0) slot (take used notes) heads t u its h refl p f refl m

    pub kept-room : (index : ℕ) → find pool name ≡ some index → used + 5 ≤ most-notes
    kept-room index f = room_for index pool small (rw (keep-there pool name index f) at (known_kept index f).more.knows)

    pub new-room : find pool name ≡ none → length pool < most → used + 5 ≤ most-notes
    new-room f m =
        room_for (length pool) (pool ++ (name ∷ [])) (omega (arith, length-append pool (name ∷ []))) (rw (keep-new pool name f m) at (known-new f m).more.knows)

    -- the note is stored
    module _ (index : ℕ) (notes' heads' : List ℕ) (room : used + 5 ≤ length notes) (stored : notes' ≡ sets notes used (words index))
        (headed : heads' ≡ set heads slot (used / 5 + 1)) where
      notes-are : take (used + 5) notes' ≡ notes-with index
      notes-are = ap (take (used + 5)) stored ∙ take-sets notes (words index) used room

      heads-are : heads' ≡ heads-with
      heads-are = headed ∙ ap (λ (m : ℕ). set heads slot (m + 1)) (sym (counted first second notes used in_use))

      grown : used + 5 ≤ length notes'
      grown = rw stored (simp length-sets room)

      pub kept-says : find pool name ≡ some index
          → (used + 5 ≤ length notes') × NameTakes first second output table kept pool name 2 (length pool) (take used notes) (take (used + 5) notes') heads'
      kept-says f = (grown, rw (notes-are, heads-are) (known_kept index f))

      pub new-says : find pool name ≡ none → length pool < most → index ≡ length pool
          → (used + 5 ≤ length notes') × NameTakes first second output table kept pool name (4 + length name) (length pool + 1) (take used notes) (take (used + 5) notes') heads'
      new-says f m e = (grown, rw (notes-are, heads-are, e) (known-new f m))

-- ---- rows

measured-takes : (f : Option (ℕ × ℕ)) (n m : ℕ) → takes m ≡ measured f n → (f ≡ none) × (n ≡ m)
measured-takes none n m e = (refl, (let z : m ≡ n = cc e in sym z))
measured-takes (some (a, b)) n m e = absurd (let z : ◌≡◌ {A = ℕ} 0 1 = cc e in omega arith)

measured-stops : (f : Option (ℕ × ℕ)) (n a b : ℕ) → stops a b ≡ measured f n → f ≡ some (a, b)
measured-stops none n a b e = absurd (let z : ◌≡◌ {A = ℕ} 0 1 = cc e in omega arith)
measured-stops (some (c, d)) n a b e = (let x : c ≡ a = cc e in let y : d ≡ b = cc e in λ i. some (x i, y i))

module _ (first second output table : List ℕ) (kept : ℕ) (pool : Pool) (r : Row) where
  pub named-row : (n : List ℕ) (size names' : ℕ) (notes notes' heads' : List ℕ) → has_name r.kind ≡ true → r.name ≡ n
      → NameTakes first second output table kept pool n size names' notes notes' heads'
      → RowNamed first second output table kept pool r size names' notes notes' heads'
  unfolding keep_row
  named-row n size names' notes notes' heads' h e t =
      record {
        passes = rw (h, e) t.passes;
        size_is = rw (h, e) t.size_is;
        names-are = rw (h, e) t.names-are;
        more = rw (h, e) t.more;
        settled = λ _. rw (h, e) t.settled;
      }

  pub bare-row : (notes heads : List ℕ) → has_name r.kind ≡ false → Known first second output table kept pool notes heads
      → RowNamed first second output table kept pool r 0 (length pool) notes notes heads
  unfolding keep_row
  bare-row notes heads h t =
      record {
        passes = rw h;
        size_is = rw h;
        names-are = rw h;
        more = rw h (record { knows = t; still = λ n u. u });
        settled = λ c. absurd (false≢true (sym h ∙ c));
      }

  bytes-length : length (row_bytes pool r) ≡ 1 + (length (cond (has_name r.kind) (name_bytes pool r.name) []) + length (value_bytes r.value))
  unfolding row_bytes
  bytes-length = (let e = length-append (cond (has_name r.kind) (name_bytes pool r.name) []) (value_bytes r.value) in omega arith)

  abbrev fault : Option (ℕ × ℕ)
  fault = value_fault (shape r.type) r.value

  abbrev size-of-value : ℕ
  size-of-value = length (value_bytes r.value)

  module _ (size names' : ℕ) (notes notes' heads' : List ℕ) (t : RowNamed first second output table kept pool r size names' notes notes' heads') where
    row-takes : (at at' m : ℕ) → takes m ≡ measured fault size-of-value → at' ≡ capped (length output) (at + 1 + size + m)
        → RowTakes first second output table kept pool r at at' names' notes notes' heads'
    unfolding row_refusal
    row-takes at at' m v e =
        let both = measured-takes fault size-of-value m v in
        let place : at + 1 + size + m ≡ at + length (row_bytes pool r) = omega (arith, bytes-length, t.size_is, both.1) in
        record {
          passes = rw (t.passes, both.0);
          at-is = e ∙ ap (capped (length output)) place;
          names-are = t.names-are;
          more = t.more;
          settled = t.settled;
        }

    value-stops : (a b : ℕ) → stops a b ≡ measured fault size-of-value → row_refusal (bad first second output table kept) r ≡ some (a, b)
    unfolding row_refusal
    value-stops a b v = rw (t.passes, measured-stops fault size-of-value a b v)

  name-stops : (a b : ℕ) → cond (has_name r.kind) (name_refusal (bad first second output table kept) r.name) none ≡ some (a, b)
      → row_refusal (bad first second output table kept) r ≡ some (a, b)
  unfolding row_refusal
  name-stops a b e = rw e

pub used-few : (first second output table : List ℕ) (kept : ℕ) (pool : Pool) (notes heads : List ℕ) (used : ℕ) → used ≤ length notes → length pool ≤ most
    → Known first second output table kept pool (take used notes) heads → used ≤ most-notes
unfolding most
used-few first second output table kept pool notes heads used h b t =
    let f = few first second (bad first second output table kept) (found first second output table kept) pool (take used notes) heads t in
    omega (arith, f, length-take-le used notes h, t.linked.whole)

-- ---- a name with no note, by what its search says

module _ (first second output table : List ℕ) (kept : ℕ) (w n notes heads : List ℕ) (used slot : ℕ)
    (e : n ≡ span first second (get_or w 1 0) (get_or w 2 0) (get_or w 3 0)) (in_use : used ≤ length notes) (its : slot ≡ slot_of (length heads) n)
    (h : slot < length heads) (u : Unnoted first second (take used notes) n) (pool : Pool) (names : ℕ) (counts : length pool ≡ names) (small : length pool ≤ most)
    (t : Known first second output table kept pool (take used notes) heads) where
  abbrev Answer : Option ℕ → Type 0
  Answer o = placed o ≡ placed_by (name_refusal (bad first second output table kept) n) (find (found first second output table kept) n)

  here : (o : Option ℕ) → Answer o → (name_refusal (bad first second output table kept) n ≡ none) × (find pool n ≡ o)
  here o q = (let x = placed-is _ o _ q in (x.0, t.complete n u ∙ x.1))

  index-small : (i : ℕ) → Answer (some i) → i < interned_new
  unfolding most
  index-small i q = omega (arith, find-below pool n i (here (some i) q).1)

  room-kept : (i : ℕ) → Answer (some i) → used + 5 ≤ most-notes
  room-kept i q =
      kept-room first second output table kept pool w notes heads used slot t (rw e at u) (rw e at its) h (rw e at (here (some i) q).0) in_use small i (rw e at (here (some i) q).1)

  room-new : Answer none → names < interned_new → used + 5 ≤ most-notes
  unfolding most
  room-new q m =
      new-room first second output table kept pool w notes heads used slot t (rw e at u) (rw e at its) h (rw e at (here none q).0) in_use small (rw e at (here none q).1) (omega arith)

  module _ (index : ℕ) (notes' heads' : List ℕ) (stored : notes' ≡ sets notes used (get_or w 1 0 ∷ get_or w 2 0 ∷ get_or w 3 0 ∷ index ∷ get_or heads slot 0 ∷ []))
      (headed : heads' ≡ set heads slot (used / 5 + 1)) (room : used + 5 ≤ length notes) where
    says-kept : Answer (some index)
        → (used + 5 ≤ length notes') × NameTakes first second output table kept pool n 2 names (take used notes) (take (used + 5) notes') heads'
    says-kept q =
        rw (e, ← counts)
        (kept-says first second output table kept pool w notes heads used slot t (rw e at u) (rw e at its) h (rw e at (here (some index) q).0) in_use small index notes' heads'
        room stored headed (rw e at (here (some index) q).1))

    says-new : Answer none → names < interned_new → index ≡ names
        → (used + 5 ≤ length notes') × NameTakes first second output table kept pool n (4 + length n) (names + 1) (take used notes) (take (used + 5) notes') heads'
    unfolding most
    says-new q m i =
        rw (e, ← counts)
        (new-says first second output table kept pool w notes heads used slot t (rw e at u) (rw e at its) h (rw e at (here none q).0) in_use small index notes' heads'
        room stored headed (rw e at (here none q).1) (omega arith) (i ∙ sym counts))

  says-full : Answer none → interned_new ≤ names
      → (used ≤ length notes) × NameTakes first second output table kept pool n (4 + length n) names (take used notes) (take used notes) heads
  unfolding most
  says-full q m = (
    in_use,
    rw (← counts) (takes-full first second output table kept pool n (take used notes) heads t (here none q).0 (here none q).1 (omega arith)),
  )

-- The arms of the code: what is known before the search, and its answer.
module _ (first second output table : List ℕ) (kept : ℕ) (w n notes heads : List ℕ) (used slot names : ℕ)
    (e : n ≡ span first second (get_or w 1 0) (get_or w 2 0) (get_or w 3 0)) (in_use : used ≤ length notes)
    (its : (slot ≡ slot_of (length heads) n) × (slot < length heads)) (k : Kept first second output table kept names (take used notes) heads)
    (u : Unnoted first second (take used notes) n) (r : Result (Code.Option ℕ) Wire.Refusal)
    (said : name_found_of r ≡ placed_by (name_refusal (bad first second output table kept) n) (find (found first second output table kept) n)) where
  abbrev After : List ℕ → List ℕ → Result NameSize Stop → Type 0
  After notes' heads' s = NameMeasured first second output table kept names n used notes heads notes' heads' s

  small : (pool : Pool) → length pool ≡ names → length pool ≤ most
  small pool c = omega (arith, k.1, k.2)

  abbrev Asks : Type 0
  Asks = ((used + 5 ≤ length notes) × (used + 5 ≤ most-notes)) × (slot < length heads)

  -- a note more ends below the end of a word
  pub used-small : used + 5 < 18446744073709551616
  used-small = omega (arith, used-few first second output table kept k.0 notes heads used in_use k.2 k.3)

  module _ (i : ℕ) (is : r ≡ Ok (Some i)) where
    there : Answer first second output table kept w n notes heads used slot e in_use its.0 its.1 u k.0 names k.1 k.2 k.3 (some i)
    there = sym (ap name_found_of is) ∙ said

    pub there-small : i < 4294967296
    there-small = omega (arith, index-small first second output table kept w n notes heads used slot e in_use its.0 its.1 u k.0 names k.1 k.2 k.3 i there)

    there-room : used + 5 ≤ most-notes
    there-room = room-kept first second output table kept w n notes heads used slot e in_use its.0 its.1 u k.0 names k.1 k.2 k.3 i there

    pub there-crowded : length notes - used < 5 → After notes heads (Err Crowded)
    there-crowded h pool c t = omega (arith, h, there-room)

    pub there-asks : 5 ≤ length notes - used → Asks
    there-asks h = ((omega arith, there-room), its.1)

    pub there-takes : (notes' heads' : List ℕ) → notes' ≡ sets notes used (get_or w 1 0 ∷ get_or w 2 0 ∷ get_or w 3 0 ∷ i ∷ get_or heads slot 0 ∷ [])
        → heads' ≡ set heads slot (used / 5 + 1) → 5 ≤ length notes - used → After notes' heads' (Ok (record { size = 2; names = names; used = used + 5 }))
    there-takes notes' heads' stored headed h pool c t =
        says-kept first second output table kept w n notes heads used slot e in_use its.0 its.1 u pool names c (small pool c) t i notes' heads' stored headed (omega arith) there

  module _ (is : r ≡ Ok None) where
    nowhere : Answer first second output table kept w n notes heads used slot e in_use its.0 its.1 u k.0 names k.1 k.2 k.3 none
    nowhere = sym (ap name_found_of is) ∙ said

    module _ (m : names < interned_new) where
      joins-room : used + 5 ≤ most-notes
      joins-room = room-new first second output table kept w n notes heads used slot e in_use its.0 its.1 u k.0 names k.1 k.2 k.3 nowhere m

      pub joins-crowded : length notes - used < 5 → After notes heads (Err Crowded)
      joins-crowded h pool c t = omega (arith, h, joins-room)

      pub joins-asks : 5 ≤ length notes - used → Asks
      joins-asks h = ((omega arith, joins-room), its.1)

      pub joins-takes : (notes' heads' : List ℕ) → notes' ≡ sets notes used (get_or w 1 0 ∷ get_or w 2 0 ∷ get_or w 3 0 ∷ names ∷ get_or heads slot 0 ∷ [])
          → heads' ≡ set heads slot (used / 5 + 1) → 5 ≤ length notes - used → After notes' heads' (Ok (record { size = 4 + length n; names = names + 1; used = used + 5 }))
      joins-takes notes' heads' stored headed h pool c t =
          says-new first second output table kept w n notes heads used slot e in_use its.0 its.1 u pool names c (small pool c) t names notes' heads' stored headed
          (omega arith) nowhere m refl

    pub full-takes : interned_new ≤ names → After notes heads (Ok (record { size = 4 + length n; names = names; used = used }))
    full-takes m pool c t = says-full first second output table kept w n notes heads used slot e in_use its.0 its.1 u pool names c (small pool c) t nowhere m

  pub stays-refused : (x : Wire.Refusal) → r ≡ Err x → After notes heads (Err (Refused x))
  stays-refused x is pool c t = barred-is _ (number_of x) (detail_of x) _ (sym (ap name_found_of is) ∙ said)

-- ---- a row's name

module _ (first second output table : List ℕ) (kept : ℕ) (pool : Pool) (r : Row) (n notes : List ℕ) (used : ℕ) (h : has_name r.kind ≡ true) (e : r.name ≡ n) where
  pub says_row : (notes' heads' : List ℕ) (s : Result NameSize Stop) → NameSays first second output table kept pool n used notes notes' heads' s
      → RowNameSays first second output table kept pool r used notes notes' heads' s
  says_row notes' heads' (Ok s) t = (t.0, named-row first second output table kept pool r n s.size s.names _ _ heads' h e t.1)
  says_row notes' heads' (Err (Refused x)) t = rw (h, e) t
  says_row notes' heads' (Err Crowded) t = t

  pub says-noted : (heads : List ℕ) (i names : ℕ) → length pool ≡ names → used ≤ length notes → Known first second output table kept pool (take used notes) heads
      → LookSays first second (take used notes) n (Some i)
      → (used ≤ length notes) × RowNamed first second output table kept pool r 2 names (take used notes) (take used notes) heads
  says-noted heads i names c b t l = (
    b,
    rw (← c) (named-row first second output table kept pool r n 2 (length pool) _ _ heads h e
        (takes-noted first second output table kept pool n (take used notes) heads t l.0 l.1 l.2)),
  )

pub says-bare : (first second output table : List ℕ) (kept : ℕ) (pool : Pool) (r : Row) (notes heads : List ℕ) (used names : ℕ) → has_name r.kind ≡ false
    → length pool ≡ names → used ≤ length notes → Known first second output table kept pool (take used notes) heads
    → (used ≤ length notes) × RowNamed first second output table kept pool r 0 names (take used notes) (take used notes) heads
says-bare first second output table kept pool r notes heads used names h c b t =
    (b, rw (← c) (bare-row first second output table kept pool r (take used notes) heads h t))

-- ---- no size comes near the end of a word

module _ (first second w : List ℕ) where
  value-by : (s a b : ℕ) (h : Shape) → length (value_bytes (value_at first second s a b h)) ≤ 8 + b
  unfolding value_at value_bytes be32
  value-by s a b Shape.Nothing = omega arith
  value-by s a b Shape.String = omega (arith, sized-length (span first second s a b), span-short first second s a b)
  value-by s a b Shape.Interned = omega arith
  value-by s a b Shape.Blob = omega (arith, sized-length (span first second s a b), span-short first second s a b)
  value-by s a b Shape.Word = omega arith
  value-by s a b Shape.Pair = omega arith
  value-by s a b Shape.Unknown = omega arith

  value-short : length (value_bytes (row_at first second w).value) ≤ 8 + get_or w 7 0
  unfolding row_at
  value-short = value-by (get_or w 5 0) (get_or w 6 0) (get_or w 7 0) (shape (get_or w 4 0))

  more-small : (m : ℕ)
      → takes m ≡ measured (value_fault (shape (row_at first second w).type) (row_at first second w).value) (length (value_bytes (row_at first second w).value))
      → m ≤ 8 + get_or w 7 0
  more-small m e =
      let r : Row = row_at first second w in
      omega (arith, value-short, (measured-takes (value_fault (shape r.type) r.value) (length (value_bytes r.value)) m e).1)

  name-short : length (row_at first second w).name ≤ get_or w 3 0
  unfolding row_at
  name-short =
      cond-by (λ (x : List ℕ). length x ≤ get_or w 3 0) (has_name (get_or w 0 0)) _ [] (λ _. span-short first second (get_or w 1 0) (get_or w 2 0) (get_or w 3 0)) (λ _. omega arith)

  named_by : (pool : Pool) (n : List ℕ) (o : Option ℕ) → find pool n ≡ o → length (name_bytes pool n) ≤ 4 + length n
  named_by pool n none e = omega (arith, size-new pool n e)
  named_by pool n (some i) e = omega (arith, size-there pool n i e)

  size_small : (output table : List ℕ) (kept : ℕ) (pool : Pool) (size names' : ℕ) (notes notes' heads' : List ℕ)
      → RowNamed first second output table kept pool (row_at first second w) size names' notes notes' heads' → size ≤ 4 + get_or w 3 0
  size_small output table kept pool size names' notes notes' heads' t =
      let r : Row = row_at first second w in
      let b : length (cond (has_name r.kind) (name_bytes pool r.name) []) ≤ 4 + length r.name =
      cond-by (λ (x : List ℕ). length x ≤ 4 + length r.name) (has_name r.kind) (name_bytes pool r.name) [] (λ _. named_by pool r.name (find pool r.name) refl) (λ _. omega arith) in
      omega (arith, t.size_is, b, name-short)

-- ---- a row, by what its name takes

module _ (first second output table : List ℕ) (kept : ℕ) (w : List ℕ) (t : Tally) (notes heads notes' heads' : List ℕ) (s : Result NameSize Stop)
    (says : RowNameMeasured first second output table kept t.names (row_at first second w) t.used notes heads notes' heads' s) where
  abbrev row : Row
  row = row_at first second w

  abbrev Done : Result Tally Stop → Type 0
  Done r = RowMeasured first second output table kept row t notes heads notes' heads' r

  name-refused : (x : Wire.Refusal) → s ≡ Err (Refused x) → Done (Err (Refused x))
  name-refused x is pool c k = name-stops first second output table kept pool row (number_of x) (detail_of x) (rw is at (says pool c k))

  pub name-stopped : (x : Stop) → s ≡ Err x → Done (Err x)
  name-stopped (Refused x) is pool c k = name-refused x is pool c k
  name-stopped Crowded is pool c k = rw is at (says pool c k)

  module _ (u : NameSize) (is : s ≡ Ok u) where
    named : (pool : Pool) → length pool ≡ t.names → Known first second output table kept pool (take t.used notes) heads
        → RowNameSays first second output table kept pool row t.used notes notes' heads' (Ok u)
    named pool c k = rw is at (says pool c k)

    module _ (k : Kept first second output table kept t.names (take t.used notes) heads) (near : t.at ≤ max_store + 1) (b : get_or w 3 0 < 4294967296) where
      name-short-enough : u.size ≤ 4 + get_or w 3 0
      name-short-enough = size_small first second w output table kept k.0 u.size u.names (take t.used notes) (take u.used notes') heads' (named k.0 k.1 k.3).1

      pub name-fits : t.at + 1 + u.size < 18446744073709551616
      name-fits = omega (arith, name-short-enough)

    module _ (v : Result ℕ Wire.Refusal) (value : size_of v ≡ measured (value_fault (shape row.type) row.value) (length (value_bytes row.value))) where
      pub value-refused : (x : Wire.Refusal) → v ≡ Err x → Done (Err (Refused x))
      value-refused x e pool c k =
          value-stops first second output table kept pool row u.size u.names (take t.used notes) (take u.used notes') heads' (named pool c k).1 (number_of x) (detail_of x)
          (sym (ap size_of e) ∙ value)

      module _ (more : ℕ) (e : v ≡ Ok more) where
        pub value-fits : Kept first second output table kept t.names (take t.used notes) heads → t.at ≤ max_store + 1 → get_or w 3 0 < 4294967296
            → get_or w 7 0 < 4294967296 → t.at + 1 + u.size + more < 18446744073709551616
        value-fits k near b d = omega (arith, name-short-enough k near b, more-small first second w more (sym (ap size_of e) ∙ value))

        pub row-measured : (at : ℕ) → at ≡ capped (length output) (t.at + 1 + u.size + more) → Done (Ok (record { at = at; names = u.names; used = u.used }))
        row-measured at a pool c k =
            let n = named pool c k in
            (n.0, row-takes first second output table kept pool row u.size u.names (take t.used notes) (take u.used notes') heads' n.1 t.at at more (sym (ap size_of e) ∙ value) a)
