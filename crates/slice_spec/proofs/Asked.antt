-- What a query asks of an event, its rows as values; and that the rows which a query picks by their words say those.
use Rattle.std.specs.Prelude.{Bool, true, false, ◌&&◌, cond, ◌≡◌, length, take, eqb}
use mathlib.Core.List.{List, [], ◌∷◌, ◌++◌, map, append_assoc}
use Rattle.std.proofs.Math.Path.{refl, ap}
use Rattle.std.proofs.Common.{sym, ◌∙◌, length-append, take-append-drop, length-take-le}
use Prim.Native.Nat.{ℕ, zero, suc, ◌+◌, ◌*◌, ◌≤◌}
use native.Mathlib.Omega.{arith}
use Rattle.std.proofs.Math.ListN.{drop, length-drop, get_or-append}
use Rattle.std.proofs.lemmas.List.Edits.{sets, sets-eq}
use Rattle.std.proofs.Math.Seq.{drop_at, drop-append-le, drop-drop}
use Rattle.wire.specs.Token.{start_tag}
use Rattle.event.specs.Span.{same}
use Rattle.event.specs.Row.{Row, Event, row_at, rows_at}
use Rattle.event.specs.Laws.{row-of-eight}
use Rattle.grammar.proofs.Choice.{cond-by}
use Rattle.slice_spec.specs.Queries.{Query, find-attribute, attributes-of, find-all-attributes, all-attributes-of, Words, split, named, is_element, all_named, first_named, picks, picked, concat}

-- ---- by the rows as values

unfoldable pub row_named : List ℕ → Row → Bool
row_named name r = same r.name name

unfoldable pub tag_named : List ℕ → Row → Bool
tag_named element r = eqb r.kind start_tag && row_named element r

unfoldable pub all_rows : List ℕ → List Row → List Row
all_rows name [] = []
all_rows name (r ∷ rs) = cond (row_named name r) (r ∷ all_rows name rs) (all_rows name rs)

unfoldable pub first_row : List ℕ → List Row → List Row
first_row name [] = []
first_row name (r ∷ rs) = cond (row_named name r) (r ∷ []) (first_row name rs)

-- of an event, its own row r and its attributes rs
unfoldable pub asked : Query → Row → List Row → List Row
asked (find-attribute element name) r rs = cond (tag_named element r) (first_row name rs) []
asked (attributes-of element) r rs = cond (tag_named element r) (r ∷ rs) []
asked (find-all-attributes element name) r rs = cond (tag_named element r) (all_rows name rs) []
asked (all-attributes-of element) r rs = cond (tag_named element r) (r ∷ rs) []

unfoldable pub chosen : Query → Event → List Row
chosen q [] = []
chosen q (r ∷ rs) = asked q r rs

-- ---- the picked words say the chosen rows

module _ (document : List ℕ) where
  abbrev say : List Words → List Row
  say ws = map (row_at document []) ws

  say-cond : (b : Bool) (x y : List Words) → say (cond b x y) ≡ cond b (say x) (say y)
  say-cond true x y = refl
  say-cond false x y = refl

  all_say : (name : List ℕ) (ws : List Words) → say (all_named document name ws) ≡ all_rows name (say ws)
  unfolding all_named all_rows named row_named
  all_say name [] = refl
  all_say name (w ∷ ws) = rw (say-cond, all_say name ws)

  first-say : (name : List ℕ) (ws : List Words) → say (first_named document name ws) ≡ first_row name (say ws)
  unfolding first_named first_row named row_named
  first-say name [] = refl
  first-say name (w ∷ ws) = rw (say-cond, first-say name ws)

  tag-says : (element : List ℕ) (w : Words) → is_element document element w ≡ tag_named element (row_at document [] w)
  unfolding is_element tag_named named row_named row_at
  tag-says element w = refl

  picks-say : (q : Query) (w : Words) (ws : List Words) → say (picks q document w ws) ≡ asked q (row_at document [] w) (say ws)
  unfolding picks asked
  picks-say (find-attribute element name) w ws = rw (say-cond, tag-says element w, first-say name ws)
  picks-say (attributes-of element) w ws = rw (say-cond, tag-says element w)
  picks-say (find-all-attributes element name) w ws = rw (say-cond, tag-says element w, all_say name ws)
  picks-say (all-attributes-of element) w ws = rw (say-cond, tag-says element w)

  pub picked-say : (q : Query) (ws : List Words) → say (picked q document ws) ≡ chosen q (say ws)
  unfolding picked chosen
  picked-say q [] = refl
  picked-say q (w ∷ ws) = picks-say q w ws

-- ---- eight words each

abbrev pub Eight : List Words → Type 0
Eight [] = Unit {0}
Eight (w ∷ ws) = (length w ≡ 8) × Eight ws

module _ (document : List ℕ) where
  all-eight : (name : List ℕ) (ws : List Words) → Eight ws → Eight (all_named document name ws)
  unfolding all_named
  all-eight name [] h = tt
  all-eight name (w ∷ ws) h = cond-by Eight (named document name w) _ _ (λ _. (h.0, all-eight name ws h.1)) (λ _. all-eight name ws h.1)

  first-eight : (name : List ℕ) (ws : List Words) → Eight ws → Eight (first_named document name ws)
  unfolding first_named
  first-eight name [] h = tt
  first-eight name (w ∷ ws) h = cond-by Eight (named document name w) _ _ (λ _. (h.0, tt)) (λ _. first-eight name ws h.1)

  picks-eight : (q : Query) (w : Words) (ws : List Words) → length w ≡ 8 → Eight ws → Eight (picks q document w ws)
  unfolding picks
  picks-eight (find-attribute element name) w ws a h = cond-by Eight (is_element document element w) _ _ (λ _. first-eight name ws h) (λ _. tt)
  picks-eight (attributes-of element) w ws a h = cond-by Eight (is_element document element w) _ _ (λ _. (a, h)) (λ _. tt)
  picks-eight (find-all-attributes element name) w ws a h = cond-by Eight (is_element document element w) _ _ (λ _. all-eight name ws h) (λ _. tt)
  picks-eight (all-attributes-of element) w ws a h = cond-by Eight (is_element document element w) _ _ (λ _. (a, h)) (λ _. tt)

  pub picked-eight : (q : Query) (ws : List Words) → Eight ws → Eight (picked q document ws)
  unfolding picked
  picked-eight q [] h = tt
  picked-eight q (w ∷ ws) h = picks-eight q w ws h.0 h.1

pub split-eight : (n : ℕ) (w : List ℕ) → length w ≡ 8 * n → Eight (split n w)
unfolding split
split-eight zero w h = tt
split-eight (suc n) w h = (length-take-le 8 w (omega arith), split-eight n (drop 8 w) (simp length-drop (omega arith)))

pub concat-length : (ws : List Words) → Eight ws → length (concat ws) ≡ 8 * length ws
unfolding concat
concat-length [] h = refl
concat-length (w ∷ ws) h = omega (arith, length-append w (concat ws), h.0, concat-length ws h.1)

-- ---- rows among words

module _ (document : List ℕ) where
  pub split-says : (n : ℕ) (w : List ℕ) → map (row_at document []) (split n w) ≡ rows_at document [] n w
  unfolding split rows_at
  split-says zero w = refl
  split-says (suc n) w = rw (row-of-eight document [] w, split-says n (drop 8 w))

  row-front : (x y : List ℕ) → 8 ≤ length x → row_at document [] (x ++ y) ≡ row_at document [] x
  unfolding row_at
  row-front x y h =
      rw (
        get_or-append x y 0 0 (omega arith),
        get_or-append x y 0 1 (omega arith),
        get_or-append x y 0 2 (omega arith),
        get_or-append x y 0 3 (omega arith),
        get_or-append x y 0 4 (omega arith),
        get_or-append x y 0 5 (omega arith),
        get_or-append x y 0 6 (omega arith),
        get_or-append x y 0 7 (omega arith),
      )

  -- so many rows, whatever comes after them
  rows-front : (n : ℕ) (x y : List ℕ) → 8 * n ≤ length x → rows_at document [] n (x ++ y) ≡ rows_at document [] n x
  unfolding rows_at
  rows-front zero x y h = refl
  rows-front (suc n) x y h =
      rw (row-front x y (omega arith), drop-append-le 8 x y (omega arith), rows-front n (drop 8 x) y (simp length-drop (omega arith)))

  rows-add : (n m : ℕ) (w : List ℕ) → rows_at document [] (n + m) w ≡ rows_at document [] n w ++ rows_at document [] m (drop (8 * n) w)
  unfolding rows_at
  rows-add zero m w = let e : 0 + m ≡ m = omega arith in ap (λ (k : ℕ). rows_at document [] k w) e
  rows-add (suc n) m w =
      let e : suc n + m ≡ suc (n + m) = omega arith in
      let k : 8 + 8 * n ≡ 8 * suc n = omega arith in
      let d : drop (8 * n) (drop 8 w) ≡ drop (8 * suc n) w = drop-drop (8 * n) 8 w ∙ ap (λ (j : ℕ). drop j w) k in
      ap (λ (k : ℕ). rows_at document [] k w) e ∙ rw (rows-add n m (drop 8 w), d)

  concat-says : (ws : List Words) (rest : List ℕ) → Eight ws → rows_at document [] (length ws) (concat ws ++ rest) ≡ map (row_at document []) ws
  unfolding rows_at concat
  concat-says [] rest h = refl
  concat-says (w ∷ ws) rest h =
      rw (
        append_assoc w (concat ws) rest,
        row-front w (concat ws ++ rest) (omega (arith, h.0)),
        drop_at w (concat ws ++ rest) 8 h.0,
        concat-says ws rest h.1,
      )

  -- rows written after the first n
  pub rows_written : (n : ℕ) (rows : List ℕ) (ws : List Words) → Eight ws → 8 * (n + length ws) ≤ length rows
      → rows_at document [] (n + length ws) (sets rows (8 * n) (concat ws)) ≡ rows_at document [] n rows ++ map (row_at document []) ws
  rows_written n rows ws h room =
      let b : List ℕ = concat ws in
      let l : length b ≡ 8 * length ws = concat-length ws h in
      let front : List ℕ = take (8 * n) rows in
      let lf : length front ≡ 8 * n = length-take-le (8 * n) rows (omega arith) in
      let rest : List ℕ = drop (8 * n + length b) rows in
      let e : sets rows (8 * n) b ≡ front ++ (b ++ rest) = sets-eq b rows (8 * n) (omega arith) ∙ append_assoc front b rest in
      let same-front : rows_at document [] n front ≡ rows_at document [] n rows =
      sym (rows-front n front (drop (8 * n) rows) (omega arith)) ∙ rw (take-append-drop (8 * n) rows) in
      rw (e, rows-add n (length ws) (front ++ (b ++ rest)), rows-front n front (b ++ rest) (omega arith), drop_at front (b ++ rest) (8 * n) lf, concat-says ws rest h, same-front)
