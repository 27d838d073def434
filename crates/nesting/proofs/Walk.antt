-- The rows one at a time, as the code reads them: what the first row says decides how nesting goes on.
use Rattle.std.proofs.Common.{true, false, ◌&&◌, List, [], ◌∷◌, map, ◌≡◌, refl, sym, ap, ◌∙◌, ℕ, zero, suc, ◌+◌, ◌≤◌, ◌<◌, length, get_or, drop, eqb, leb, arith, lt-ltb, le-ltb, ne_eqb, leb-true}
use Rattle.std.specs.Simd.{first_chunks}
use Rattle.wire.specs.Token.{start_document, end_document, start_tag, end_tag, ignorable_whitespace, doc_decl}
use Rattle.event.specs.Span.{same}
use Rattle.event.specs.Laws.{both, same_refl, row-of-eight}
use Rattle.event.specs.Row.{has_name, row_at, rows_at}
use Rattle.grammar.proofs.Choice.{by_test}
use Rattle.nesting_spec.specs.Nesting.{Name, depth, document}
use Rattle.nesting_spec.specs.OnePass.{Tag, start, end, begins, ends, anywhere, inside, outside, tag_of, none, nested, rooted, begun, passes}
use Rattle.nesting_spec.proofs.Agreement.{document-passes}
use Rattle.nesting_spec.proofs.KindLaws as Kinds
use Rattle.nesting_spec.proofs.KindLaws.{by_kind}
use Rattle.nesting.specs.Reading.{name_of, same_names, tags, opening, Passes, Breaks, BreaksOpening, ContentsTo, ElementTo}

outside-past : (k : ℕ) → outside k ≡ true → end_tag < k
outside-past k h =
    let l = leb-true ignorable_whitespace k (both (leb ignorable_whitespace k) (leb k doc_decl) h).0 in
    omega arith

no-rows : (rows : List (List ℕ)) → length rows ≡ 0 → rows ≡ []
no-rows [] e = refl
no-rows (w ∷ rows) e = absurd (omega (arith, e))

module _ (first second : List ℕ) where
  abbrev kind : List ℕ → ℕ
  kind w = get_or w 0 0

  abbrev name : List ℕ → Name
  name = name_of first second

  abbrev Tags : List (List ℕ) → List Tag
  Tags = tags first second

  pub equal-spans : (a b : List ℕ) → get_or a 1 0 ≡ get_or b 1 0 → get_or a 2 0 ≡ get_or b 2 0 → get_or a 3 0 ≡ get_or b 3 0 → same_names first second a b ≡ true
  equal-spans a b s t l = rw (s, t, l) (same_refl (name b))

  -- ---- the tag of a row

  tag_at : List ℕ → Tag
  tag_at w = tag_of (row_at first second w)

  tags-on : (w : List ℕ) (rest : List (List ℕ)) → Tags (w ∷ rest) ≡ tag_at w ∷ Tags rest
  unfolding tag_at
  tags-on w rest = refl

  kind-is : (w : List ℕ) → (row_at first second w).kind ≡ kind w
  unfolding row_at
  kind-is w = refl

  named : (w : List ℕ) → has_name (kind w) ≡ true → (row_at first second w).name ≡ name w
  unfolding row_at
  named w h = rw h

  tag-start : (w : List ℕ) → kind w ≡ start_tag → tag_at w ≡ start (name w)
  unfolding tag_at
  tag-start w e = Kinds.tag-start (row_at first second w) (kind-is w ∙ e) ∙ ap start (named w (unfold has_name in rw e))

  tag-end : (w : List ℕ) → kind w ≡ end_tag → tag_at w ≡ end (name w)
  unfolding tag_at
  tag-end w e = Kinds.tag-end (row_at first second w) (kind-is w ∙ e) ∙ ap end (named w (unfold has_name in rw e))

  tag-begins : (w : List ℕ) → kind w ≡ start_document → tag_at w ≡ begins
  unfolding tag_at
  tag-begins w e = Kinds.tag-begins (row_at first second w) (kind-is w ∙ e)

  tag-ends : (w : List ℕ) → kind w ≡ end_document → tag_at w ≡ ends
  unfolding tag_at
  tag-ends w e = Kinds.tag-ends (row_at first second w) (kind-is w ∙ e)

  tag-anywhere : (w : List ℕ) → end_tag < kind w → outside (kind w) ≡ true → tag_at w ≡ anywhere
  unfolding tag_at
  tag-anywhere w h o = Kinds.tag-anywhere (row_at first second w) (rw (kind-is w) h) (rw (kind-is w) o)

  tag-inside : (w : List ℕ) → end_tag < kind w → outside (kind w) ≡ false → tag_at w ≡ inside
  unfolding tag_at
  tag-inside w h o = Kinds.tag-inside (row_at first second w) (rw (kind-is w) h) (rw (kind-is w) o)

  module _ (w : List ℕ) (rest : List (List ℕ)) where
    -- ---- one row, with some tags open

    at-close : (m : Name) (names : List Name) → kind w ≡ end_tag → nested (Tags (w ∷ rest)) (m ∷ names) ≡ (same m (name w) && nested (Tags rest) names)
    unfolding nested
    at-close m names e = rw (tags-on w rest, tag-end w e)

    at-start : (m : Name) (names : List Name) → kind w ≡ start_tag → nested (Tags (w ∷ rest)) (m ∷ names) ≡ opening first second w rest (m ∷ names)
    unfolding nested opening
    at-start m names e = rw (tags-on w rest, tag-start w e)

    at-document : (m : Name) (names : List Name) → kind w < start_tag → nested (Tags (w ∷ rest)) (m ∷ names) ≡ false
    unfolding nested
    at-document m names l =
        by_kind (kind w)
        (λ e. rw (tags-on w rest, tag-begins w e))
        (λ e. rw (tags-on w rest, tag-ends w e))
        (λ e. absurd (omega arith))
        (λ e. absurd (omega arith))
        (λ g. absurd (omega arith))

    at_other : (m : Name) (names : List Name) → end_tag < kind w → nested (Tags (w ∷ rest)) (m ∷ names) ≡ nested (Tags rest) (m ∷ names)
    unfolding nested
    at_other m names l =
        by_test (outside (kind w))
        (λ o. rw (tags-on w rest, tag-anywhere w l o))
        (λ o. rw (tags-on w rest, tag-inside w l o))

    -- ---- contents

    module _ (opened : ℕ) (some : 1 ≤ opened) where
      pub passes-other : end_tag < kind w → Passes first second (w ∷ rest) opened rest
      passes-other l [] z = absurd (omega arith)
      passes-other l (m ∷ names) z = at_other m names l

      pub breaks-document : kind w < start_tag → Breaks first second (w ∷ rest) opened
      breaks-document l [] z = absurd (omega arith)
      breaks-document l (m ∷ names) z = at-document m names l

      pub opens-element : kind w ≡ start_tag → (names : List Name) → length names ≡ opened → nested (Tags (w ∷ rest)) names ≡ opening first second w rest names
      opens-element s [] z = absurd (omega arith)
      opens-element s (m ∷ names) z = at-start m names s

    -- ---- after the outermost element

    pub closed-turn : outside (kind w) ≡ true → nested (Tags (w ∷ rest)) [] ≡ nested (Tags rest) []
    unfolding nested
    closed-turn o = rw (tags-on w rest, tag-anywhere w (outside-past (kind w) o) o)

    pub closed-break : (kind w ≡ end_document → ⊥) → outside (kind w) ≡ false → nested (Tags (w ∷ rest)) [] ≡ false
    unfolding nested
    closed-break ne o =
        by_kind (kind w)
        (λ e. rw (tags-on w rest, tag-begins w e))
        (λ e. absurd (ne e))
        (λ e. rw (tags-on w rest, tag-start w e))
        (λ e. rw (tags-on w rest, tag-end w e))
        (λ l. rw (tags-on w rest, tag-inside w l o))

    -- ---- before it

    pub rooted-turn : outside (kind w) ≡ true → rooted (Tags (w ∷ rest)) ≡ rooted (Tags rest)
    unfolding rooted
    rooted-turn o = rw (tags-on w rest, tag-anywhere w (outside-past (kind w) o) o)

    pub rooted-start : kind w ≡ start_tag → rooted (Tags (w ∷ rest)) ≡ opening first second w rest []
    unfolding rooted opening
    rooted-start e = rw (tags-on w rest, tag-start w e)

    pub rooted-break : (kind w ≡ start_tag → ⊥) → outside (kind w) ≡ false → rooted (Tags (w ∷ rest)) ≡ false
    unfolding rooted
    rooted-break ne o =
        by_kind (kind w)
        (λ e. rw (tags-on w rest, tag-begins w e))
        (λ e. rw (tags-on w rest, tag-ends w e))
        (λ e. absurd (ne e))
        (λ e. rw (tags-on w rest, tag-end w e))
        (λ l. rw (tags-on w rest, tag-inside w l o))

    begun_kept : (kind w ≡ start_document → ⊥) → begun (Tags (w ∷ rest)) ≡ Tags (w ∷ rest)
    unfolding tag_at
    begun_kept ne = Kinds.begun_kept (row_at first second w) (Tags rest) (λ e. ne (sym (kind-is w) ∙ e))

  pub closed-last : (w : List ℕ) (rest : List (List ℕ)) → kind w ≡ end_document → eqb (length rest) 0 ≡ nested (Tags (w ∷ rest)) []
  unfolding nested none
  closed-last w [] e = rw (tags-on w [], tag-ends w e)
  closed-last w (v ∷ rest) e = rw (tags-on w (v ∷ rest), tag-ends w e, ne_eqb (length (v ∷ rest)) 0 (λ z. absurd (omega (arith, z))))

  left-open : (m : Name) (names : List Name) (rows : List (List ℕ)) → length rows ≡ 0 → nested (Tags rows) (m ∷ names) ≡ false
  unfolding nested
  left-open m names rows e = rw (no-rows rows e)

  pub closed-end : (rows : List (List ℕ)) → length rows ≡ 0 → nested (Tags rows) [] ≡ true
  unfolding nested
  closed-end rows e = rw (no-rows rows e)

  pub rooted-end : (rows : List (List ℕ)) → length rows ≡ 0 → rooted (Tags rows) ≡ false
  unfolding rooted
  rooted-end rows e = rw (no-rows rows e)

  -- ---- an element, by what its contents were read to

  module _ (w : List ℕ) (rows : List (List ℕ)) (opened : ℕ) where
    pub deep : depth ≤ opened → BreaksOpening first second w rows opened
    unfolding opening
    deep d names l = rw (le-ltb (length names) depth (omega arith))

    within : opened < depth → (names : List Name) → length names ≡ opened → opening first second w rows names ≡ nested (Tags rows) (name w ∷ names)
    unfolding opening
    within d names l = rw (lt-ltb (length names) depth (omega arith))

    pub inner : opened < depth → Breaks first second rows (opened + 1) → BreaksOpening first second w rows opened
    inner d b names l = within d names l ∙ b (name w ∷ names) (omega arith)

    module _ (d : opened < depth) (rest : List (List ℕ)) (c : ContentsTo first second rows (opened + 1) rest) where
      to_rest : (names : List Name) → length names ≡ opened → opening first second w rows names ≡ nested (Tags rest) (name w ∷ names)
      to_rest names l = within d names l ∙ c.passes (name w ∷ names) (omega arith)

      pub unclosed : length rest ≡ 0 → BreaksOpening first second w rows opened
      unclosed e names l = to_rest names l ∙ left-open (name w) names rest e

      module _ (v : List ℕ) (after : List (List ℕ)) (e : rest ≡ v ∷ after) where
        pub other_name : same (name w) (name v) ≡ false → BreaksOpening first second w rows opened
        other_name q names l = to_rest names l ∙ rw e (at-close v after (name w) names (c.tag v after e) ∙ rw q)

        pub closed : same (name w) (name v) ≡ true → ElementTo first second w rows opened after
        closed q =
            record {
              shorter = let s = c.shorter in let m = ap length e in omega (arith, s, m);
              passes = λ names l. to_rest names l ∙ rw e (at-close v after (name w) names (c.tag v after e) ∙ rw q);
            }

  -- ---- the whole list

  all-tags : (rows : List (List ℕ)) → rooted (begun (Tags rows)) ≡ document (map (row_at first second) rows)
  unfolding passes
  all-tags rows = sym (document-passes (map (row_at first second) rows))

  pub document-empty : (rows : List (List ℕ)) → length rows ≡ 0 → false ≡ document (map (row_at first second) rows)
  unfolding begun rooted
  document-empty rows e = rw (no-rows rows e) (all-tags [])

  pub document-begun : (w : List ℕ) (rest : List (List ℕ)) → kind w ≡ start_document → rooted (Tags rest) ≡ document (map (row_at first second) (w ∷ rest))
  unfolding begun
  document-begun w rest e = sym (ap (λ (t : Tag). rooted (begun (t ∷ Tags rest))) (tag-begins w e)) ∙ (unfold tag_at in all-tags (w ∷ rest))

  pub document-plain : (w : List ℕ) (rest : List (List ℕ)) → (kind w ≡ start_document → ⊥) → rooted (Tags (w ∷ rest)) ≡ document (map (row_at first second) (w ∷ rest))
  document-plain w rest ne = ap rooted (sym (begun_kept w rest ne)) ∙ all-tags (w ∷ rest)

  pub rows-of-chunks : (n : ℕ) (w : List ℕ) → map (row_at first second) (first_chunks 8 n w) ≡ rows_at first second n w
  unfolding rows_at
  rows-of-chunks zero w = refl
  rows-of-chunks (suc n) w = rw (row-of-eight first second w, rows-of-chunks n (drop 8 w))
