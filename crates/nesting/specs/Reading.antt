-- What the code's two functions that call each other say of the rows that they read, each eight words.
use Rattle.std.specs.Prelude.{Bool, false, ◌&&◌, List, ◌∷◌, map, ◌≡◌, ℕ, ◌≤◌, ltb, length, get_or}
use Rattle.wire.specs.Token.{end_tag}
use Rattle.event.specs.Span.{span, same}
use Rattle.event.specs.Row.{row_at}
use Rattle.nesting_spec.specs.Nesting.{Name, depth}
use Rattle.nesting_spec.specs.OnePass.{Tag, tag_of, nested}

module _ (first second : List ℕ) where
  -- the bytes that a row's name words span
  abbrev pub name_of : List ℕ → Name
  name_of row = span first second (get_or row 1 0) (get_or row 2 0) (get_or row 3 0)

  abbrev pub same_names : List ℕ → List ℕ → Bool
  same_names a b = same (name_of a) (name_of b)

  -- the tags of rows
  abbrev pub tags : List (List ℕ) → List Tag
  tags rows = map tag_of (map (row_at first second) rows)

  -- the rows before the rest change nothing, whichever so many tags are open
  abbrev pub Passes : List (List ℕ) → ℕ → List (List ℕ) → Type 0
  Passes rows opened rest = (names : List Name) → length names ≡ opened → nested (tags rows) names ≡ nested (tags rest) names

  -- the rows do not nest, whichever so many tags are open
  abbrev pub Breaks : List (List ℕ) → ℕ → Type 0
  Breaks rows opened = (names : List Name) → length names ≡ opened → nested (tags rows) names ≡ false

  -- the rows after a start tag nest, which opens an element where these are open; with none it is the outermost
  unfoldable pub opening : List ℕ → List (List ℕ) → List Name → Bool
  opening start rows names = ltb (length names) depth && nested (tags rows) (name_of start ∷ names)

  abbrev pub BreaksOpening : List ℕ → List (List ℕ) → ℕ → Type 0
  BreaksOpening start rows opened = (names : List Name) → length names ≡ opened → opening start rows names ≡ false

  -- contents, up to an end tag or the end: the rest
  pub record ContentsTo (rows : List (List ℕ)) (opened : ℕ) (rest : List (List ℕ)) : Type 0 where
    pub shorter : length rest ≤ length rows
    pub tag : (row : List ℕ) (after : List (List ℕ)) → rest ≡ row ∷ after → get_or row 0 0 ≡ end_tag
    pub passes : Passes rows opened rest

  -- an element from after its start tag on, up to after its end tag
  pub record ElementTo (start : List ℕ) (rows : List (List ℕ)) (opened : ℕ) (rest : List (List ℕ)) : Type 0 where
    pub shorter : length rest ≤ length rows
    pub passes : (names : List Name) → length names ≡ opened → opening start rows names ≡ nested (tags rest) names
