-- The second pass, row by row: an attribute, and the event's own row.
use Rattle.std.proofs.Common.{List, [], ◌∷◌, ◌++◌, append-nil, ◌≡◌, refl, sym, ap, ◌∙◌, ℕ, ◌+◌, ◌*◌, ◌≤◌, ◌<◌, arith, ltb-true, ltb-false, ltb, length, get_or}
use Rattle.std.proofs.Math.Option.{Option, none, some}
use Rattle.std.proofs.Math.Seq.{sets}
use Rattle.wire.specs.Token as Token
use Rattle.wire.specs.Commands.{IsCommand}
use Rattle.wire.specs.declared.Command.{Command}
use Rattle.wire.specs.declared.Command.TheVariants as C
use Rattle.event.specs.declared.Shape.{Shape}
use Rattle.grammar.specs.Reader.{Read, got}
use Rattle.grammar.specs.Document.{type_of}
use Rattle.grammar.specs.Grammar.{Span, Ref, new, known, Value, Item, counted, counted_name, after, string, blob, name, value, attribute, first}
use Rattle.grammar.specs.Scan.{adds_ref, adds_name, adds_value, adds_item, span_words, ref_words, name_words, value_words, item_words}
use Rattle.grammar.specs.Fits.{RefFits, NameFits, ValueFits, ItemFits}
use Rattle.grammar.proofs.Laws.{good-name}
use Rattle.grammar.proofs.Added.{adds_ref-in, counted-adds, counted_name-adds, counted_value-adds}
use Rattle.grammar.proofs.Stores.{get_d_sets}
use Rattle.grammar.proofs.Binds.{Got}
use Rattle.grammar.proofs.Rows.{as_attribute, as_tag, as_text_row, name-within, attribute-is, attribute-name, attribute-value, first-bare, first-tag, first-other, first-text, first-textless, text-string, tag-name}
use Rattle.grammar.proofs.Again.{string-blob}
use Rattle.grammar.proofs.Choice.{by_test}
use Rattle.grammar.specs.Trusted.{always}
use Rattle.scanner.specs.declared.fill.Home.{Home}
use Rattle.scanner.specs.declared.fill.Kept.{Kept}
use Rattle.scanner.specs.declared.fill.Filled.{Filled}
use Rattle.scanner.specs.declared.fill.Ahead.{Ahead}
use Rattle.quick.specs.Quick.{words_of}
use Rattle.scanner.specs.Fill.{pooled_in, kept_pairs, Room, Keeps, Has, Once, Within, SpanFilled, RefFilled, ValueFilled, RowFilled}
use Rattle.scanner.proofs.Keeping.{keeps-none, keeps-both, room-first, room-then}
use Rattle.scanner.proofs.Filling.{has-got, has-it, it-has, once-got, once-it}

-- ---- words that stay when names join the table after those that they look up

module _ (pooled base l : ℕ) (table vs : List ℕ) (k : ℕ) where
  ref-later : (names : ℕ) → names ≤ k → (r : Ref) → RefFits l names r → ref_words pooled base (sets table (2 * k) vs) r ≡ ref_words pooled base table r
  unfolding ref_words span_words
  ref-later names h (new t) f = refl
  ref-later names h (known i) f = rw (get_d_sets table (2 * k) vs (2 * i) 0 (omega (arith, f, h)), get_d_sets table (2 * k) vs (2 * i + 1) 0 (omega (arith, f, h)))

  name-later : (names : ℕ) → names ≤ k → (o : Option Ref) → NameFits l names o → name_words pooled base (sets table (2 * k) vs) o ≡ name_words pooled base table o
  unfolding name_words
  name-later names h none f = refl
  name-later names h (some r) f = ref-later names h r f

  value-later : (names : ℕ) → names ≤ k → (g : Shape) (v : Value) → ValueFits l names g v → value_words pooled base (sets table (2 * k) vs) v ≡ value_words pooled base table v
  unfolding value_words span_words
  value-later names h g Value.nothing f = refl
  value-later names h g Value.empty f = refl
  value-later names h g (Value.span t) f = refl
  value-later names h g (Value.interned r) f = ref-later names h r f.0
  value-later names h g (Value.word w) f = refl
  value-later names h g (Value.pair x y) f = refl

  pub item-later : (names : ℕ) (i : Item) → after names i ≤ k → ItemFits l names i → item_words pooled base (sets table (2 * k) vs) i ≡ item_words pooled base table i
  unfolding item_words after
  item-later names i h f =
      let a = counted_name-adds names i.name in
      let b = counted_value-adds (counted_name names i.name) i.value in
      rw (name-later names (omega (arith, h, a, b)) i.name f.name-fits, value-later (counted_name names i.name) (omega (arith, h, b)) _ i.value f.value-fits)

-- ---- an attribute

value_same : (s : List ℕ) (m m' y y' n n' : ℕ) → m ≡ m' → y ≡ y' → n ≡ n' → value always m y s n ≡ value always m' y' s n'
value_same s m m' y y' n n' b c d = rw (b, c, d)

row_words : (rows : List ℕ) (to kind type type' : ℕ) (n n' v v' : List ℕ) → n ≡ n' → type ≡ type' → v ≡ v'
    → sets rows to (kind ∷ (n ++ (type ∷ v))) ≡ sets rows to (kind ∷ (n' ++ (type' ∷ v')))
row_words rows to kind type type' n n' v v' e f g = rw (e, f, g)

module _ (h : Home) (s : List ℕ) (k : Kept) (at : ℕ) (table store : List ℕ) (w : Within s (at + 1) h.base)
    (g : Has (λ i. Room h k (adds_item k.names i) table store) (attribute always k.names s at)) where
  abbrev names : ℕ
  names = k.names

  before : at < length s
  before = omega (arith, w.inside)

  read : Got (attribute always names s at)
  read = has-got (λ i. Room h k (adds_item names i) table store) (attribute always names s at) g

  ref : Got (name always names s (at + 1))
  ref = attribute-name always names s at before read

  abbrev type : ℕ
  type = Token.type (get_or s at 0)

  val : Got (value always (counted names ref.it) type s ref.place)
  val = attribute-value always names s at before ref.it ref.place ref.is read

  abbrev row : Item
  row = record { kind = Token.attribute; name = some ref.it; type = type; value = val.it }

  row_is : attribute always names s at ≡ got row val.place
  row_is = attribute-is always names s at before ref.it ref.place ref.is ∙ ap (as_attribute (some ref.it) type) val.is

  abbrev these : List Span
  these = adds_ref names ref.it

  abbrev others : List Span
  others = adds_value (counted names ref.it) val.it

  row_room : Room h k (these ++ others) table store
  unfolding adds_item adds_name counted_name
  row_room = has-it (λ i. Room h k (adds_item names i) table store) (attribute always names s at) row val.place row_is g

  ref-fits : RefFits (length s) names ref.it
  ref-fits = (rw ref.is at ((good-name s [] always names).law (at + 1) w.inside)).2

  pub name-asks : Has (λ r. Room h k (adds_ref names r) table store) (name always names s (at + 1))
  name-asks =
      it-has (λ r. Room h k (adds_ref names r) table store) (name always names s (at + 1)) ref.it ref.place ref.is (room-first h k these others table store row_room)

  module _ (table₁ store₁ : List ℕ) (n : Filled) (o : Once (RefFilled h s k table table₁ store store₁ n) (name always names s (at + 1))) where
    name-part : RefFilled h s k table table₁ store store₁ n ref.it ref.place
    name-part = once-it (RefFilled h s k table table₁ store store₁ n) (name always names s (at + 1)) ref.it ref.place ref.is o

    more : n.kept.names ≡ counted names ref.it
    more = name-part.keeps.names-are ∙ sym (counted-adds names ref.it)

    pub value-within : Within s n.next h.base
    value-within = record {
      inside = omega (arith, name-part.moved, name-within always names s (at + 1) ref.place ref.it w.inside ref.is);
      in-store = w.in-store;
    }

    module _ (t : ℕ) (y : t ≡ type) where
      abbrev valued : Read Value
      valued = value always n.kept.names t s n.next

      valued-is : valued ≡ got val.it val.place
      valued-is = value_same s _ _ _ _ _ _ more y name-part.moved ∙ val.is

      pub value-asks : Has (λ v. Room h n.kept (adds_value n.kept.names v) table₁ store₁) valued
      value-asks =
          let e : adds_value n.kept.names val.it ≡ others = ap (λ (m : ℕ). adds_value m val.it) more in
          it-has (λ v. Room h n.kept (adds_value n.kept.names v) table₁ store₁) valued val.it val.place valued-is
          (rw e (room-then h name-part.keeps others row_room))

      module _ (table₂ store₂ : List ℕ) (v : Filled) (j : Once (ValueFilled h s n.kept table₁ table₂ store₁ store₂ v) valued) where
        value-part : ValueFilled h s n.kept table₁ table₂ store₁ store₂ v val.it val.place
        value-part = once-it (ValueFilled h s n.kept table₁ table₂ store₁ store₂ v) valued val.it val.place valued-is j

        row_keeps : Keeps h s k (adds_item names row) table table₂ store store₂ v.kept
        unfolding adds_item adds_name counted_name
        row_keeps =
            let e : adds_value n.kept.names val.it ≡ others = ap (λ (m : ℕ). adds_value m val.it) more in
            keeps-both h s k n.kept v.kept these others table table₁ table₂ store store₁ store₂ (adds_ref-in (length s) names names ref.it ref-fits) name-part.keeps
            (rw (← e) value-part.keeps)

        name-words : words_of n.words ≡ ref_words (pooled_in h) h.base table₂ ref.it
        name-words =
            name-part.said
            ∙ sym (ap (λ (x : List ℕ). ref_words (pooled_in h) h.base x ref.it) value-part.keeps.table_is
            ∙ ref-later (pooled_in h) h.base (length s) table₁ (kept_pairs h n.kept.used (adds_value n.kept.names val.it)) n.kept.names names
            (omega (arith, name-part.keeps.names-are)) ref.it ref-fits)

        pub row-filled : (rows rows₁ : List ℕ) (to t' : ℕ) (a : Ahead) → t' ≡ type_of t → rows₁ ≡ sets rows to (Token.attribute ∷ (words_of n.words ++ (t' ∷ words_of v.words)))
            → a.next ≡ v.next → a.kept ≡ v.kept → Once (RowFilled h s k table table₂ store store₂ rows rows₁ to a) (attribute always names s at)
        unfolding item_words name_words
        row-filled rows rows₁ to t' a d e p q =
            once-got (RowFilled h s k table table₂ store store₂ rows rows₁ to a) (attribute always names s at) row val.place row_is
            (record {
              keeps = rw q row_keeps;
              stored = e ∙ row_words rows to Token.attribute t' (type_of type) _ _ _ _ name-words (d ∙ ap type_of y) value-part.said;
              moved = p ∙ value-part.moved;
            })

-- ---- the event's own row

-- a command that is none of a document and no tag's
pub no-tag : (n : ℕ) (c : Command) → IsCommand n c → (c ≡ C.StartDocument → ⊥) → (c ≡ C.EndDocument → ⊥) → (c ≡ C.StartTag → ⊥) → (c ≡ C.EndTag → ⊥) → Token.text ≤ n
no-tag n C.StartDocument i a b d e = absurd (a refl)
no-tag n C.EndDocument i a b d e = absurd (b refl)
no-tag n C.StartTag i a b d e = absurd (d refl)
no-tag n C.EndTag i a b d e = absurd (e refl)
no-tag n C.Text i a b d e = omega arith
no-tag n C.Cdata i a b d e = omega arith
no-tag n C.EntityRef i a b d e = omega arith
no-tag n C.IgnorableWhitespace i a b d e = omega arith
no-tag n C.ProcessingInstruction i a b d e = omega arith
no-tag n C.Comment i a b d e = omega arith
no-tag n C.DocDecl i a b d e = omega arith
no-tag n C.Attribute i a b d e = omega arith
no-tag n (C.Unknown m) i a b d e = omega arith

module _ (h : Home) (s : List ℕ) (k : Kept) (table store : List ℕ) (w : Within s 1 h.base) (kind : ℕ) (q : kind ≡ Token.command (get_or s 0 0))
    (g : Has (λ i. Room h k (adds_item k.names i) table store) (first always k.names s 0)) where
  abbrev own : Read Item
  own = first always k.names s 0

  abbrev Roomy : Item → Type 0
  Roomy i = Room h k (adds_item k.names i) table store

  stands : 0 < length s
  stands = omega (arith, w.inside)

  -- a row that has no name
  module _ (rows rows₁ : List ℕ) (a : Ahead) (n v : List ℕ) where
    nameless : (i : Item) → own ≡ got i a.next → adds_item k.names i ≡ [] → a.kept ≡ k → rows₁ ≡ sets rows 0 (i.kind ∷ (n ++ (type_of i.type ∷ v)))
        → n ≡ name_words (pooled_in h) h.base table i.name → v ≡ value_words (pooled_in h) h.base table i.value → Once (RowFilled h s k table table store store rows rows₁ 0 a) own
    unfolding item_words
    nameless i e f c d x y =
        once-got (RowFilled h s k table table store store rows rows₁ 0 a) own i a.next e
        (record { keeps = rw (f, c) (keeps-none h s k table store); stored = d ∙ row_words rows 0 i.kind (type_of i.type) _ _ _ _ _ x refl y; moved = refl })

    module _ (x : n ≡ 0 ∷ 0 ∷ 0 ∷ []) where
      pub bare-filled : kind < Token.start_tag → v ≡ 0 ∷ 0 ∷ 0 ∷ [] → a.next ≡ 1 → a.kept ≡ k → rows₁ ≡ sets rows 0 (kind ∷ (n ++ (0 ∷ v)))
          → Once (RowFilled h s k table table store store rows rows₁ 0 a) own
      unfolding adds_item adds_name adds_value counted_name name_words value_words type_of
      bare-filled b y m c d =
          nameless (record { kind = kind; name = none; type = 0; value = Value.nothing }) (rw m (first-bare always k.names s stands kind q b)) refl c d x y

      module _ (b : Token.start_tag ≤ kind) (f : Token.text ≤ kind) where
        textual : kind ≤ Token.doc_decl
        textual =
            by_test (ltb Token.doc_decl kind)
            (λ z. absurd (rw (first-other always k.names s stands kind q b f (ltb-true _ _ z)) at g)) (λ z. ltb-false _ _ z)

        pub textless-filled : (Token.type (get_or s 0 0) ≡ Token.string → ⊥) → v ≡ 0 ∷ 0 ∷ 0 ∷ [] → a.next ≡ 1 → a.kept ≡ k
            → rows₁ ≡ sets rows 0 (kind ∷ (n ++ (Token.string ∷ v))) → Once (RowFilled h s k table table store store rows rows₁ 0 a) own
        unfolding adds_item adds_name adds_value counted_name name_words value_words type_of
        textless-filled z y m c d =
            nameless (record { kind = kind; name = none; type = Token.string; value = Value.empty }) (rw m (first-textless always k.names s stands kind q b f textual z)) refl c d x y

        module _ (z : Token.type (get_or s 0 0) ≡ Token.string) where
          string-got : Got (string s 1)
          string-got = text-string always k.names s stands kind q b f textual z (has-got Roomy own g)

          pub text-asks : Has (λ (t : Span). Unit {0}) (blob s 1)
          text-asks = it-has (λ (t : Span). Unit {0}) (blob s 1) string-got.it string-got.place (string-blob s 1 string-got ∙ string-got.is) tt

          pub text-filled : (t : Filled) → Once (SpanFilled h.base k t) (blob s 1) → v ≡ words_of t.words → a.next ≡ t.next → a.kept ≡ k
              → rows₁ ≡ sets rows 0 (kind ∷ (n ++ (Token.string ∷ v))) → Once (RowFilled h s k table table store store rows rows₁ 0 a) own
          unfolding adds_item adds_name adds_value counted_name name_words value_words span_words type_of
          text-filled t o y m c d =
              let p = once-it (SpanFilled h.base k t) (blob s 1) string-got.it string-got.place (string-blob s 1 string-got ∙ string-got.is) o in
              let i : Item = record { kind = kind; name = none; type = Token.string; value = Value.span string-got.it } in
              nameless i (first-text always k.names s stands kind q b f textual z ∙ ap (as_text_row kind) string-got.is ∙ ap (got i) (sym (m ∙ p.moved))) refl c d x (y ∙ p.said)

  -- a tag
  module _ (b : Token.start_tag ≤ kind) (f : kind < Token.text) where
    tag : Got (name always k.names s 1)
    tag = tag-name always k.names s stands kind q b f (has-got Roomy own g)

    abbrev tagged : Item
    tagged = record { kind = kind; name = some tag.it; type = 0; value = Value.nothing }

    tagged_is : own ≡ got tagged tag.place
    tagged_is = first-tag always k.names s stands kind q b f ∙ ap (as_tag kind) tag.is

    adds-tag : adds_item k.names tagged ≡ adds_ref k.names tag.it
    unfolding adds_item adds_name adds_value
    adds-tag = append-nil (adds_ref k.names tag.it)

    pub tag-asks : Has (λ r. Room h k (adds_ref k.names r) table store) (name always k.names s 1)
    tag-asks =
        it-has (λ r. Room h k (adds_ref k.names r) table store) (name always k.names s 1) tag.it tag.place tag.is
        (rw (← adds-tag) (has-it Roomy own tagged tag.place tagged_is g))

    pub tag-filled : (table₁ store₁ rows rows₁ : List ℕ) (n : Filled) (a : Ahead) (v : List ℕ) → Once (RefFilled h s k table table₁ store store₁ n) (name always k.names s 1)
        → v ≡ 0 ∷ 0 ∷ 0 ∷ [] → a.next ≡ n.next → a.kept ≡ n.kept → rows₁ ≡ sets rows 0 (kind ∷ (words_of n.words ++ (0 ∷ v)))
        → Once (RowFilled h s k table table₁ store store₁ rows rows₁ 0 a) own
    unfolding item_words name_words value_words type_of
    tag-filled table₁ store₁ rows rows₁ n a v o y m c d =
        let p = once-it (RefFilled h s k table table₁ store store₁ n) (name always k.names s 1) tag.it tag.place tag.is o in
        once-got (RowFilled h s k table table₁ store store₁ rows rows₁ 0 a) own tagged tag.place tagged_is
        (record { keeps = rw (adds-tag, c) p.keeps; stored = d ∙ row_words rows 0 kind 0 0 _ _ _ _ p.said refl y; moved = m ∙ p.moved })
