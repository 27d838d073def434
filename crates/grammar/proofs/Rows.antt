-- An attribute, by what its name gave.
use Rattle.std.specs.Prelude.{Bool, List, [], ◌≡◌, refl, ℕ, ◌+◌, ◌-◌, ◌≤◌, ◌<◌, ltb, eqb, length, get_or}
use Rattle.std.proofs.Math.Option.{Option, none, some}
use Rattle.std.proofs.Common.{sym, ap, ◌∙◌, arith}
use borrow.Author.Tests.{ltb-true, ltb-false, eqb-true, eqb-false, lt-ltb, le-ltb, le-leb, lt-leb, eq-eqb, ne_eqb}
use Rattle.wire.specs.Token as Token
use Rattle.wire.specs.Laws.{command-rule, type-rule}
use Rattle.wire.specs.Refusal.{unexpected_eof, unknown_command}
use Rattle.grammar.proofs.Choice.{by_test}
use Rattle.grammar.specs.Reader.{Read, Reader, got, short, refused, ◌>>=◌, next, give}
use Rattle.grammar.specs.Grammar.{Span, Ref, Value, Item, byte, string, counted, name, value, attribute, first}
use Rattle.grammar.proofs.Laws.{good-name}
use Rattle.grammar.proofs.Binds.{Got, first-got, second-got, got_same}

-- ---- a row, with its value, its name or its text as it was read

abbrev pub as_attribute : Option Ref → ℕ → Read Value → Read Item
as_attribute name type r = next r (λ v n. got (record { kind = Token.attribute; name = name; type = type; value = v }) n)

abbrev pub as_tag : ℕ → Read Ref → Read Item
as_tag kind r = next r (λ name n. got (record { kind = kind; name = some name; type = 0; value = Value.nothing }) n)

abbrev pub as_text_row : ℕ → Read Span → Read Item
as_text_row kind r = next r (λ t n. got (record { kind = kind; name = none; type = Token.string; value = Value.span t }) n)

-- ---- an attribute

byte-is : (s : List ℕ) (at : ℕ) → at < length s → byte s at ≡ got (get_or s at 0) (at + 1)
unfolding byte
byte-is s at h = rw (le-ltb (length s - at) 1 (omega arith))

module _ (sound : ℕ → Bool) (names : ℕ) (s : List ℕ) where
  -- the place after a name lies in the input
  pub name-within : (at n : ℕ) (r : Ref) → at ≤ length s → name sound names s at ≡ got r n → n ≤ length s
  name-within at n r h e = (rw e at ((good-name s [] sound names).law at h)).1

  module _ (at : ℕ) (h : at < length s) where
    abbrev token : ℕ
    token = get_or s at 0

    -- what follows the name, and what follows the token
    abbrev after_name : ℕ → Ref → Reader Item
    after_name t r = value sound (counted names r) (Token.type t) >>= (λ v. give (record { kind = Token.attribute; name = some r; type = Token.type t; value = v }))

    abbrev after_token : ℕ → Reader Item
    after_token t = name sound names >>= after_name t

    pub attribute-short : (k : ℕ) → name sound names s (at + 1) ≡ short k → attribute sound names s at ≡ short k
    unfolding attribute
    attribute-short k e = rw (byte-is s at h, e)

    pub attribute-refused : (n d : ℕ) → name sound names s (at + 1) ≡ refused n d → attribute sound names s at ≡ refused n d
    unfolding attribute
    attribute-refused n d e = rw (byte-is s at h, e)

    pub attribute-is : (r : Ref) (n : ℕ) → name sound names s (at + 1) ≡ got r n
        → attribute sound names s at ≡ as_attribute (some r) (Token.type token) (value sound (counted names r) (Token.type token) s n)
    unfolding attribute
    attribute-is r n e = rw (byte-is s at h, e)

    -- where the attribute was read, its name and its value were
    past-token : Got (attribute sound names s at) → Got (after_token token s (at + 1))
    unfolding attribute
    past-token g = second-got byte after_token s at token (at + 1) (byte-is s at h) g

    pub attribute-name : Got (attribute sound names s at) → Got (name sound names s (at + 1))
    attribute-name g = first-got (name sound names) (after_name token) s (at + 1) (past-token g)

    pub attribute-value : (r : Ref) (n : ℕ) → name sound names s (at + 1) ≡ got r n → Got (attribute sound names s at)
        → Got (value sound (counted names r) (Token.type token) s n)
    attribute-value r n e g =
        first-got (value sound (counted names r) (Token.type token))
        (λ v. give (record { kind = Token.attribute; name = some r; type = Token.type token; value = v })) s n
        (second-got (name sound names) (after_name token) s (at + 1) r n e (past-token g))

-- a token's type, by the built-in table
pub type-is : (tokens : List ℕ) (token t : ℕ) → tokens ≡ Token.built_in → token < 256 → t ≡ Token.type_in tokens token → t ≡ Token.type token
type-is tokens token t e h q = q ∙ ap (λ (x : List ℕ). Token.type_in x token) e ∙ type-rule token h

pub type-small : (token t : ℕ) → token < 256 → t ≡ Token.type token → t < 256
unfolding Token.type
type-small token t h e = omega arith

pub command-is : (tokens : List ℕ) (token k : ℕ) → tokens ≡ Token.built_in → token < 256 → k ≡ Token.command_in tokens token → k ≡ Token.command token
command-is tokens token k e h q = q ∙ ap (λ (x : List ℕ). Token.command_in x token) e ∙ command-rule token h

-- ---- the event's own row, by its token's command

module _ (sound : ℕ → Bool) (names : ℕ) (s : List ℕ) where
  pub first-empty : length s ≡ 0 → first sound names s 0 ≡ short unexpected_eof
  unfolding first byte
  first-empty h = rw (lt-ltb (length s - 0) 1 (omega arith))

  module _ (h : 0 < length s) (kind : ℕ) (k : kind ≡ Token.command (get_or s 0 0)) where
    pub first-bare : kind < Token.start_tag → first sound names s 0 ≡ got (record { kind = kind; name = none; type = 0; value = Value.nothing }) 1
    unfolding first
    first-bare a = rw (byte-is s 0 h, ← k, lt-ltb kind 2 a)

    module _ (a : Token.start_tag ≤ kind) where
      pub first-tag : kind < Token.text → first sound names s 0 ≡ as_tag kind (name sound names s 1)
      unfolding first
      first-tag b = rw (byte-is s 0 h, ← k, le-ltb kind 2 a, lt-ltb kind 4 b)

      module _ (b : Token.text ≤ kind) where
        pub first-other : Token.doc_decl < kind → first sound names s 0 ≡ refused unknown_command kind
        unfolding first
        first-other c = rw (byte-is s 0 h, ← k, le-ltb kind 2 a, le-ltb kind 4 b, lt-leb kind 10 c)

        pub first-text : kind ≤ Token.doc_decl → Token.type (get_or s 0 0) ≡ Token.string → first sound names s 0 ≡ as_text_row kind (string s 1)
        unfolding first
        first-text c t = rw (byte-is s 0 h, ← k, le-ltb kind 2 a, le-ltb kind 4 b, le-leb kind 10 c, eq-eqb _ _ t)

        pub first-textless : kind ≤ Token.doc_decl → (Token.type (get_or s 0 0) ≡ Token.string → ⊥)
            → first sound names s 0 ≡ got (record { kind = kind; name = none; type = Token.string; value = Value.empty }) 1
        unfolding first
        first-textless c t = rw (byte-is s 0 h, ← k, le-ltb kind 2 a, le-ltb kind 4 b, le-leb kind 10 c, ne_eqb _ _ t)

        -- where the text was read, its string was
        pub text-string : kind ≤ Token.doc_decl → Token.type (get_or s 0 0) ≡ Token.string → Got (first sound names s 0) → Got (string s 1)
        text-string c t g =
            first-got string (λ x. give (record { kind = kind; name = none; type = Token.string; value = Value.span x })) s 1 (got_same (sym (first-text c t)) g)

      -- where the tag was read, its name was
      pub tag-name : kind < Token.text → Got (first sound names s 0) → Got (name sound names s 1)
      tag-name b g = first-got (name sound names) (λ r. give (record { kind = kind; name = some r; type = 0; value = Value.nothing })) s 1 (got_same (sym (first-tag b)) g)

-- ---- where the event's own row was read, it has the token's command, and its value is no name

abbrev pub Plain : Value → Type 0
Plain Value.nothing = Unit {0}
Plain Value.empty = Unit {0}
Plain (Value.span t) = Unit {0}
Plain (Value.interned r) = ⊥
Plain (Value.word w) = Unit {0}
Plain (Value.pair a b) = Unit {0}

module _ (kind : ℕ) where
  abbrev Fine : Read Item → Type 0
  Fine (got i n) = (i.kind ≡ kind) × Plain i.value
  Fine (short j) = Unit {0}
  Fine (refused n d) = Unit {0}

  tag-fine : (x : Read Ref) → Fine (as_tag kind x)
  tag-fine (got r n) = (refl, tt)
  tag-fine (short j) = tt
  tag-fine (refused n d) = tt

  text-fine : (x : Read Span) → Fine (as_text_row kind x)
  text-fine (got t n) = (refl, tt)
  text-fine (short j) = tt
  text-fine (refused n d) = tt

module _ (S : ℕ → Bool) (names : ℕ) (s : List ℕ) (h : 0 < length s) (kind : ℕ) (k : kind ≡ Token.command (get_or s 0 0)) where
  first_fine : Fine kind (first S names s 0)
  first_fine =
      by_test (ltb kind Token.start_tag) (λ a. rw (first-bare S names s h kind k (ltb-true _ _ a)) (refl, tt)) (λ a.
      by_test (ltb kind Token.text) (λ b. rw (first-tag S names s h kind k (ltb-false _ _ a) (ltb-true _ _ b)) (tag-fine kind (name S names s 1))) (λ b.
      by_test (ltb Token.doc_decl kind) (λ c. rw (first-other S names s h kind k (ltb-false _ _ a) (ltb-false _ _ b) (ltb-true _ _ c)) tt) (λ c.
      by_test (eqb (Token.type (get_or s 0 0)) Token.string)
      (λ d. rw (first-text S names s h kind k (ltb-false _ _ a) (ltb-false _ _ b) (ltb-false _ _ c) (eqb-true _ _ d)) (text-fine kind (string s 1)))
      (λ d. rw (first-textless S names s h kind k (ltb-false _ _ a) (ltb-false _ _ b) (ltb-false _ _ c) (eqb-false _ _ d)) (refl, tt)))))

  module _ (i : Item) (n : ℕ) (e : first S names s 0 ≡ got i n) where
    pub first_kind : i.kind ≡ kind
    first_kind = (rw e at first_fine).0

    pub first_plain : Plain i.value
    first_plain = (rw e at first_fine).1
