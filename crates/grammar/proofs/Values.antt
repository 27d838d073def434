-- A value, by the shape of its type.
use Rattle.std.specs.Prelude.{Bool, List, ◌≡◌, ℕ}
use Rattle.std.proofs.Math.Path.{sym}
use Rattle.std.proofs.Common.{◌∙◌}
use Rattle.event.specs.Row.{shape}
use Rattle.event.specs.declared.Shape.{Shape}
use Rattle.grammar.specs.Reader.{Read, got, next, give}
use Rattle.grammar.specs.Grammar.{Span, Ref, Value, span, string, shaped, value}
use Rattle.grammar.proofs.Binds.{Got, first-got}

-- ---- a value, as its field was read

abbrev pub as_text : Read Span → Read Value
as_text r = next r (λ t n. got (Value.span t) n)

abbrev pub as_interned : Read Ref → Read Value
as_interned r = next r (λ t n. got (Value.interned t) n)

abbrev pub as_word : Read ℕ → Read Value
as_word r = next r (λ w n. got (Value.word w) n)

abbrev pub as_pair : Read (ℕ × ℕ) → Read Value
as_pair r = next r (λ w n. got (Value.pair w.0 w.1) n)

-- ---- by the shape

module _ (sound : ℕ → Bool) (names type : ℕ) (s : List ℕ) (at : ℕ) where
  pub value-by : (h : Shape) → shape type ≡ h → value sound names type s at ≡ shaped sound names type h s at
  unfolding value
  value-by h e = rw e

  -- where the value was read, its string was
  pub value-string : shape type ≡ Shape.String → Got (value sound names type s at) → Got (string s at)
  unfolding shaped
  value-string e g = first-got string (λ t. give (span t)) s at (record { it = g.it; place = g.place; is = sym (value-by Shape.String e) ∙ g.is })
