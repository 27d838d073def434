-- What was read whole is read alike by a reader that takes every entry of the pool for sound.
use Rattle.std.specs.Prelude.{Bool, true, false, cond, List, ◌≡◌, refl, ℕ, zero, suc, ◌+◌, ◌≤◌, ◌<◌, ltb, leb, eqb, length}
use Rattle.std.proofs.Math.Option.{none, some}
use Rattle.std.proofs.Common.{sym, ap, ◌∙◌, arith, eqb-true}
use Rattle.std.proofs.lemmas.Bool.{eqb-false}
use Rattle.wire.specs.Token as Token
use Rattle.wire.specs.Token.{command, interned_new}
use Rattle.wire.specs.Refusal.{bad_state, bad_interned_index, unknown_command}
use Rattle.event.specs.Row.{shape}
use Rattle.event.specs.declared.Shape.{Shape}
use Rattle.grammar.proofs.Choice.{by_test}
use Rattle.grammar.specs.Reader.{Reader, got, ◌>>=◌, give, refuse}
use Rattle.grammar.specs.Grammar.{Ref, new, known, Value, Item, item, counted, after, byte, u16, string, name, shaped, value, attribute, first, event}
use Rattle.grammar.proofs.Binds.{bind-got, first-got}
use Rattle.grammar.specs.Turn.{rest}
use Rattle.grammar.specs.Attributes.{is_attribute}
use Rattle.grammar.specs.Endings.{Ended}
use Rattle.grammar.proofs.Attributes.{stands, turn_end, turn-row, own-tag, own-single, attribute-before, own-before}
use Rattle.grammar.specs.Trusted.{always}

-- what the one reads, the other reads
record Within {A : Type 0} (r r' : Reader A) : Type 0 where
  pub law : (s : List ℕ) (at : ℕ) (a : A) (n : ℕ) → r s at ≡ got a n → r' s at ≡ got a n

within_same : {A : Type 0} (r : Reader A) → Within r r
within_same r = record { law = λ s at a n e. e }

within-bind : {A B : Type 0} (r r' : Reader A) (k k' : A → Reader B) → Within r r' → ((a : A) → Within (k a) (k' a)) → Within (r >>= k) (r' >>= k')
within-bind r r' k k' w v = record {
  law = λ s at b m e.
      let g = first-got r k s at (record { it = b; place = m; is = e }) in
      bind-got r' k' s at g.it g.place (w.law s at g.it g.place g.is)
      ∙ (v g.it).law s g.place b m (sym (bind-got r k s at g.it g.place g.is) ∙ e);
}

within-cond : {A : Type 0} (b : Bool) (x x' y y' : Reader A) → Within x x' → Within y y' → Within (cond b x y) (cond b x' y')
within-cond b x x' y y' w v = by_test b (λ e. rw e w) (λ e. rw e v)

module _ (S : ℕ → Bool) where
  within-entry : (i : ℕ) → Within (cond (S i) (give (known i)) (refuse bad_state 0)) (give (known i))
  within-entry i = by_test (S i) (λ e. rw e (within_same (give (known i)))) (λ e. rw e (record { law = λ s at a n z. no s at a n z }))
    where
      no : (s : List ℕ) (at : ℕ) (a : Ref) (n : ℕ) → refuse bad_state 0 s at ≡ got a n → give (known i) s at ≡ got a n
      no s at a n z = let y : ◌≡◌ {A = ℕ} 0 1 = cc z in absurd (omega arith)

  within-name : (names : ℕ) → Within (name S names) (name always names)
  unfolding name
  within-name names =
      within-bind u16 u16 _ _ (within_same u16) (λ i.
      within-cond (eqb i interned_new) _ _ _ _ (within_same (string >>= (λ t. give (new t))))
      (within-cond (ltb i names) _ _ _ _ (within-entry i) (within_same (refuse bad_interned_index i))))

  within-shaped : (names type : ℕ) (h : Shape) → Within (shaped S names type h) (shaped always names type h)
  unfolding shaped
  within-shaped names type Shape.Nothing = within_same _
  within-shaped names type Shape.String = within_same _
  within-shaped names type Shape.Interned = within-bind (name S names) (name always names) _ _ (within-name names) (λ r. within_same (give (Value.interned r)))
  within-shaped names type Shape.Blob = within_same _
  within-shaped names type Shape.Word = within_same _
  within-shaped names type Shape.Pair = within_same _
  within-shaped names type Shape.Unknown = within_same _

  within-attribute : (names : ℕ) → Within (attribute S names) (attribute always names)
  unfolding attribute value
  within-attribute names =
      within-bind byte byte _ _ (within_same byte) (λ t.
      within-bind (name S names) (name always names) _ _ (within-name names) (λ r.
      within-bind (shaped S (counted names r) (Token.type t) (shape (Token.type t))) (shaped always (counted names r) (Token.type t) (shape (Token.type t))) _ _
      (within-shaped (counted names r) (Token.type t) (shape (Token.type t)))
      (λ v. within_same (give (record { kind = Token.attribute; name = some r; type = Token.type t; value = v })))))

  -- the other events
  abbrev textual : ℕ → Reader Item
  textual t =
      cond (leb (command t) Token.doc_decl)
      (cond (eqb (Token.type t) Token.string) (string >>= (λ x. give (record { kind = command t; name = none; type = Token.string; value = Value.span x })))
      (give (record { kind = command t; name = none; type = Token.string; value = Value.empty })))
      (refuse unknown_command (command t))

  within_first : (names : ℕ) → Within (first S names) (first always names)
  unfolding first
  within_first names =
      within-bind byte byte _ _ (within_same byte) (λ t.
      within-cond (ltb (command t) Token.start_tag) _ _ _ _ (within_same (give (record { kind = command t; name = none; type = 0; value = Value.nothing })))
      (within-cond (ltb (command t) Token.text) _ _ _ _
      (within-bind (name S names) (name always names) _ _ (within-name names) (λ r. within_same (give (record { kind = command t; name = some r; type = 0; value = Value.nothing }))))
      (within_same (textual t))))

  module _ (s : List ℕ) where
    trusted-end : (names at : ℕ) → is_attribute s at ≡ false → rest S s names at ≡ rest always s names at
    trusted-end names at b =
        turn_end (λ is. rest S s names at ≡ is) S s names at refl b ∙ sym (turn_end (λ is. rest always s names at ≡ is) always s names at refl b)

    trusted-more : (names at : ℕ) → Ended (rest S s names at) → is_attribute s at ≡ true
        → ((m n : ℕ) → at < n → Ended (rest S s m n) → rest S s m n ≡ rest always s m n) → rest S s names at ≡ rest always s names at
    trusted-more names at w b later =
        let g = attribute-before S s names at w b in
        let t = turn-row (λ is. rest S s names at ≡ is) S s names at refl b g.it g.place g.is in
        let t' = turn-row (λ is. rest always s names at ≡ is) always s names at refl b g.it g.place ((within-attribute names).law s at g.it g.place g.is) in
        let w' : Ended (item g.it (rest S s (after names g.it) g.place)) = rw t.left at w in
        t.left ∙ ap (item g.it) (later (after names g.it) g.place t.moves w') ∙ sym t'.left

    trusted-by : (k names at : ℕ) → length s ≤ at + k → Ended (rest S s names at) → rest S s names at ≡ rest always s names at
    trusted-by zero names at h w = by_test (is_attribute s at) (λ b. absurd (omega (arith, h, (stands s at b).0))) (λ b. trusted-end names at b)
    trusted-by (suc k) names at h w =
        by_test (is_attribute s at) (λ b. trusted-more names at w b (λ m n l v. trusted-by k m n (omega (arith, h, l)) v)) (λ b. trusted-end names at b)

    pub trusted-rest : (names at : ℕ) → Ended (rest S s names at) → rest S s names at ≡ rest always s names at
    trusted-rest names at w = trusted-by (length s) names at (omega arith) w

    pub trusted-event : (names : ℕ) → Ended (event S names s) → event S names s ≡ event always names s
    trusted-event names w =
        let g = own-before S s names w in
        let e = (within_first names).law s 0 g.it g.place g.is in
        by_test (eqb g.it.kind Token.start_tag)
        (λ b. let t = own-tag (λ is. event S names s ≡ is) S s names refl g.it g.place g.is (eqb-true _ _ b) in
        let t' = own-tag (λ is. event always names s ≡ is) always s names refl g.it g.place e (eqb-true _ _ b) in
        let w' : Ended (item g.it (rest S s (after names g.it) g.place)) = rw t at w in
        t ∙ ap (item g.it) (trusted-rest (after names g.it) g.place w') ∙ sym t')
        (λ b. own-single (λ is. event S names s ≡ is) S s names refl g.it g.place g.is (eqb-false _ _ b)
        ∙ sym (own-single (λ is. event always names s ≡ is) always s names refl g.it g.place e (eqb-false _ _ b)))
