use Rattle.std.proofs.Common.{◌≡◌, ℕ, [], ◌∷◌, refl, sym, ap, ◌∙◌, ⊎_elim, arith}
use Rattle.event.specs.declared.Shape.TheVariants as Shape
use Rattle.grammar.specs.Grammar.{Value, u32, u64, blob, string, name, shaped}
use Rattle.grammar.specs.Scan.{adds_value}
use Rattle.grammar.proofs.Values.{as_text, value-by}
use Rattle.grammar.proofs.Again.{string-blob}
use Rattle.grammar.specs.Trusted.{always}
use Rattle.wire.specs.Header.{u32_at}
use Rattle.scanner.specs.Fill.{Room, ValueFilled}
use Rattle.scanner.proofs.Filling.{has-got, has-as, has-field, has-any, once-as, word-there, pair-there, pair-low, text-filled, name-filled, nothing-filled, word-filled, pair-filled}
use Rattle.scanner.proofs.fill.value.Goals as goal

pub text-requires : goal.text-requires
unfolding shaped
text-requires c =
    let a = c.args in
    let p = c.requires in
    record {
      within = p.within;
      has = ⊎_elim (λ (k : c.shape_of.result ≡ Shape.String).
          let e = value-by always a.kept.names a.type_ a.s.now a.at Shape.String (sym c.shape_of.ensures ∙ k) in
          let g = has-field Value.span (λ v. Room a.home a.kept (adds_value a.kept.names v) a.table.now a.store.now) (string a.s.now a.at) (has-as (λ v. Room a.home a.kept (adds_value a.kept.names v) a.table.now a.store.now) _ _ (sym e) p.has) in
          has-as _ _ _ (string-blob a.s.now a.at (has-got _ _ g)) (has-any _ (string a.s.now a.at) g))
          (λ (k : c.shape_of.result ≡ Shape.Blob).
          let e = value-by always a.kept.names a.type_ a.s.now a.at Shape.Blob (sym c.shape_of.ensures ∙ k) in
          has-any _ (blob a.s.now a.at) (has-field Value.span (λ v. Room a.home a.kept (adds_value a.kept.names v) a.table.now a.store.now) (blob a.s.now a.at) (has-as (λ v. Room a.home a.kept (adds_value a.kept.names v) a.table.now a.store.now) _ _ (sym e) p.has)))
          c.in-String.is;
    }

pub name-requires : goal.name-requires
unfolding shaped adds_value
name-requires c =
    let a = c.args in
    let p = c.requires in
    let e = value-by always a.kept.names a.type_ a.s.now a.at Shape.Interned (sym c.shape_of.ensures ∙ c.in-Interned.is) in
    record { within = p.within; has = has-field Value.interned (λ v. Room a.home a.kept (adds_value a.kept.names v) a.table.now a.store.now) (name always a.kept.names a.s.now a.at) (has-as (λ v. Room a.home a.kept (adds_value a.kept.names v) a.table.now a.store.now) _ _ (sym e) p.has) }

pub bounds-s-at : goal.bounds-s-at
bounds-s-at c =
    let a = c.args in
    omega (arith, word-there a.home a.s.now a.kept a.type_ a.at a.table.now a.store.now c.requires.has (sym c.shape_of.ensures ∙ c.in-Word.is))

pub bounds-s-at-in-Word : goal.bounds-s-at-in-Word
bounds-s-at-in-Word c =
    let a = c.args in
    omega (arith, word-there a.home a.s.now a.kept a.type_ a.at a.table.now a.store.now c.requires.has (sym c.shape_of.ensures ∙ c.in-Word.is))

pub bounds-s-at-in-Word-2 : goal.bounds-s-at-in-Word-2
bounds-s-at-in-Word-2 c =
    let a = c.args in
    omega (arith, word-there a.home a.s.now a.kept a.type_ a.at a.table.now a.store.now c.requires.has (sym c.shape_of.ensures ∙ c.in-Word.is))

pub bounds-s-at-in-Word-3 : goal.bounds-s-at-in-Word-3
bounds-s-at-in-Word-3 c =
    let a = c.args in
    omega (arith, word-there a.home a.s.now a.kept a.type_ a.at a.table.now a.store.now c.requires.has (sym c.shape_of.ensures ∙ c.in-Word.is))

pub bounds-s-at-in-Pair : goal.bounds-s-at-in-Pair
bounds-s-at-in-Pair c =
    let a = c.args in
    omega (arith, pair-there a.home a.s.now a.kept a.type_ a.at a.table.now a.store.now c.requires.has (sym c.shape_of.ensures ∙ c.in-Pair.is))

pub bounds-s-at-in-Pair-2 : goal.bounds-s-at-in-Pair-2
bounds-s-at-in-Pair-2 c =
    let a = c.args in
    omega (arith, pair-there a.home a.s.now a.kept a.type_ a.at a.table.now a.store.now c.requires.has (sym c.shape_of.ensures ∙ c.in-Pair.is))

pub bounds-s-at-in-Pair-3 : goal.bounds-s-at-in-Pair-3
bounds-s-at-in-Pair-3 c =
    let a = c.args in
    omega (arith, pair-there a.home a.s.now a.kept a.type_ a.at a.table.now a.store.now c.requires.has (sym c.shape_of.ensures ∙ c.in-Pair.is))

pub bounds-s-at-in-Pair-4 : goal.bounds-s-at-in-Pair-4
bounds-s-at-in-Pair-4 c =
    let a = c.args in
    omega (arith, pair-there a.home a.s.now a.kept a.type_ a.at a.table.now a.store.now c.requires.has (sym c.shape_of.ensures ∙ c.in-Pair.is))

pub bounds-s-at-in-Pair-5 : goal.bounds-s-at-in-Pair-5
bounds-s-at-in-Pair-5 c =
    let a = c.args in
    omega (arith, pair-there a.home a.s.now a.kept a.type_ a.at a.table.now a.store.now c.requires.has (sym c.shape_of.ensures ∙ c.in-Pair.is))

pub bounds-s-at-in-Pair-6 : goal.bounds-s-at-in-Pair-6
bounds-s-at-in-Pair-6 c =
    let a = c.args in
    omega (arith, pair-there a.home a.s.now a.kept a.type_ a.at a.table.now a.store.now c.requires.has (sym c.shape_of.ensures ∙ c.in-Pair.is))

pub bounds-s-at-in-Pair-7 : goal.bounds-s-at-in-Pair-7
bounds-s-at-in-Pair-7 c =
    let a = c.args in
    omega (arith, pair-there a.home a.s.now a.kept a.type_ a.at a.table.now a.store.now c.requires.has (sym c.shape_of.ensures ∙ c.in-Pair.is))

pub bounds-s-at-in-Pair-8 : goal.bounds-s-at-in-Pair-8
bounds-s-at-in-Pair-8 c =
    let a = c.args in
    omega (arith, pair-there a.home a.s.now a.kept a.type_ a.at a.table.now a.store.now c.requires.has (sym c.shape_of.ensures ∙ c.in-Pair.is))

pub returns-in-Nothing : goal.returns-in-Nothing
unfolding shaped
returns-in-Nothing c =
    let a = c.args in
    let p = c.requires in
    ⊎_elim (λ (k : c.shape_of.result ≡ Shape.Nothing).
    let e = value-by always a.kept.names a.type_ a.s.now a.at Shape.Nothing (sym c.shape_of.ensures ∙ k) in
    once-as (ValueFilled a.home a.s.now a.kept a.table.now _ a.store.now _ _) _ _ e (nothing-filled a.home a.s.now a.kept a.table.now a.store.now _ a.at refl refl refl))
    (λ (k : c.shape_of.result ≡ Shape.Unknown).
    let e = value-by always a.kept.names a.type_ a.s.now a.at Shape.Unknown (sym c.shape_of.ensures ∙ k) in
    absurd (has-as (λ v. Room a.home a.kept (adds_value a.kept.names v) a.table.now a.store.now) _ _ (sym e) p.has))
    c.in-Nothing.is

pub returns-in-String : goal.returns-in-String
unfolding shaped
returns-in-String c =
    let a = c.args in
    let p = c.requires in
    ⊎_elim (λ (k : c.shape_of.result ≡ Shape.String).
    let e = value-by always a.kept.names a.type_ a.s.now a.at Shape.String (sym c.shape_of.ensures ∙ k) in
    let g = has-field Value.span (λ v. Room a.home a.kept (adds_value a.kept.names v) a.table.now a.store.now) (string a.s.now a.at) (has-as (λ v. Room a.home a.kept (adds_value a.kept.names v) a.table.now a.store.now) _ _ (sym e) p.has) in
    once-as (ValueFilled a.home a.s.now a.kept a.table.now _ a.store.now _ _) _ _ (e ∙ ap as_text (sym (string-blob a.s.now a.at (has-got _ _ g)))) (text-filled a.home a.s.now a.kept a.table.now a.store.now _ (blob a.s.now a.at) c.text.ensures))
    (λ (k : c.shape_of.result ≡ Shape.Blob).
    let e = value-by always a.kept.names a.type_ a.s.now a.at Shape.Blob (sym c.shape_of.ensures ∙ k) in
    once-as (ValueFilled a.home a.s.now a.kept a.table.now _ a.store.now _ _) _ _ e (text-filled a.home a.s.now a.kept a.table.now a.store.now _ (blob a.s.now a.at) c.text.ensures))
    c.in-String.is

pub returns-in-Interned : goal.returns-in-Interned
unfolding shaped
returns-in-Interned c =
    let a = c.args in
    let e = value-by always a.kept.names a.type_ a.s.now a.at Shape.Interned (sym c.shape_of.ensures ∙ c.in-Interned.is) in
    once-as (ValueFilled a.home a.s.now a.kept a.table.now _ a.store.now _ _) _ _ e (name-filled a.home a.s.now a.kept a.table.now a.store.now _ _ _ (name always a.kept.names a.s.now a.at) c.name.ensures)

pub returns-in-Word : goal.returns-in-Word
unfolding shaped u32_at
returns-in-Word c =
    let a = c.args in
    let p = c.requires in
    let e = value-by always a.kept.names a.type_ a.s.now a.at Shape.Word (sym c.shape_of.ensures ∙ c.in-Word.is) in
    once-as (ValueFilled a.home a.s.now a.kept a.table.now _ a.store.now _ _) _ _ e (word-filled a.home a.s.now a.kept a.table.now a.store.now _ a.at (has-got _ _ (has-field Value.word (λ v. Room a.home a.kept (adds_value a.kept.names v) a.table.now a.store.now) (u32 a.s.now a.at) (has-as (λ v. Room a.home a.kept (adds_value a.kept.names v) a.table.now a.store.now) _ _ (sym e) p.has))) refl (ap (λ (x : ℕ). 0 ∷ 0 ∷ x ∷ []) c.be32.ensures) refl)

pub returns-in-Pair : goal.returns-in-Pair
unfolding shaped u32_at
returns-in-Pair c =
    let a = c.args in
    let p = c.requires in
    let e = value-by always a.kept.names a.type_ a.s.now a.at Shape.Pair (sym c.shape_of.ensures ∙ c.in-Pair.is) in
    once-as (ValueFilled a.home a.s.now a.kept a.table.now _ a.store.now _ _) _ _ e (pair-filled a.home a.s.now a.kept a.table.now a.store.now _ a.at (has-got _ _ (has-field (λ w. Value.pair w.0 w.1) (λ v. Room a.home a.kept (adds_value a.kept.names v) a.table.now a.store.now) (u64 a.s.now a.at) (has-as (λ v. Room a.home a.kept (adds_value a.kept.names v) a.table.now a.store.now) _ _ (sym e) p.has))) refl (ap (λ (x : ℕ). 0 ∷ x ∷ c.be32-in-Pair-2.result ∷ []) c.be32-in-Pair.ensures ∙ ap (λ (x : ℕ). 0 ∷ u32_at a.s.now a.at ∷ x ∷ []) (pair-low a.s.now a.at _ c.be32-in-Pair-2.ensures)) refl)
