use Rattle.std.proofs.Common.{List, ◌≡◌, refl, sym, ◌∙◌, ℕ, ◌+◌, ◌≤◌, ◌&&◌, eqb, length, take, drop, arith, eq-eqb, ne_eqb}
use Rattle.equal_bytes.proofs.Turns.{same-lengths, word-turn}
use Rattle.event.specs.Span.{same}
use Rattle.equal_bytes.specs.Word.{word_of, Bytes}
use Rattle.equal_bytes.proofs.same_bytes.Goals as goal

pub returns-then-a-b : goal.returns-then-a-b
returns-then-a-b c = sym (same-lengths _ _ c.if-a-b.true)

pub loop-i-init : goal.loop-i-init
loop-i-init c = (omega arith, refl)

pub overflow_sub-a : goal.overflow_sub-a
overflow_sub-a c = c.loop-i.invariant.0

-- the words that the code compares
turn : (a b : List ℕ) (i p q : ℕ) → Bytes a → Bytes b → i + 8 ≤ length a → i + 8 ≤ length b
    → p ≡ word_of (take 8 (drop i a)) → q ≡ word_of (take 8 (drop i b))
    → same (drop i a) (drop i b) ≡ (eqb p q && same (drop (i + 8) a) (drop (i + 8) b))
turn a b i p q bytes-a bytes-b ha hb ep eq = rw (ep, eq) (word-turn a b i bytes-a bytes-b ha hb)

pub returns-then-word_at : goal.returns-then-word_at
returns-then-word_at c =
    let l = c.loop-i in
    let t = turn c.args.a.now c.args.b.now l.i _ _ (λ i. omega (arith, c.type_inv.a i)) (λ i. omega (arith, c.type_inv.b i)) (omega arith) (omega arith) c.word_at.ensures c.word_at-in-loop-i.ensures in
    sym (sym l.invariant.1 ∙ t ∙ rw (ne_eqb _ _ c.if-word_at.true))

pub loop-i-preserved : goal.loop-i-preserved
loop-i-preserved c =
    let l = c.loop-i in
    let t = turn c.args.a.now c.args.b.now l.i _ _ (λ i. omega (arith, c.type_inv.a i)) (λ i. omega (arith, c.type_inv.b i)) (omega arith) (omega arith) c.word_at.ensures c.word_at-in-loop-i.ensures in
    (omega arith, sym (rw (eq-eqb _ _ c.if-word_at.false) at t) ∙ l.invariant.1)

pub same_rest-requires : goal.same_rest-requires
same_rest-requires c = (c.if-a-b.false, c.loop-i.invariant.0)

pub returns : goal.returns
returns c = c.same_rest.ensures ∙ c.loop-i.invariant.1
