-- Places and texts one after another.
use Rattle.std.specs.Prelude.{List, [], ◌++◌, ◌≡◌, refl, ℕ, ◌+◌, ◌≤◌, ◌<◌, length, leb}
use Rattle.std.proofs.Common.{sym, ap, ◌∙◌, arith, length-append, leb-true, leb-false}
use Rattle.std.proofs.lemmas.List.Edits.{sets}
use Rattle.std.proofs.Math.Seq.{length-sets}
use Rattle.grammar.proofs.Choice.{by_test}
use Rattle.grammar.proofs.Stores.{sets-append}
use Rattle.byte_copy.specs.Sets.{sets-past}
use Rattle.text.specs.Put.{after, Put}

pub after-within : (limit at n : ℕ) → at + n ≤ limit → after limit at n ≡ at + n
unfolding after
after-within limit at n h = omega arith

pub after-past : (limit at n : ℕ) → limit ≤ at + n → after limit at n ≡ limit
unfolding after
after-past limit at n h = omega arith

-- two runs of bytes
pub after-after : (limit at m n : ℕ) → after limit (after limit at m) n ≡ after limit at (m + n)
unfolding after
after-after limit at m n = omega arith

-- no text
pub put-none : (l : List ℕ) (at end : ℕ) → end ≡ after (length l) at 0 → Put l at [] l end
put-none l at end e = record { text = refl; place = e }

-- a text and one after it; where the first does not fit, nothing is put after it
pub put_both : (l : List ℕ) (at : ℕ) (a b l₁ l₂ : List ℕ) (e₁ e₂ : ℕ) → Put l at a l₁ e₁ → Put l₁ e₁ b l₂ e₂ → Put l at (a ++ b) l₂ e₂
put_both l at a b l₁ l₂ e₁ e₂ p q =
    let len : length l₁ ≡ length l = ap length p.text ∙ length-sets l at a in
    record {
      text =
          by_test (leb (at + length a) (length l))
          (λ h.
          q.text
          ∙ ap (λ (x : List ℕ). sets x e₁ b) p.text
          ∙ ap (λ (k : ℕ). sets (sets l at a) k b) (p.place ∙ after-within (length l) at (length a) (leb-true (at + length a) (length l) h))
          ∙ sym (sets-append l at a b))
          (λ h. let past : length l < at + length a = leb-false (at + length a) (length l) h in
          q.text
          ∙ sets-past l₁ b e₁ (rw (len, p.place, after-past (length l) at (length a) (omega arith)) (omega arith))
          ∙ p.text
          ∙ sym (sets-append l at a b ∙ sets-past (sets l at a) b (at + length a) (omega (arith, length-sets l at a))));
      place =
          q.place
          ∙ ap (λ (n : ℕ). after n e₁ (length b)) len
          ∙ ap (λ (k : ℕ). after (length l) k (length b)) p.place
          ∙ after-after (length l) at (length a) (length b)
          ∙ ap (λ (n : ℕ). after (length l) at n) (sym (length-append a b));
    }
