-- Readers: what reading at a place of a list of bytes gives. A grammar is written by putting readers in a row.
use Rattle.std.specs.Prelude.{List, ℕ}

-- a value and the place after it; or the input ends inside what is read, with the number of the refusal where
-- no more will come; or a refusal, with its number and detail
pub data Read (A : Type 0) : Type 0 where
  got : A → ℕ → Read A
  short : ℕ → Read A
  refused : ℕ → ℕ → Read A

abbrev pub Reader : Type 0 → Type 0
Reader A = List ℕ → ℕ → Read A

abbrev pub next : {A B : Type 0} → Read A → (A → ℕ → Read B) → Read B
next (got a n) k = k a n
next (short k) _ = short k
next (refused n d) _ = refused n d

infixl 20 ◌>>=◌
abbrev pub ◌>>=◌ : {A B : Type 0} → Reader A → (A → Reader B) → Reader B
◌>>=◌ r k s at = next (r s at) (λ a n. k a s n)

abbrev pub give : {A : Type 0} → A → Reader A
give a s at = got a at

abbrev pub refuse : {A : Type 0} → ℕ → ℕ → Reader A
refuse n d s at = refused n d
