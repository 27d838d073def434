-- Text put into an output from a place on, as far as there is room.
use Rattle.std.specs.Prelude.{List, ◌≡◌, ℕ, ◌+◌, min, length}
use Rattle.std.proofs.lemmas.List.Edits.{sets}

-- the place after so many bytes, or the limit where they pass it
unfoldable pub after : ℕ → ℕ → ℕ → ℕ
after limit at n = min limit (at + n)

-- what is left of an output l, and the place after the text, or the output's end
pub record Put (l : List ℕ) (at : ℕ) (t l' : List ℕ) (end : ℕ) : Type 0 where
  pub text : l' ≡ sets l at t
  pub place : end ≡ after (length l) at (length t)
