-- The rule of the built-in table, at every entry: the command is the token's remainder by 16, the type its quotient.
use Rattle.std.specs.Prelude.{◌≡◌, ℕ, zero, suc, ◌+◌, ◌*◌, ◌/◌, ◌%◌, ◌<◌, get_or}
use Rattle.std.proofs.Common.{sym, ap, ◌∙◌, add-zero, zero-add, add-suc, suc-add, le_of_suc-le-suc, not-suc-le-zero, arith}
use Rattle.wire.specs.Token.{command, type, command_in, type_in, entries, built_in}

abbrev entry : ℕ → ℕ
entry token = type token * 256 + command token

entry_at : (token n k : ℕ) → k < n → get_or (entries token n) k 0 ≡ entry (token + k)
unfolding entries
entry_at token zero k h = absurd (not-suc-le-zero h)
entry_at token (suc n) zero h = ap entry (sym (add-zero token))
entry_at token (suc n) (suc k) h = entry_at (suc token) n k (le_of_suc-le-suc h) ∙ ap entry (suc-add token k ∙ sym (add-suc token k))

built_in_lem : (token : ℕ) → token < 256 → get_or built_in token 0 ≡ entry token
unfolding built_in
built_in_lem token h = entry_at 0 256 token h ∙ ap entry (zero-add token)

-- the two bytes of an entry
low : (q r : ℕ) → r < 16 → (q * 256 + r) % 256 ≡ r
low q r h = omega arith

high : (q r : ℕ) → q < 16 → r < 16 → (q * 256 + r) / 256 % 256 ≡ q
high q r h k =
    let e : (q * 256 + r) / 256 ≡ q = omega arith in
    rw e (omega arith)

pub command-rule : (token : ℕ) → token < 256 → command_in built_in token ≡ command token
unfolding command_in command type
command-rule token h = rw (built_in_lem token h) (low (token / 16) (token % 16) (omega arith))

pub type-rule : (token : ℕ) → token < 256 → type_in built_in token ≡ type token
unfolding type_in command type
type-rule token h = rw (built_in_lem token h) (high (token / 16) (token % 16) (omega arith) (omega arith))
