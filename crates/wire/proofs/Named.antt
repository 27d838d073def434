-- A named refusal is told by its number and detail: no other refusal has both.
use Rattle.std.proofs.Common.{ℕ, ◌-◌, List, [], ◌∷◌, get_or, ◌≡◌, refl, sym, ◌∙◌, true}
use Rattle.std.proofs.Math.Bool.{false≢true}
use Rattle.wire.specs.Refusal.{is_named}
use Rattle.wire.specs.Answers.{number_of, detail_of}
use Rattle.wire.specs.declared.Refusal.{Refusal}
use Rattle.wire.specs.declared.Refusal.TheVariants as R

-- in the order of their numbers, with this detail where they carry one
abbrev pub by_number : ℕ → List Refusal
by_number detail =
    R.HeaderShort ∷ R.InvalidMagic detail ∷ R.UnexpectedEof ∷ R.StringShort ∷ R.BytesShort ∷ R.BadInternedIndex detail ∷ R.InvalidUtf8
    ∷ R.UnknownAttributeType detail ∷ R.UnknownCommand detail ∷ R.RowsFull ∷ R.PoolFull ∷ R.NamesFull ∷ R.WindowFull ∷ R.ValueTooLong detail
    ∷ R.OutputFull ∷ R.NotRows ∷ R.BadSize ∷ R.AlreadyFinished ∷ R.BadState ∷ R.IllegalChar ∷ R.PartMissing ∷ R.NoSuchVersion ∷ R.StoreFull
    ∷ R.ExerciseTooLong ∷ R.CallerLimit ∷ R.BadTokenTable ∷ R.BadSignOn ∷ R.BadTolerance ∷ R.BadIdleLimit ∷ R.BadUse ∷ []

pub named-is : (r : Refusal) → is_named (number_of r) (detail_of r) ≡ true → r ≡ get_or (by_number (detail_of r)) (number_of r - 1) R.BadUse
named-is R.HeaderShort e = refl
named-is (R.InvalidMagic found) e = refl
named-is R.UnexpectedEof e = refl
named-is R.StringShort e = refl
named-is R.BytesShort e = refl
named-is (R.BadInternedIndex index) e = refl
named-is R.InvalidUtf8 e = refl
named-is (R.UnknownAttributeType type) e = refl
named-is (R.UnknownCommand command) e = refl
named-is R.RowsFull e = refl
named-is R.PoolFull e = refl
named-is R.NamesFull e = refl
named-is R.WindowFull e = refl
named-is (R.ValueTooLong len) e = refl
named-is R.OutputFull e = refl
named-is R.NotRows e = refl
named-is R.BadSize e = refl
named-is R.AlreadyFinished e = refl
named-is R.BadState e = refl
named-is R.IllegalChar e = refl
named-is R.PartMissing e = refl
named-is R.NoSuchVersion e = refl
named-is R.StoreFull e = refl
named-is R.ExerciseTooLong e = refl
named-is R.CallerLimit e = refl
named-is R.BadTokenTable e = refl
named-is R.BadSignOn e = refl
named-is R.BadTolerance e = refl
named-is R.BadIdleLimit e = refl
named-is R.BadUse e = refl
named-is (R.Other other) e = absurd (false≢true (sym other.unnamed ∙ e))
