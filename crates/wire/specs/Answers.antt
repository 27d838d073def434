-- What a refusal says: its number, and a detail, which is 0 where none is named.
use Rattle.std.specs.Prelude.{ℕ}
use Rattle.wire.specs.Refusal as Named
use Rattle.wire.specs.declared.Refusal.{Refusal}
use Rattle.wire.specs.declared.Refusal.TheVariants as R

abbrev pub number_of : Refusal → ℕ
number_of R.HeaderShort = Named.header_short
number_of (R.InvalidMagic _) = Named.invalid_magic
number_of R.UnexpectedEof = Named.unexpected_eof
number_of R.StringShort = Named.string_short
number_of R.BytesShort = Named.bytes_short
number_of (R.BadInternedIndex _) = Named.bad_interned_index
number_of R.InvalidUtf8 = Named.invalid_utf8
number_of (R.UnknownAttributeType _) = Named.unknown_attribute_type
number_of (R.UnknownCommand _) = Named.unknown_command
number_of R.RowsFull = Named.rows_full
number_of R.PoolFull = Named.pool_full
number_of R.NamesFull = Named.names_full
number_of R.WindowFull = Named.window_full
number_of (R.ValueTooLong _) = Named.value_too_long
number_of R.OutputFull = Named.output_full
number_of R.NotRows = Named.not_rows
number_of R.BadSize = Named.bad_size
number_of R.AlreadyFinished = Named.already_finished
number_of R.BadState = Named.bad_state
number_of R.IllegalChar = Named.illegal_char
number_of R.PartMissing = Named.part_missing
number_of R.NoSuchVersion = Named.no_such_version
number_of R.StoreFull = Named.store_full
number_of R.ExerciseTooLong = Named.exercise_too_long
number_of R.CallerLimit = Named.caller_limit
number_of R.BadTokenTable = Named.bad_token_table
number_of R.BadSignOn = Named.bad_sign_on
number_of R.BadTolerance = Named.bad_tolerance
number_of R.BadIdleLimit = Named.bad_idle_limit
number_of R.BadUse = Named.bad_use
number_of (R.Other other) = other.number

abbrev pub detail_of : Refusal → ℕ
detail_of (R.InvalidMagic found) = found
detail_of (R.BadInternedIndex index) = index
detail_of (R.UnknownAttributeType type) = type
detail_of (R.UnknownCommand command) = command
detail_of (R.ValueTooLong len) = len
detail_of (R.Other other) = other.detail
detail_of _ = 0
