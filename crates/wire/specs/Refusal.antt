-- The numbers of the refusals: document 01, "Refusals by place", to 19, and the papers of document 02 from 20 on. A detail is 0 unless one is named.
use Rattle.std.specs.Prelude.{Bool, ◌&&◌, ◌||◌, List, [], ◌∷◌, ℕ, eqb, leb}

-- ---- header

-- under 4 bytes and no more to come
abbrev pub header_short : ℕ
header_short = 1

-- other bytes; detail: the four, as a u32
abbrev pub invalid_magic : ℕ
invalid_magic = 2

-- ---- event, in wire order

-- the input ends in a token, length, index or number
abbrev pub unexpected_eof : ℕ
unexpected_eof = 3

-- it ends in a string's bytes
abbrev pub string_short : ℕ
string_short = 4

-- it ends in a blob's bytes
abbrev pub bytes_short : ℕ
bytes_short = 5

-- the index is not in the pool; detail: the index
abbrev pub bad_interned_index : ℕ
bad_interned_index = 6

-- a string breaks RFC 3629; in the writer too
abbrev pub invalid_utf8 : ℕ
invalid_utf8 = 7

-- attribute type 0, 14 or 15, after its name is read; detail: the type times 16
abbrev pub unknown_attribute_type : ℕ
unknown_attribute_type = 8

-- command 11 to 14, or 15 outside a start tag; detail: the command
abbrev pub unknown_command : ℕ
unknown_command = 9

-- ---- event read whole

-- too few whole rows
abbrev pub rows_full : ℕ
rows_full = 10

-- the pool table is too short; in the writer too
abbrev pub pool_full : ℕ
pool_full = 11

-- the name store is too short
abbrev pub names_full : ℕ
names_full = 12

-- ---- window

-- an event incomplete, not finished, and the waiting bytes fill the window
abbrev pub window_full : ℕ
window_full = 13

-- ---- writer

-- over 65,535 bytes; detail: the length
abbrev pub value_too_long : ℕ
value_too_long = 14

-- the output is too short, for the header too
abbrev pub output_full : ℕ
output_full = 15

-- words that form no rows, or a span that ends outside its store; for the accessor and nesting too
abbrev pub not_rows : ℕ
not_rows = 16

-- ---- sizes and states

-- a lent buffer of a length that no call takes
abbrev pub bad_size : ℕ
bad_size = 17

-- a feed or finish after a finish
abbrev pub already_finished : ℕ
already_finished = 18

-- counts or places outside the buffers, or a pool span used that ends outside its store
abbrev pub bad_state : ℕ
bad_state = 19

-- ---- the papers' calls; a detail is 0

-- a character outside XML 1.0's Char production, in the text writer
abbrev pub illegal_char : ℕ
illegal_char = 20

-- the numbers from here on no call gives yet

-- a part of a stored version is missing or unfit
abbrev pub part_missing : ℕ
part_missing = 21

-- a version above the newest, or 0
abbrev pub no_such_version : ℕ
no_such_version = 22

-- too few unused blocks at the end of a store of versions, or no number left for one more
abbrev pub store_full : ℕ
store_full = 23

-- an exercise of over 1,000 events
abbrev pub exercise_too_long : ℕ
exercise_too_long = 24

-- the event passes its caller's limit
abbrev pub caller_limit : ℕ
caller_limit = 25

-- a token table of another length, or that breaks the tables' rule
abbrev pub bad_token_table : ℕ
bad_token_table = 26

-- a sign-on record that lacks an Int, or whose panel's times fall
abbrev pub bad_sign_on : ℕ
bad_sign_on = 27

-- times that may be over 60 seconds apart
abbrev pub bad_tolerance : ℕ
bad_tolerance = 28

-- an idle limit outside 1 to 480 minutes
abbrev pub bad_idle_limit : ℕ
bad_idle_limit = 29

-- a use that lacks an Int, or is out of range or out of order
abbrev pub bad_use : ℕ
bad_use = 30

unfoldable pub refusals : List ℕ
refusals =
    header_short ∷ invalid_magic ∷ unexpected_eof ∷ string_short ∷ bytes_short ∷ bad_interned_index ∷ invalid_utf8 ∷ unknown_attribute_type ∷ unknown_command
    ∷ rows_full ∷ pool_full ∷ names_full ∷ window_full ∷ value_too_long ∷ output_full ∷ not_rows ∷ bad_size ∷ already_finished ∷ bad_state
    ∷ illegal_char ∷ part_missing ∷ no_such_version ∷ store_full ∷ exercise_too_long ∷ caller_limit ∷ bad_token_table ∷ bad_sign_on ∷ bad_tolerance ∷ bad_idle_limit
    ∷ bad_use ∷ []

-- ---- numbers with their details

-- the refusals of these numbers have a detail
abbrev pub has_detail : ℕ → Bool
has_detail number =
    eqb number invalid_magic || (eqb number bad_interned_index || (eqb number unknown_attribute_type || (eqb number unknown_command || eqb number value_too_long)))

-- a refusal of the list has this number and this detail
abbrev pub is_named : ℕ → ℕ → Bool
is_named number detail = has_detail number || (leb header_short number && (leb number bad_use && eqb detail 0))
