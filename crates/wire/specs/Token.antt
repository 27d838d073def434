-- A token's command and type, the table that says them, and the numbers of both.
use Rattle.std.specs.Prelude.{List, [], ◌∷◌, ℕ, zero, suc, ◌+◌, ◌*◌, ◌/◌, ◌%◌, get_or}

-- a token is one byte: the command in its low nibble, the type in its high nibble
unfoldable pub command : ℕ → ℕ
command token = token % 16

unfoldable pub type : ℕ → ℕ
type token = token / 16

-- ---- the token table: an entry for each token, the type in its high byte and the command in its low byte

unfoldable pub command_in : List ℕ → ℕ → ℕ
command_in table token = get_or table token 0 % 256

unfoldable pub type_in : List ℕ → ℕ → ℕ
type_in table token = get_or table token 0 / 256 % 256

-- the entries of so many tokens, from a token on
unfoldable pub entries : ℕ → ℕ → List ℕ
entries token zero = []
entries token (suc n) = (type token * 256 + command token) ∷ entries (suc token) n

-- the built-in table
unfoldable pub built_in : List ℕ
built_in = entries 0 256

-- ---- commands

abbrev pub start_document : ℕ
start_document = 0

abbrev pub end_document : ℕ
end_document = 1

abbrev pub start_tag : ℕ
start_tag = 2

abbrev pub end_tag : ℕ
end_tag = 3

abbrev pub text : ℕ
text = 4

abbrev pub cdata : ℕ
cdata = 5

abbrev pub entity_ref : ℕ
entity_ref = 6

abbrev pub ignorable_whitespace : ℕ
ignorable_whitespace = 7

abbrev pub processing_instruction : ℕ
processing_instruction = 8

abbrev pub comment : ℕ
comment = 9

abbrev pub doc_decl : ℕ
doc_decl = 10

abbrev pub attribute : ℕ
attribute = 15

unfoldable pub commands : List ℕ
commands =
    start_document ∷ end_document ∷ start_tag ∷ end_tag ∷ text ∷ cdata ∷ entity_ref ∷ ignorable_whitespace ∷ processing_instruction ∷ comment ∷ doc_decl
    ∷ attribute ∷ []

-- ---- types

abbrev pub null : ℕ
null = 1

abbrev pub string : ℕ
string = 2

abbrev pub string_interned : ℕ
string_interned = 3

abbrev pub bytes_hex : ℕ
bytes_hex = 4

abbrev pub bytes_base64 : ℕ
bytes_base64 = 5

abbrev pub int : ℕ
int = 6

abbrev pub int_hex : ℕ
int_hex = 7

abbrev pub long : ℕ
long = 8

abbrev pub long_hex : ℕ
long_hex = 9

abbrev pub float : ℕ
float = 10

abbrev pub double : ℕ
double = 11

abbrev pub boolean_true : ℕ
boolean_true = 12

abbrev pub boolean_false : ℕ
boolean_false = 13

unfoldable pub types : List ℕ
types =
    null ∷ string ∷ string_interned ∷ bytes_hex ∷ bytes_base64 ∷ int ∷ int_hex ∷ long ∷ long_hex ∷ float ∷ double ∷ boolean_true ∷ boolean_false ∷ []

-- ---- names

-- the index that means a new name; so a pool holds at most as many names
abbrev pub interned_new : ℕ
interned_new = 65535
