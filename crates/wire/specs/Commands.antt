-- Commands and types by number. Unknown is told of a number that no other variant has.
use Rattle.std.specs.Prelude.{◌≡◌, ◌≢◌, ℕ, ◌<◌}
use Rattle.wire.specs.Token as Token
use Rattle.wire.specs.declared.Command.{Command}
use Rattle.wire.specs.declared.Command.TheVariants as C
use Rattle.wire.specs.declared.«Type».{«Type»}
use Rattle.wire.specs.declared.«Type».TheVariants as T

abbrev pub command_number : Command → ℕ
command_number C.StartDocument = Token.start_document
command_number C.EndDocument = Token.end_document
command_number C.StartTag = Token.start_tag
command_number C.EndTag = Token.end_tag
command_number C.Text = Token.text
command_number C.Cdata = Token.cdata
command_number C.EntityRef = Token.entity_ref
command_number C.IgnorableWhitespace = Token.ignorable_whitespace
command_number C.ProcessingInstruction = Token.processing_instruction
command_number C.Comment = Token.comment
command_number C.DocDecl = Token.doc_decl
command_number C.Attribute = Token.attribute
command_number (C.Unknown number) = number

abbrev pub type_number : «Type» → ℕ
type_number T.Null = Token.null
type_number T.String = Token.string
type_number T.StringInterned = Token.string_interned
type_number T.BytesHex = Token.bytes_hex
type_number T.BytesBase64 = Token.bytes_base64
type_number T.Int = Token.int
type_number T.IntHex = Token.int_hex
type_number T.Long = Token.long
type_number T.LongHex = Token.long_hex
type_number T.Float = Token.float
type_number T.Double = Token.double
type_number T.BooleanTrue = Token.boolean_true
type_number T.BooleanFalse = Token.boolean_false
type_number (T.Unknown number) = number

-- which command a number is
abbrev pub IsCommand : ℕ → Command → Type 0
IsCommand n (C.Unknown m) = (m ≡ n) × (Token.doc_decl < n) × (n ≢ Token.attribute)
IsCommand n c = n ≡ command_number c

abbrev pub IsType : ℕ → «Type» → Type 0
IsType n (T.Unknown m) = (m ≡ n) × (0 < n → Token.boolean_false < n)
IsType n t = n ≡ type_number t
