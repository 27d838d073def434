-- RFC 4648's test vectors, and other texts, computed.
use Rattle.std.specs.Prelude.{[], ◌∷◌, ◌≡◌, refl}
use Rattle.text.specs.Ascii.{ascii}
use Rattle.text.specs.Numerals.{digit, hex, numeral_in, numeral, letter, base64}

-- ---- base64: RFC 4648, section 10

pub base64-none : base64 (ascii "") ≡ ascii ""
unfolding base64
base64-none = refl

pub base64-f : base64 (ascii "f") ≡ ascii "Zg=="
unfolding base64 letter
base64-f = refl

pub base64-fo : base64 (ascii "fo") ≡ ascii "Zm8="
unfolding base64 letter
base64-fo = refl

pub base64-foo : base64 (ascii "foo") ≡ ascii "Zm9v"
unfolding base64 letter
base64-foo = refl

pub base64-foob : base64 (ascii "foob") ≡ ascii "Zm9vYg=="
unfolding base64 letter
base64-foob = refl

pub base64-fooba : base64 (ascii "fooba") ≡ ascii "Zm9vYmE="
unfolding base64 letter
base64-fooba = refl

pub base64-foobar : base64 (ascii "foobar") ≡ ascii "Zm9vYmFy"
unfolding base64 letter
base64-foobar = refl

-- the alphabet's last two letters
pub base64-last : base64 (0xFB ∷ 0xEF ∷ 0xFF ∷ []) ≡ ascii "++//"
unfolding base64 letter
base64-last = refl

-- ---- hex

pub hex-bytes : hex (0x00 ∷ 0x0F ∷ 0x9A ∷ 0xFF ∷ []) ≡ ascii "000f9aff"
unfolding hex digit
hex-bytes = refl

-- ---- numbers

pub decimal-zero : numeral 10 0 ≡ ascii "0"
unfolding numeral numeral_in digit
decimal-zero = refl

pub decimal-most : numeral 10 18446744073709551615 ≡ ascii "18446744073709551615"
unfolding numeral numeral_in digit
decimal-most = refl

pub hexadecimal-word : numeral 16 3405691582 ≡ ascii "cafebabe"
unfolding numeral numeral_in digit
hexadecimal-word = refl
