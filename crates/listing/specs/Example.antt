-- Document 01's example of a listing, computed.
use Rattle.std.specs.Prelude.{◌≡◌, refl}
use Rattle.wire.specs.Header as Header
use Rattle.wire.specs.Token as Token
use Rattle.utf8.specs.Utf8 as U
use Rattle.event.specs.Row as Row
use Rattle.grammar.specs.Grammar as G
use Rattle.grammar.specs.Document as D
use Rattle.grammar.specs.Example.{document}
use Rattle.text.specs.Ascii.{ascii}
use Rattle.text.specs.Numerals as Numerals
use Rattle.listing.specs.Text as Text
use Rattle.listing.specs.Line as Line
use Rattle.listing.specs.Listing.{lines, listing_from, listing}

pub listed : listing document ≡ ascii "0 - - -\n2 70 - -\n15 76 6 00000003\n3 70 - -\n1 - - -\nend 4\n"
unfolding document listing listing_from lines Line.line Line.columns Line.type_text Line.value_text Line.end_line Text.field Numerals.hex Numerals.digit Numerals.numeral Numerals.numeral_in Header.be32 Header.header Header.u32_at Token.command Token.type U.octets U.well_formed G.most G.byte G.u16 G.u32 G.u64 G.raw G.utf8 G.blob G.string G.counted G.after G.counted_name G.counted_value G.shaped G.name G.value G.attribute G.first G.attributes_f G.event Row.shapes Row.shape Row.has_name D.read D.bytes_at D.ref_bytes D.keep D.name_bytes D.keep_name D.value_of D.keep_value D.type_of D.keep_item D.row_of D.rows_of D.pool_of D.ending D.read_one D.read_f
listed = refl
