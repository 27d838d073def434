-- The listing's input in document 01 is what the writer makes of its four events; computed.
use Rattle.std.specs.Prelude.{◌≡◌, refl}
use Rattle.wire.specs.Header as Header
use Rattle.event.specs.Span as Span
use Rattle.event.specs.Row as Row
use Rattle.grammar.specs.Grammar as G
use Rattle.grammar.specs.Example.{events, document}
use Rattle.writer_spec.specs.Encode as E

pub written : E.encode events ≡ document
unfolding events document E.encode E.flat E.rows_bytes E.row_bytes E.keep_row E.keep E.keep_by E.find E.name_bytes E.name_by E.sized Header.be16 Header.be32 E.value_bytes E.token_type Row.has_name Span.same G.most
written = refl
