-- Demand 3's last sentence speaks of something: its four premises hold together after a list of calls.
use Rattle.std.specs.Prelude.{true, List, [], ◌∷◌, ◌≡◌, refl, ℕ, replicate, take, drop, length}
use Rattle.std.proofs.Common.{subst, sym, arith}
use Rattle.wire.specs.Header as Header
use Rattle.wire.specs.Token as Token
use Rattle.utf8.specs.Utf8 as U
use Rattle.event.specs.Span as Span
use Rattle.event.specs.Row as Row
use Rattle.grammar.specs.Grammar as G
use Rattle.grammar.specs.Document as D
use Rattle.grammar.specs.Scan as Scan
use Rattle.grammar.specs.Example.{events, document}
use Rattle.writer_spec.specs.Encode as E
use Rattle.writer_spec.specs.Names as N
use Rattle.writer_spec.specs.Names.{kept_names}
use Rattle.stream_spec.specs.Stream as S
use Rattle.stream_spec.specs.Stream.{Lent, fresh, create, created}
use Rattle.stream_spec.specs.Calls as C
use Rattle.stream_spec.specs.Calls.{Call, call-feed, call_next, call-finish, Trace, run, start, step, Delivers}
use Rattle.trace.specs.Trace.{Made, Spaces}
use Rattle.trace.proofs.Demand3.{demand3}
use Rattle.trace.proofs.Example.{made}

abbrev pub lent : Lent
lent = record { window = replicate 64 7; table = replicate 8 9; store = replicate 16 5 }

abbrev pub rows : List ℕ
rows = replicate 24 3

abbrev pub calls : List Call
calls = call-feed (take 7 document) ∷ call_next rows ∷ call-feed (drop 7 document) ∷ call-finish ∷ []

abbrev pub t : Trace
t = run (start fresh lent) calls

pub created-it : create lent ≡ created fresh
unfolding create S.sizes_bad
created-it = refl

pub computed : (t.accepted ≡ document) × (t.finished ≡ true) × (length t.handed ≡ 1)
unfolding document run step S.sizes_bad S.state_bad S.checked S.fed S.feed S.finish S.next S.next_header S.next_from S.by_outcome S.hand_out S.given C.accepted_by C.handed_by C.header_by C.finished_by C.ended_by C.after_feed C.after_next C.after_finish Header.u32_at Token.command Token.type U.octets U.well_formed Row.shapes Row.shape G.most G.byte G.u16 G.u32 G.u64 G.raw G.utf8 G.blob G.string G.counted G.after G.counted_name G.counted_value G.shaped G.name G.value G.attribute G.first G.attributes_f G.event D.bytes_at D.type_of Scan.adds_ref Scan.adds_name Scan.adds_value Scan.adds_item Scan.adds Scan.count Scan.span_words Scan.ref_words Scan.name_words Scan.value_words Scan.item_words Scan.words Scan.outcome Scan.lengths Scan.copied_pairs Scan.joined Scan.sound Span.part Span.span Row.has_name Row.value_at Row.row_at Row.rows_at
computed = (refl, refl, refl)

pub room-it : Spaces events lent
unfolding events kept_names N.names N.join N.join_by N.distinct E.find E.flat Span.same Row.has_name G.most
room-it = record { pairs-fit = omega arith; bytes_fit = omega arith }

pub delivered : Delivers (drop (length t.handed) events) t
delivered =
    (demand3 fresh lent created-it calls).lively events (subst (λ (s : List ℕ). Made events s) (sym computed.0) made) room-it computed.1
