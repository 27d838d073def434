-- Lists of calls, computed: the example of document 01 in pieces, and edges of the chunk reader.
use Rattle.std.specs.Prelude.{true, false, List, [], ◌∷◌, ◌++◌, map, ◌≡◌, refl, ℕ, length, take, drop, replicate}
use Rattle.wire.specs.Header as Header
use Rattle.wire.specs.Token as Token
use Rattle.utf8.specs.Utf8 as U
use Rattle.event.specs.Span as Span
use Rattle.event.specs.Row as Row
use Rattle.event.specs.Row.{Event}
use Rattle.grammar.specs.Grammar as G
use Rattle.grammar.specs.Document as D
use Rattle.grammar.specs.Scan as Scan
use Rattle.grammar.specs.Example.{document, bare, p, v}
use Rattle.grammar.specs.Example as Example
use Rattle.stream_spec.specs.Stream as S
use Rattle.stream_spec.specs.Stream.{Stream, Lent, Reply, fresh, took, done, gives, need_more, end, refused}
use Rattle.stream_spec.specs.Calls as C
use Rattle.stream_spec.specs.Calls.{Call, call-feed, call_next, call-finish, Trace, run, start, step}

-- ---- what a run shows: its replies, and the events handed out

unfoldable pub reply_to : Trace → Call → Reply
reply_to t (call-feed c) = (S.feed t.stream t.lent c).reply
reply_to t (call_next rows) = (S.next t.stream t.lent rows).reply
reply_to t call-finish = (S.finish t.stream t.lent).reply

unfoldable pub replies : Trace → List Call → List Reply
replies t [] = []
replies t (c ∷ cs) = reply_to t c ∷ replies (step t c) cs

pub record Shown : Type 0 where
  pub replied : List Reply
  pub events : List Event

pub record Case : Type 0 where
  pub lent : Lent
  pub calls : List Call
  pub shows : Shown

unfoldable pub shown : Case → Shown
shown c = record { replied = replies (start fresh c.lent) c.calls; events = (run (start fresh c.lent) c.calls).handed }

-- ---- the cases

-- a window of 64 bytes, a pool table and a name store
abbrev narrow : List ℕ → List ℕ → Lent
narrow table store = record { window = replicate 64 7; table = table; store = store }

abbrev lent : Lent
lent = narrow (replicate 8 9) (replicate 16 5)

abbrev rows : List ℕ
rows = replicate 24 3

abbrev next : Call
next = call_next rows

abbrev no_rows : Call
no_rows = call_next []

abbrev H : List ℕ
H = Header.magic_bytes

-- the listing's input of 01 in four pieces, with nexts between them, one of them with no room for rows, and calls after the end
abbrev pieces : Case
pieces =
    record {
      lent = lent;
      calls =
          next ∷ call-feed (take 3 document) ∷ next ∷ call-feed (take 8 (drop 3 document)) ∷ next ∷ next ∷ no_rows ∷ call-feed (take 10 (drop 11 document)) ∷ next
          ∷ call-feed (drop 21 document) ∷ no_rows ∷ next ∷ next ∷ call-finish ∷ call-feed (1 ∷ []) ∷ call-finish ∷ next ∷ next ∷ no_rows ∷ [];
      shows =
          record {
            replied =
                need_more ∷ took 3 ∷ need_more ∷ took 8 ∷ gives 1 ∷ need_more ∷ need_more ∷ took 10 ∷ need_more
                ∷ took 4 ∷ refused 10 0 ∷ gives 2 ∷ gives 1 ∷ done ∷ refused 18 0 ∷ refused 18 0 ∷ gives 1 ∷ end ∷ end ∷ [];
            events = Example.events;
          };
    }

-- 13: the waiting bytes, without a header just passed, fill the window
abbrev full : Case
full =
    record {
      lent = lent;
      calls =
          call-feed (H ++ (0x24 ∷ 0x01 ∷ 0x00 ∷ replicate 100 0x41)) ∷ next ∷ call-feed (replicate 100 0x41) ∷ next ∷ call-feed (replicate 9 0x41) ∷ call-finish ∷ next ∷ [];
      shows = record { replied = took 64 ∷ need_more ∷ took 4 ∷ refused 13 0 ∷ took 0 ∷ done ∷ refused 4 0 ∷ []; events = [] };
    }

-- a start tag at a chunk's edge: NeedMore, and the tag once finished
abbrev edge : Lent → List Reply → List Event → Case
edge l replied events =
    record {
      lent = l;
      calls = call-feed (H ++ (0x32 ∷ 0xFF ∷ 0xFF ∷ 0x00 ∷ 0x01 ∷ 0x70 ∷ [])) ∷ next ∷ call-finish ∷ next ∷ next ∷ [];
      shows = record { replied = took 10 ∷ need_more ∷ done ∷ replied; events = events };
    }

-- a refused event is refused again: its bytes still wait, and the header counts as not passed
abbrev again : Case
again =
    record {
      lent = lent;
      calls = call-feed (H ++ (0x0F ∷ [])) ∷ next ∷ next ∷ call-finish ∷ next ∷ [];
      shows = record { replied = took 5 ∷ refused 9 15 ∷ refused 9 15 ∷ done ∷ refused 9 15 ∷ []; events = [] };
    }

-- a document in one feed: what a next says before a finish and what it says after it, twice
abbrev told : List ℕ → Reply → Reply → Case
told input before after =
    record {
      lent = lent;
      calls = call-feed input ∷ next ∷ call-finish ∷ next ∷ next ∷ [];
      shows = record { replied = took (length input) ∷ before ∷ done ∷ after ∷ after ∷ []; events = [] };
    }

-- a start tag `p`, and what follows it
abbrev tag : List ℕ → List ℕ
tag rest = H ++ (0x32 ∷ 0xFF ∷ 0xFF ∷ 0x00 ∷ 0x01 ∷ 0x70 ∷ rest)

-- a byte of room is no full window
abbrev nearly : Case
nearly =
    record {
      lent = lent;
      calls =
          call-feed (H ++ (0x24 ∷ 0x01 ∷ 0x00 ∷ replicate 57 0x41)) ∷ next ∷ call-feed (replicate 3 0x41) ∷ next ∷ call-feed (0x41 ∷ []) ∷ next ∷ [];
      shows = record { replied = took 64 ∷ need_more ∷ took 3 ∷ need_more ∷ took 1 ∷ refused 13 0 ∷ []; events = [] };
    }

-- 10, then 11, where rows, table and store are all too short
abbrev scarce : Case
scarce =
    record {
      lent = narrow [] [];
      calls = call-feed (tag (0x10 ∷ [])) ∷ no_rows ∷ next ∷ [];
      shows = record { replied = took 11 ∷ refused 10 0 ∷ refused 11 0 ∷ []; events = [] };
    }

-- EndDocument is an event like the others
abbrev onwards : Case
onwards =
    record {
      lent = lent;
      calls = call-feed (H ++ (0x11 ∷ 0x10 ∷ 0x11 ∷ [])) ∷ next ∷ next ∷ call-finish ∷ next ∷ next ∷ [];
      shows =
          record {
            replied = took 7 ∷ gives 1 ∷ gives 1 ∷ done ∷ gives 1 ∷ end ∷ [];
            events = (bare Token.end_document [] ∷ []) ∷ (bare Token.start_document [] ∷ []) ∷ (bare Token.end_document [] ∷ []) ∷ [];
          };
    }

-- two names, and both by their indices: their bytes are looked up in the name store
abbrev indexed : Case
indexed =
    record {
      lent = lent;
      calls = call-feed (tag (0x32 ∷ 0xFF ∷ 0xFF ∷ 0x00 ∷ 0x01 ∷ 0x76 ∷ 0x33 ∷ 0x00 ∷ 0x01 ∷ 0x33 ∷ 0x00 ∷ 0x00 ∷ [])) ∷ next ∷ next ∷ next ∷ next ∷ next ∷ [];
      shows =
          record {
            replied = took 22 ∷ gives 1 ∷ gives 1 ∷ gives 1 ∷ gives 1 ∷ need_more ∷ [];
            events = (bare Token.start_tag p ∷ []) ∷ (bare Token.start_tag v ∷ []) ∷ (bare Token.end_tag v ∷ []) ∷ (bare Token.end_tag p ∷ []) ∷ [];
          };
    }

unfoldable pub cases : List Case
cases =
    pieces
    ∷ full
    ∷ again
    ∷ edge lent (gives 1 ∷ end ∷ []) ((bare Token.start_tag p ∷ []) ∷ [])
    ∷ edge (narrow [] []) (refused 11 0 ∷ refused 11 0 ∷ []) []
    ∷ edge (narrow (0 ∷ 0 ∷ []) []) (refused 12 0 ∷ refused 12 0 ∷ []) []
    ∷ scarce
    ∷ nearly
    ∷ onwards
    ∷ indexed
    ∷ told [] need_more (refused 1 0)
    ∷ told (0x41 ∷ 0x42 ∷ 0x58 ∷ []) need_more (refused 1 0)
    ∷ told (0x41 ∷ 0x42 ∷ 0x58 ∷ 0x01 ∷ []) (refused 2 0x4142_5801) (refused 2 0x4142_5801)
    ∷ told H need_more end
    ∷ told (H ++ (0x24 ∷ 0x00 ∷ [])) need_more (refused 3 0)
    ∷ told (H ++ (0x24 ∷ 0x00 ∷ 0x02 ∷ 0x41 ∷ [])) need_more (refused 4 0)
    ∷ told (tag (0x4F ∷ 0x00 ∷ 0x00 ∷ 0x00 ∷ 0x02 ∷ 0x41 ∷ [])) need_more (refused 5 0)
    ∷ told (H ++ (0x32 ∷ 0x00 ∷ 0x05 ∷ [])) (refused 6 5) (refused 6 5)
    ∷ told (H ++ (0x32 ∷ 0xFF ∷ 0xFF ∷ 0x00 ∷ 0x01 ∷ 0xC0 ∷ [])) (refused 7 0) (refused 7 0)
    -- 8 comes after the attribute's name
    ∷ told (tag (0xEF ∷ [])) need_more (refused 3 0)
    ∷ told (tag (0xEF ∷ 0xFF ∷ 0xFF ∷ 0x00 ∷ 0x01 ∷ 0x76 ∷ [])) (refused 8 224) (refused 8 224)
    ∷ told (tag (0x0F ∷ 0x00 ∷ 0x00 ∷ [])) (refused 8 0) (refused 8 0)
    ∷ told (H ++ (0x0F ∷ [])) (refused 9 15) (refused 9 15)
    ∷ told (H ++ (0x0B ∷ [])) (refused 9 11) (refused 9 11)
    ∷ []

-- ---- what every call checks first: 17, then 19, then 18

unfoldable pub checks : Stream → Lent → List Reply
checks r l = (S.feed r l (1 ∷ [])).reply ∷ (S.next r l rows).reply ∷ (S.finish r l).reply ∷ []

-- a finished reader; and one whose start lies past its end
abbrev finished : ℕ → Stream
finished start = record { start = start; end = 0; names = 0; bytes = 0; header = false; finished = true }

-- a table of half a pair, a window of 63 bytes
abbrev odd : Lent
odd = narrow (0 ∷ []) []

abbrev small : Lent
small = record { window = replicate 63 7; table = []; store = [] }

pub order : (checks (finished 1) odd ≡ refused 17 0 ∷ refused 17 0 ∷ refused 17 0 ∷ [])
    × (checks (finished 1) small ≡ refused 17 0 ∷ refused 17 0 ∷ refused 17 0 ∷ [])
    × (checks (finished 1) lent ≡ refused 19 0 ∷ refused 19 0 ∷ refused 19 0 ∷ [])
    × (checks (finished 0) lent ≡ refused 18 0 ∷ refused 1 0 ∷ refused 18 0 ∷ [])
unfolding checks S.sizes_bad S.state_bad S.checked S.feed S.finish S.next S.next_header
order = (refl, refl, refl, refl)

-- ---- the cases, computed

pub runs : map shown cases ≡ map (λ c. c.shows) cases
unfolding cases shown document Example.events replies reply_to run step U.octets U.well_formed Header.u32_at Token.command Token.type Span.part Span.span Row.shapes Row.shape Row.has_name Row.value_at Row.row_at Row.rows_at G.most G.byte G.u16 G.u32 G.u64 G.raw G.utf8 G.blob G.string G.counted G.after G.counted_name G.counted_value G.shaped G.name G.value G.attribute G.first G.attributes_f G.event D.bytes_at D.type_of Scan.adds_ref Scan.adds_name Scan.adds_value Scan.adds_item Scan.adds Scan.count Scan.span_words Scan.ref_words Scan.name_words Scan.value_words Scan.item_words Scan.words Scan.outcome S.sizes_bad S.state_bad S.checked S.fed S.feed S.finish Scan.lengths Scan.copied_pairs Scan.joined Scan.sound S.given S.hand_out S.by_outcome S.next_from S.next_header S.next C.accepted_by C.handed_by C.header_by C.finished_by C.ended_by C.after_feed C.after_next C.after_finish
runs = refl
