-- Nexts and queries, computed: the example of document 01, and edges of the slice reader.
use Rattle.std.specs.Prelude.{List, [], ◌∷◌, ◌++◌, map, ◌≡◌, refl, ℕ, replicate}
use Rattle.wire.specs.Header as Header
use Rattle.wire.specs.Token as Token
use Rattle.utf8.specs.Utf8 as U
use Rattle.event.specs.Span as Span
use Rattle.event.specs.Row as Row
use Rattle.event.specs.Row.{Row, rows_at}
use Rattle.grammar.specs.Grammar as G
use Rattle.grammar.specs.Document as D
use Rattle.grammar.specs.Scan as Scan
use Rattle.grammar.specs.Example.{document, bare, p, v}
use Rattle.slice_spec.specs.Slice as S
use Rattle.slice_spec.specs.Slice.{Place, Created, created, Answer, gives, end}
use Rattle.slice_spec.specs.Queries as Q
use Rattle.slice_spec.specs.Queries.{Query, find-attribute, attributes-of, find-all-attributes, all-attributes-of, Ending, found, done}

-- past the header
abbrev fresh : Place
fresh = record { at = 4; names = 0 }

-- ---- nexts

-- the answers of nexts, each with the rows that it is lent
unfoldable pub answers : Place → List ℕ → List ℕ → List (List ℕ) → List Answer
answers at _ table [] = []
answers at document table (rows ∷ rest) =
    let x : S.Left = S.next at document table rows in
    x.answer ∷ answers x.place document x.table rest

abbrev two : List ℕ
two = replicate 16 7

abbrev one : List ℕ
one = replicate 15 7

pub record Nexts : Type 0 where
  pub table : List ℕ
  pub lent : List (List ℕ)
  pub answered : List Answer

unfoldable pub nexts : List Nexts
nexts =
    record {
      table = replicate 4 9;
      lent = one ∷ one ∷ two ∷ [] ∷ one ∷ one ∷ [] ∷ [];
      answered = gives 1 ∷ Answer.refused 10 0 ∷ gives 2 ∷ Answer.refused 10 0 ∷ gives 1 ∷ gives 1 ∷ end ∷ [];
    }
    ∷ record { table = 9 ∷ 9 ∷ []; lent = one ∷ one ∷ two ∷ two ∷ []; answered = gives 1 ∷ Answer.refused 10 0 ∷ Answer.refused 11 0 ∷ Answer.refused 11 0 ∷ [] }
    ∷ []

-- ---- queries

pub record Asked : Type 0 where
  pub ending : Ending
  pub events : ℕ
  pub at : ℕ
  pub rows : List Row

unfoldable pub ask : List ℕ → List ℕ → List ℕ → Query → Asked
ask document table rows q =
    let x : Q.Left = Q.query q fresh document table rows in
    record { ending = x.ending; events = x.progress.events; at = x.progress.place.at; rows = rows_at document [] x.progress.written x.progress.rows }

abbrev w : List ℕ
w = 0x77 ∷ []

-- <p v="3"/> is the second event; w is no name of it
abbrev tag : Row
tag = bare Token.start_tag p

abbrev three : Row
three = record { kind = Token.attribute; name = v; type = Token.int; value = Row.word 3 }

pub record Case : Type 0 where
  pub table : List ℕ
  pub rows : List ℕ
  pub query : Query
  pub asked : Asked

unfoldable pub cases : List Case
cases =
    record { table = replicate 4 9; rows = replicate 8 7; query = find-attribute p v; asked = record { ending = found; events = 2; at = 21; rows = three ∷ [] } }
    ∷ record { table = replicate 4 9; rows = two; query = attributes-of p; asked = record { ending = found; events = 2; at = 21; rows = tag ∷ three ∷ [] } }
    ∷ record { table = replicate 4 9; rows = []; query = find-attribute p w; asked = record { ending = done; events = 4; at = 25; rows = [] } }
    ∷ record { table = replicate 4 9; rows = []; query = attributes-of v; asked = record { ending = done; events = 4; at = 25; rows = [] } }
    ∷ record { table = replicate 4 9; rows = two; query = find-all-attributes p v; asked = record { ending = done; events = 4; at = 25; rows = three ∷ [] } }
    ∷ record { table = replicate 4 9; rows = two; query = all-attributes-of p; asked = record { ending = done; events = 4; at = 25; rows = tag ∷ three ∷ [] } }
    ∷ record { table = replicate 4 9; rows = one; query = all-attributes-of p; asked = record { ending = Ending.refused 10 0; events = 1; at = 5; rows = [] } }
    ∷ record { table = 9 ∷ 9 ∷ []; rows = two; query = all-attributes-of p; asked = record { ending = Ending.refused 11 0; events = 1; at = 5; rows = [] } }
    ∷ []

-- <p p=true/>, the attribute's name by the index that the tag's own gets: the row is asked for before the pair
unfoldable pub itself : List ℕ
itself = Header.magic_bytes ++ (0x32 ∷ 0xFF ∷ 0xFF ∷ 0x00 ∷ 0x01 ∷ 0x70 ∷ 0xCF ∷ 0x00 ∷ 0x00 ∷ [])

unfoldable pub spaces : List Case
spaces =
    record { table = []; rows = []; query = find-attribute p p; asked = record { ending = Ending.refused 10 0; events = 0; at = 4; rows = [] } }
    ∷ record { table = []; rows = replicate 8 7; query = find-attribute p p; asked = record { ending = Ending.refused 11 0; events = 0; at = 4; rows = [] } }
    ∷ record {
      table = 9 ∷ 9 ∷ [];
      rows = replicate 8 7;
      query = find-attribute p p;
      asked =
          record {
            ending = found;
            events = 1;
            at = 13;
            rows = record { kind = Token.attribute; name = p; type = Token.boolean_true; value = Row.nothing } ∷ [];
          };
    }
    ∷ []

-- EndDocument, then an attribute outside a tag: the first stops some queries, the second is refused to the others
unfoldable pub broken : List ℕ
broken = Header.magic_bytes ++ (0x11 ∷ 0x0F ∷ [])

unfoldable pub stops : List Asked
stops = record { ending = done; events = 1; at = 5; rows = [] } ∷ record { ending = Ending.refused 9 15; events = 1; at = 5; rows = [] } ∷ []

-- ---- what every call checks first: 17, then 19, or at a creation the header

-- a table of half a pair; a place past the document's end, and more names than the table has pairs
abbrev odd : List ℕ
odd = 9 ∷ []

unfoldable pub checks : Place → List ℕ → Answer × Ending
checks at table = ((S.next at document table two).answer, (Q.query (all-attributes-of p) at document table two).ending)

pub order : (checks (record { at = 26; names = 0 }) odd ≡ (Answer.refused 17 0, Ending.refused 17 0))
    × (checks (record { at = 26; names = 0 }) [] ≡ (Answer.refused 19 0, Ending.refused 19 0))
    × (checks (record { at = 4; names = 1 }) [] ≡ (Answer.refused 19 0, Ending.refused 19 0))
    × (map (λ s. S.create s odd) ([] ∷ document ∷ []) ≡ Created.refused 17 0 ∷ Created.refused 17 0 ∷ [])
    × (map (λ s. S.create s []) ([] ∷ (0x41 ∷ 0x42 ∷ 0x58 ∷ 0x01 ∷ []) ∷ document ∷ []) ≡ Created.refused 1 0 ∷ Created.refused 2 0x4142_5801 ∷ created fresh ∷ [])
unfolding checks document Header.header Header.u32_at S.sizes_bad S.place_bad S.create S.next Q.query
order = (refl, refl, refl, refl, refl)

-- ---- the cases, computed

pub runs : (map (λ c. answers fresh document c.table c.lent) nexts ≡ map (λ c. c.answered) nexts)
    × (map (λ c. ask document c.table c.rows c.query) cases ≡ map (λ c. c.asked) cases)
    × (map (λ c. ask itself c.table c.rows c.query) spaces ≡ map (λ c. c.asked) spaces)
    × (map (ask broken [] []) (find-attribute p v ∷ all-attributes-of p ∷ []) ≡ stops)
unfolding nexts cases itself spaces broken stops answers ask document U.octets U.well_formed Header.u32_at Token.command Token.type Span.part Span.span Span.same Row.shapes Row.shape Row.has_name Row.value_at Row.row_at Row.rows_at G.most G.byte G.u16 G.u32 G.u64 G.raw G.utf8 G.blob G.string G.counted G.after G.counted_name G.counted_value G.shaped G.name G.value G.attribute G.first G.attributes_f G.event D.bytes_at D.type_of Scan.sound Scan.adds_ref Scan.adds_name Scan.adds_value Scan.adds_item Scan.adds Scan.count Scan.span_words Scan.ref_words Scan.name_words Scan.value_words Scan.item_words Scan.words Scan.outcome S.sizes_bad S.place_bad S.items_at Scan.pairs S.table_after S.place_after S.given S.hand_out S.by_outcome S.next_from S.next Q.split Q.named Q.is_element Q.all_named Q.first_named Q.picks Q.picked Q.single Q.after Q.concat Q.past Q.by_step Q.consume Q.kind_of Q.table_with Q.writes Q.by_outcome Q.query_f Q.query
runs = (refl, refl, refl, refl)
