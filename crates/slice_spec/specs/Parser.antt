-- The slice reader that carries its document, as functions of its state and of what is lent: document 01, "Forms to replace".
use Rattle.std.specs.Prelude.{cond, List, ℕ, eqb}
use Rattle.event.specs.Span.{Pointer}
use Rattle.event.specs.Span as Span
use Rattle.slice_spec.specs.Slice.{Place, Created, created, create, Answer}
use Rattle.slice_spec.specs.Slice as Slice
use Rattle.slice_spec.specs.Queries.{Query, Ending, query}
use Rattle.slice_spec.specs.Queries as Queries

-- the document and where it lies, the place in it, and the number and detail of a refused `new`, number 0 if it was not
-- refused. A caller may make any of these, and each has an answer to every call
pub record Parser : Type 0 where
  pub document : List ℕ
  pub lies : Pointer
  pub place : Place
  pub number : ℕ
  pub detail : ℕ

-- ---- new

-- a refused `new` has no place to keep
abbrev pub by_created : List ℕ → Pointer → Created → Parser
by_created document lies (created p) = record { document = document; lies = lies; place = p; number = 0; detail = 0 }
by_created document lies (Slice.Created.refused n d) =
    record { document = document; lies = lies; place = record { at = 0; names = 0 }; number = n; detail = d }

unfoldable pub new : List ℕ → Pointer → List ℕ → Parser
new document lies table = by_created document lies (create document table)

-- ---- the next event

-- the same parser at another place
abbrev pub moved : Parser → Place → Parser
moved p place = record { document = p.document; lies = p.lies; place = place; number = p.number; detail = p.detail }

-- what a next leaves: its answer, the parser, and every lent word
pub record Left : Type 0 where
  pub answer : Answer
  pub parser : Parser
  pub table : List ℕ
  pub rows : List ℕ

abbrev pub by_next : Parser → Slice.Left → Left
by_next p l = record { answer = l.answer; parser = moved p l.place; table = l.table; rows = l.rows }

abbrev pub unchanged : Parser → List ℕ → List ℕ → Answer → Left
unchanged p table rows a = record { answer = a; parser = p; table = table; rows = rows }

-- a refused `new` is the answer before all else
unfoldable pub next : Parser → List ℕ → List ℕ → Left
next p table rows =
    cond (eqb p.number 0) (by_next p (Slice.next p.place p.document table rows))
    (unchanged p table rows (Slice.Answer.refused p.number p.detail))

-- ---- the four queries

-- what a query leaves: how it ended, the events it consumed, the rows it wrote, the parser, and every lent word
pub record Asked : Type 0 where
  pub ending : Ending
  pub events : ℕ
  pub written : ℕ
  pub parser : Parser
  pub table : List ℕ
  pub rows : List ℕ

abbrev pub by_query : Parser → Queries.Left → Asked
by_query p l =
    record {
      ending = l.ending;
      events = l.progress.events;
      written = l.progress.written;
      parser = moved p l.progress.place;
      table = l.progress.table;
      rows = l.progress.rows;
    }

abbrev pub unasked : Parser → List ℕ → List ℕ → Ending → Asked
unasked p table rows e = record { ending = e; events = 0; written = 0; parser = p; table = table; rows = rows }

unfoldable pub asks : Query → Parser → List ℕ → List ℕ → Asked
asks q p table rows =
    cond (eqb p.number 0) (by_query p (query q p.place p.document table rows))
    (unasked p table rows (Queries.Ending.refused p.number p.detail))

-- ---- a string's bytes, as a part of the document. A lookup has no refusal to give, so a refused `new` does not change it

abbrev pub text : Parser → ℕ → ℕ → ℕ → List ℕ
text p source start len = Span.text p.document source start len

abbrev pub text_at : Parser → ℕ → ℕ → ℕ → Pointer
text_at p source start len = Span.text_at p.document p.lies source start len
