-- Answers as words: 0 and what was asked for; 1 at the end; 2, the refusal's number and its detail; 3 where more is needed.
use Rattle.std.specs.Prelude.{false, not, cond, List, [], ◌∷◌, ◌≡◌, ℕ, eqb, leb, ltb, get_or, length}
use Rattle.std.proofs.lemmas.List.Edits.{sets}
use Rattle.wire.specs.Refusal.{bad_state}
use Rattle.nesting_spec.specs.Nesting as Nesting
use Rattle.slice_spec.specs.Slice as Slice
use Rattle.stream_spec.specs.Stream as Chunks
use Rattle.writer_spec.specs.Writer as Writer
use Rattle.xml_spec.specs.ToXml as Xml

-- an answer, where there is room for four words
unfoldable pub answered : List ℕ → List ℕ → List ℕ
answered answer ws = cond (leb 4 (length answer)) (sets answer 0 ws) answer

abbrev pub created_words : Slice.Created → List ℕ
created_words (Slice.created p) = 0 ∷ p.at ∷ p.names ∷ 0 ∷ []
created_words (Slice.Created.refused n d) = 2 ∷ n ∷ d ∷ 0 ∷ []

abbrev by : Slice.Place → Slice.Answer → List ℕ
by p (Slice.gives n) = 0 ∷ n ∷ p.at ∷ p.names ∷ []
by p Slice.end = 1 ∷ 0 ∷ 0 ∷ 0 ∷ []
by p (Slice.Answer.refused n d) = 2 ∷ n ∷ d ∷ 0 ∷ []

abbrev pub next_words : Slice.Left → List ℕ
next_words x = by x.place x.answer

-- what a next leaves: the answer's words, the pool table and the rows
pub record NextLeft (answer answer' pool rows : List ℕ) (x : Slice.Left) : Type 0 where
  pub answer-is : answer' ≡ answered answer (next_words x)
  pub pool-is : pool ≡ x.table
  pub rows_is : rows ≡ x.rows

-- ---- the chunk reader

-- the state that six words say, any flag but 0 being true; of fewer words, one that every call refuses: its start is past its end
unfoldable pub stream_in : List ℕ → Chunks.Stream
stream_in state =
    cond (ltb (length state) 6)
    (record { start = 1; end = 0; names = 0; bytes = 0; header = false; finished = false })
    (record {
      start = get_or state 0 0;
      end = get_or state 1 0;
      names = get_or state 2 0;
      bytes = get_or state 3 0;
      header = not (eqb (get_or state 4 0) 0);
      finished = not (eqb (get_or state 5 0) 0);
    })

abbrev pub state_words : Chunks.Stream → List ℕ
state_words r = r.start ∷ r.end ∷ r.names ∷ r.bytes ∷ cond r.header 1 0 ∷ cond r.finished 1 0 ∷ []

-- a state, where there is room for six words
unfoldable pub stored : List ℕ → List ℕ → List ℕ
stored state ws = cond (leb 6 (length state)) (sets state 0 ws) state

-- a reader that was created is refused where its state has no room
abbrev pub opened : List ℕ → Chunks.Created → Chunks.Created
opened state (Chunks.created r) = cond (ltb (length state) 6) (Chunks.Created.refused bad_state 0) (Chunks.created r)
opened state (Chunks.Created.refused n d) = Chunks.Created.refused n d

abbrev pub open_words : Chunks.Created → List ℕ
open_words (Chunks.created r) = 0 ∷ 0 ∷ 0 ∷ 0 ∷ []
open_words (Chunks.Created.refused n d) = 2 ∷ n ∷ d ∷ 0 ∷ []

abbrev pub open_state : List ℕ → Chunks.Created → List ℕ
open_state state (Chunks.created r) = stored state (state_words r)
open_state state (Chunks.Created.refused n d) = state

-- what a creation leaves: the state's words and the answer's
pub record OpenLeft (state state' answer answer' : List ℕ) (x : Chunks.Created) : Type 0 where
  pub state-is : state' ≡ open_state state x
  pub answer-is : answer' ≡ answered answer (open_words x)

abbrev pub chunk_words : Chunks.Reply → List ℕ
chunk_words (Chunks.took n) = 0 ∷ n ∷ 0 ∷ 0 ∷ []
chunk_words Chunks.done = 0 ∷ 0 ∷ 0 ∷ 0 ∷ []
chunk_words (Chunks.gives n) = 0 ∷ n ∷ 0 ∷ 0 ∷ []
chunk_words Chunks.end = 1 ∷ 0 ∷ 0 ∷ 0 ∷ []
chunk_words (Chunks.Reply.refused n d) = 2 ∷ n ∷ d ∷ 0 ∷ []
chunk_words Chunks.need_more = 3 ∷ 0 ∷ 0 ∷ 0 ∷ []

-- a refused call leaves the state's words as they were
abbrev pub kept : List ℕ → Chunks.Stream → Chunks.Reply → List ℕ
kept state r (Chunks.took n) = stored state (state_words r)
kept state r Chunks.done = stored state (state_words r)
kept state r (Chunks.gives n) = stored state (state_words r)
kept state r Chunks.end = stored state (state_words r)
kept state r (Chunks.Reply.refused n d) = state
kept state r Chunks.need_more = stored state (state_words r)

-- how a chunk reader's answer is told: the words of the state and of the answer
pub record Told (state state' answer answer' : List ℕ) (x : Chunks.Left) : Type 0 where
  pub state-is : state' ≡ kept state x.stream x.reply
  pub answer-is : answer' ≡ answered answer (chunk_words x.reply)

-- what its call leaves: those, and every lent word
pub record StreamLeft (state state' answer answer' window pool store rows : List ℕ) (x : Chunks.Left) : Type 0 where
  pub told : Told state state' answer answer' x
  pub window-is : window ≡ x.lent.window
  pub pool-is : pool ≡ x.lent.table
  pub store_is : store ≡ x.lent.store
  pub rows_is : rows ≡ x.rows

-- ---- the writer

abbrev pub reply_words : Writer.Reply → List ℕ
reply_words (Writer.wrote w) = 0 ∷ w.written ∷ w.names ∷ 0 ∷ []
reply_words (Writer.refused n d) = 2 ∷ n ∷ d ∷ 0 ∷ []

-- what a writer's call leaves: the answer's words, the output and the pool table
pub record WriteLeft (answer answer' output pool : List ℕ) (x : Writer.Left) : Type 0 where
  pub answer-is : answer' ≡ answered answer (reply_words x.reply)
  pub output-is : output ≡ x.lent.output
  pub pool-is : pool ≡ x.lent.table

-- ---- XML text

abbrev pub text_words : Xml.Reply → List ℕ
text_words (Xml.wrote n) = 0 ∷ n ∷ 0 ∷ 0 ∷ []
text_words (Xml.refused n d) = 2 ∷ n ∷ d ∷ 0 ∷ []

-- what a text writer's call leaves: the answer's words and the output
pub record XmlLeft (answer answer' output : List ℕ) (x : Xml.Left) : Type 0 where
  pub answer-is : answer' ≡ answered answer (text_words x.reply)
  pub output-is : output ≡ x.out

-- ---- nesting

abbrev pub nesting_words : Nesting.Answer → List ℕ
nesting_words Nesting.yes = 0 ∷ 1 ∷ 0 ∷ 0 ∷ []
nesting_words Nesting.no = 0 ∷ 0 ∷ 0 ∷ 0 ∷ []
nesting_words (Nesting.refused n d) = 2 ∷ n ∷ d ∷ 0 ∷ []
