-- What a call leaves, as words.
use Rattle.std.proofs.Common.{List, [], ◌≡◌, refl, sym, ap, ◌∙◌, ℕ, Option, Some, None, Result, Ok, Err}
use Rattle.wire.specs.declared.Refusal.{Refusal}
use Rattle.slice_spec.specs.Slice as Slice
use Rattle.stream_spec.specs.Stream as Chunks
use Rattle.writer_spec.specs.Writer as Writer
use Rattle.xml_spec.specs.ToXml as Xml
use Rattle.slice.specs.declared.Place as Coded
use Rattle.slice.specs.declared.Event.{Event}
use Rattle.slice.specs.Answers.{next_of}
use Rattle.stream.specs.declared.Stream as State
use Rattle.stream.specs.declared.Fed.{Fed}
use Rattle.stream.specs.declared.Answer.{Answer}
use Rattle.stream.specs.Answers.{fed_of, closed_of, answer_of}
use Rattle.xml.specs.Answers.{printed_of}
use Rattle.abx_words.specs.Words.{answered, next_words, NextLeft, reply_words, chunk_words, kept, Told, StreamLeft, WriteLeft, text_words, XmlLeft}

-- ---- the slice reader

pool-of : (old : Coded.Place) (pool rows : List ℕ) (n : Result (Option Event) Refusal) → pool ≡ (next_of old pool rows n).table
pool-of old pool rows (Ok (Some e)) = refl
pool-of old pool rows (Ok None) = refl
pool-of old pool rows (Err r) = refl

rows-of : (old : Coded.Place) (pool rows : List ℕ) (n : Result (Option Event) Refusal) → rows ≡ (next_of old pool rows n).rows
rows-of old pool rows (Ok (Some e)) = refl
rows-of old pool rows (Ok None) = refl
rows-of old pool rows (Err r) = refl

pub next-left : (answer answer₁ pool rows : List ℕ) (old : Coded.Place) (n : Result (Option Event) Refusal) (y : Slice.Left)
    → ((o : Coded.Place) (t u : List ℕ) → answer₁ ≡ answered answer (next_words (next_of o t u n))) → next_of old pool rows n ≡ y
    → NextLeft answer answer₁ pool rows y
next-left answer answer₁ pool rows old n y e f = record {
  answer-is = e old pool rows ∙ ap (λ (z : Slice.Left). answered answer (next_words z)) f;
  pool-is = pool-of old pool rows n ∙ ap (λ (z : Slice.Left). z.table) f;
  rows_is = rows-of old pool rows n ∙ ap (λ (z : Slice.Left). z.rows) f;
}

-- ---- the chunk reader

-- what is lent, and the rows, whatever the answer
abbrev pub Lends : Chunks.Lent → List ℕ → Chunks.Left → Type 0
Lends l rows x = (x.lent ≡ l) × (x.rows ≡ rows)

pub fed-lends : (old : State.Stream) (l : Chunks.Lent) (f : Result Fed Refusal) → Lends l [] (fed_of old l f)
fed-lends old l (Ok x) = (refl, refl)
fed-lends old l (Err r) = (refl, refl)

pub closed-lends : (old : State.Stream) (l : Chunks.Lent) (f : Result State.Stream Refusal) → Lends l [] (closed_of old l f)
closed-lends old l (Ok s) = (refl, refl)
closed-lends old l (Err r) = (refl, refl)

pub answer-lends : (old : State.Stream) (l : Chunks.Lent) (rows : List ℕ) (f : Result Answer Refusal) → Lends l rows (answer_of old l rows f)
answer-lends old l rows (Ok (Answer.Event n s)) = (refl, refl)
answer-lends old l rows (Ok (Answer.NeedMore s)) = (refl, refl)
answer-lends old l rows (Ok (Answer.End s)) = (refl, refl)
answer-lends old l rows (Err r) = (refl, refl)

pub stream-left : (state state₁ answer answer₁ rows : List ℕ) (l : Chunks.Lent) (x y : Chunks.Left) → Told state state₁ answer answer₁ x
    → Lends l rows x → x ≡ y → StreamLeft state state₁ answer answer₁ l.window l.table l.store rows y
stream-left state state₁ answer answer₁ rows l x y t e f =
    let lent : l ≡ y.lent = sym e.0 ∙ ap (λ (z : Chunks.Left). z.lent) f in
    record {
      told = record {
        state-is = t.state-is ∙ ap (λ (z : Chunks.Left). kept state z.stream z.reply) f;
        answer-is = t.answer-is ∙ ap (λ (z : Chunks.Left). answered answer (chunk_words z.reply)) f;
      };
      window-is = ap (λ (z : Chunks.Lent). z.window) lent;
      pool-is = ap (λ (z : Chunks.Lent). z.table) lent;
      store_is = ap (λ (z : Chunks.Lent). z.store) lent;
      rows_is = sym e.1 ∙ ap (λ (z : Chunks.Left). z.rows) f;
    }

-- ---- the writer

pub write-left : (answer answer₁ output pool : List ℕ) (q : Writer.Reply) (y : Writer.Left) → answer₁ ≡ answered answer (reply_words q)
    → record { reply = q; lent = record { output = output; table = pool } } ≡ y → WriteLeft answer answer₁ output pool y
write-left answer answer₁ output pool q y e f = record {
  answer-is = e ∙ ap (λ (z : Writer.Left). answered answer (reply_words z.reply)) f;
  output-is = ap (λ (z : Writer.Left). z.lent.output) f;
  pool-is = ap (λ (z : Writer.Left). z.lent.table) f;
}

-- ---- XML text

output-of : (output : List ℕ) (p : Result ℕ Refusal) → output ≡ (printed_of output p).out
output-of output (Ok n) = refl
output-of output (Err r) = refl

pub xml-left : (answer answer₁ output : List ℕ) (p : Result ℕ Refusal) (y : Xml.Left)
    → ((o : List ℕ) → answer₁ ≡ answered answer (text_words (printed_of o p).reply)) → printed_of output p ≡ y → XmlLeft answer answer₁ output y
xml-left answer answer₁ output p y e f = record {
  answer-is = e output ∙ ap (λ (z : Xml.Left). answered answer (text_words z.reply)) f;
  output-is = output-of output p ∙ ap (λ (z : Xml.Left). z.out) f;
}
