-- The claim speaks of something: the listing's input in document 01 is what the writer made of words and stores.
use Rattle.std.specs.Prelude.{Bool, true, ◌&&◌, List, [], ◌∷◌, ◌++◌, ◌≡◌, refl, ℕ, zero, suc, replicate, ltb}
use Rattle.std.proofs.Common.{arith, ltb-true}
use Rattle.wire.specs.Header as Header
use Rattle.wire.specs.Token as Token
use Rattle.utf8.specs.Utf8 as U
use Rattle.event.specs.Laws.{both}
use Rattle.event.specs.Span as Span
use Rattle.event.specs.Row as Row
use Rattle.event.specs.Words as Words
use Rattle.grammar.specs.Grammar as G
use Rattle.grammar.specs.Example.{events, document, p, v}
use Rattle.writer_spec.specs.Encode as E
use Rattle.writer_spec.specs.Faults as F
use Rattle.writer_spec.specs.Formed.{Words32}
use Rattle.writer_spec.specs.Writer as W
use Rattle.trace.specs.Trace.{Made}

-- ---- words of 32 bits, computed

unfoldable pub small : List ℕ → Bool
small [] = true
small (w ∷ ws) = ltb w 4294967296 && small ws

small-words : (ws : List ℕ) → small ws ≡ true → Words32 ws
unfolding small
small-words [] h i = omega arith
small-words (w ∷ ws) h zero = ltb-true w 4294967296 (both (ltb w 4294967296) (small ws) h).0
small-words (w ∷ ws) h (suc i) = small-words ws (both (ltb w 4294967296) (small ws) h).1 i

-- ---- the words of the four events: the name `p` in the first store, `v` in the second

abbrev rows : List ℕ
rows =
    (Token.start_document ∷ 0 ∷ 0 ∷ 0 ∷ 0 ∷ 0 ∷ 0 ∷ 0 ∷ [])
    ++ ((Token.start_tag ∷ 0 ∷ 0 ∷ 1 ∷ 0 ∷ 0 ∷ 0 ∷ 0 ∷ [])
    ++ ((Token.attribute ∷ 1 ∷ 0 ∷ 1 ∷ Token.int ∷ 0 ∷ 0 ∷ 3 ∷ [])
    ++ ((Token.end_tag ∷ 0 ∷ 0 ∷ 1 ∷ 0 ∷ 0 ∷ 0 ∷ 0 ∷ []) ++ (Token.end_document ∷ 0 ∷ 0 ∷ 0 ∷ 0 ∷ 0 ∷ 0 ∷ 0 ∷ []))))

pub made : Made events document
unfolding small events document W.begin W.create W.write_events W.write W.refusal W.unless W.append W.sizes_bad W.state_bad W.pool_at W.meets_bad W.row_refusal W.room_refusal W.ends W.rows_refusal W.row_pairs W.rows_pairs F.string_fault F.blob_fault F.value_fault F.glue F.group E.rows_bytes E.row_bytes E.keep_rows E.keep_row E.keep E.keep_by E.find E.name_bytes E.name_by E.sized Header.be16 Header.be32 E.value_bytes E.token_type Words.list_forms Words.rows_form Words.row_forms_in Words.row_forms Words.attribute_forms Words.value_forms Words.zeros Words.opens Span.span_in Span.span Span.part Span.same Row.rows_at Row.row_at Row.value_at Row.shape Row.shapes Row.has_name U.well_formed U.octets G.most
made = record {
  lent = record { output = replicate 30 9; table = replicate 8 7 };
  fresh = record { written = 4; names = 0 };
  created-it = refl;
  first = p;
  second = v;
  rows = rows;
  words = small-words rows refl;
  says = refl;
  after = record { written = 25; names = 2 };
  took_it = refl;
  bytes = refl;
}
