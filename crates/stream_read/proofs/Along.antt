-- A next event on its way: what was read so far, and where that leads.
use Rattle.std.specs.Prelude.{true, List, [], ◌∷◌, ◌++◌, ◌≡◌, refl, ℕ, ◌<◌, length, Contains, Option, Result, Ok, Err}
use Rattle.std.proofs.Common.{true≢false, sym, ap, ◌∙◌, arith, inl, inr, append_assoc, append-nil}
use Rattle.std.proofs.lemmas.List.Elements.{Contains-push_cases}
use Rattle.std.specs.Io.KnownBytes.{Consumes, IsAtEnd}
use Rattle.std.proofs.KnownBytes.{Consumes-nil, Consumes-trans, Consumes-kept}
use Rattle.stream_spec.specs.Stream.{Stream, Lent, Left, need_more, fed, feed, next}
use Rattle.stream.specs.Answers.{stream_of, answer_of, fed_of}
use Rattle.stream.specs.declared.Stream as Coded
use Rattle.stream.specs.declared.Answer.{Answer}
use Rattle.stream_read.specs.declared.Event.{Event}
use Rattle.stream_read.specs.declared.ReadError.{ReadError}
use Rattle.stream_read.specs.declared.ReadError.TheVariants.{Refused, Failed}
use Rattle.stream_read.specs.Onward.{Onward}
use Rattle.stream_read.specs.Fetched.{read, taken, Fetched, found_of, joined, Fetches}
use Rattle.stream_read.proofs.Needs.{Needs, needs, finish-open, feed-open, not-done, not-took}

joined-push : (chunks : List (List ℕ)) (chunk : List ℕ) → joined (chunks ++ (chunk ∷ [])) ≡ joined chunks ++ chunk
joined-push [] chunk = append-nil chunk
joined-push (c ∷ chunks) chunk = ap (λ (x : List ℕ). c ++ x) (joined-push chunks chunk) ∙ sym (append_assoc c (joined chunks) chunk)

-- the chunks that were read so far, and that what comes from here is what comes from the start
pub record Along (old new : Option (List ℕ)) (start : Stream) (l₀ : Lent) (rows₀ : List ℕ) (r : Stream) (l : Lent) (rows : List ℕ) : Type 0 where
  pub chunks : List (List ℕ)
  pub consumed : Consumes old new (joined chunks)
  pub ended : Contains chunks [] → IsAtEnd new × (r.finished ≡ true)
  pub onwards : (later : List (List ℕ)) (x : Left) → Fetched later r l rows x → Fetched (chunks ++ later) start l₀ rows₀ x

no-chunk : {X : Type 0} → Contains {X = List ℕ} [] [] → X
no-chunk h = absurd (omega (arith, h.1))

pub begins : (old : Option (List ℕ)) (r : Stream) (l : Lent) (rows : List ℕ) → Along old old r l rows r l rows
begins old r l rows =
    record { chunks = []; consumed = Consumes-nil old; ended = λ h. no-chunk h; onwards = λ later x f. f }

-- a turn that needs more, by what next and the read leave
turn : (y z : Left) (r : Stream) (l : Lent) (rows chunk : List ℕ) (later : List (List ℕ)) (x : Left) → next r l rows ≡ y → read y.stream y.lent chunk ≡ z
    → y.reply ≡ need_more → z.reply ≡ taken chunk → Fetched later z.stream z.lent y.rows x → Fetched (chunk ∷ later) r l rows x
turn y z r l rows chunk later x a b q t f = rw (a, b) (q, t, f)

module _ (old now : Option (List ℕ)) (start : Coded.Stream) (l₀ : Lent) (rows₀ : List ℕ) (reader : Coded.Stream) (l : Lent) (rows : List ℕ) (w : Along old now (stream_of start) l₀ rows₀ (stream_of reader) l rows) where
  -- it ends here
  pub here : (r : Coded.Stream) (l' : Lent) (rows' : List ℕ) (result : Result (Option Event) ReadError) → found_of r l' rows' result ≡ next (stream_of reader) l rows
      → Fetches old now start l₀ l' rows₀ rows' result
  here r l' rows' result e =
      record {
        chunks = w.chunks;
        reader = r;
        consumed = w.consumed;
        ended = λ h. (w.ended h).0;
        fetched = rw (append-nil w.chunks) at (w.onwards [] (found_of r l' rows' result) e);
      }

  module _ (s : Coded.Stream) (l₁ : Lent) (rows₁ : List ℕ) (e : answer_of reader l₁ rows₁ (Ok (Answer.NeedMore s)) ≡ next (stream_of reader) l rows) where
    abbrev y : Left
    y = answer_of reader l₁ rows₁ (Ok (Answer.NeedMore s))

    needing : Needs (stream_of reader) y
    needing = rw (sym e) at (needs (stream_of reader) l rows (sym (ap (λ (x : Left). x.reply) e)))

    -- one read more
    more : (new : Option (List ℕ)) (chunk : List ℕ) (z : Left) → Consumes now new chunk → read (stream_of s) l₁ chunk ≡ z → z.reply ≡ taken chunk
        → (chunk ≡ [] → IsAtEnd new × (z.stream.finished ≡ true)) → Along old new (stream_of start) l₀ rows₀ z.stream z.lent rows₁
    more new chunk z c b t none =
        record {
          chunks = w.chunks ++ (chunk ∷ []);
          consumed = rw (joined-push w.chunks chunk) (Consumes-trans old now new (joined w.chunks) chunk w.consumed c);
          ended = λ h. elim (Contains-push_cases w.chunks chunk [] h) [
            | inl k ↦ absurd (true≢false (sym (w.ended k).1 ∙ needing.unfinished))
            | inr k ↦ none k
          ];
          onwards = λ later x f. rw (append_assoc w.chunks (chunk ∷ []) later)
              (w.onwards (chunk ∷ later) x (turn y z (stream_of reader) l rows chunk later x (sym e) b refl t f));
        }

    module _ (new : Option (List ℕ)) (l₂ : Lent) where
      fed-more : (s' : Coded.Stream) (chunk : List ℕ) → Consumes now new chunk → 0 < length chunk
          → fed_of s l₂ (Ok (record { count = length chunk; stream = s' })) ≡ feed (stream_of s) l₁ chunk → Along old new (stream_of start) l₀ rows₀ (stream_of s') l₂ rows₁
      fed-more s' [] c some b = absurd (omega (arith, some))
      fed-more s' (x ∷ chunk) c some b = more new (x ∷ chunk) _ c (sym b) refl (λ h. absurd (omega (arith, ap length h)))

      pub read-more : (s' : Coded.Stream) → Onward now new s l₁ l₂ (Ok s') → Along old new (stream_of start) l₀ rows₀ (stream_of s') l₂ rows₁
      read-more s' (inl (c, b, over)) =
          more new [] _ c (sym b) refl
          (λ _. (over needing.room, ap (λ (x : Left). x.stream.finished) (b ∙ finish-open (stream_of s) l₁ needing.still-open)))
      read-more s' (inr (chunk, c, some, b)) = fed-more s' chunk c some b

      -- none is refused, so it fails
      pub unread : (f : ReadError) → Onward now new s l₁ l₂ (Err f) → Fetches old new start l₀ l₂ rows₀ rows₁ (Err f)
      unfolding fed
      unread (Refused f) (inl (c, b)) = not-done (ap (λ (x : Left). x.reply) (b ∙ finish-open (stream_of s) l₁ needing.still-open))
      unread (Refused f) (inr (chunk, c, b)) = not-took (ap (λ (x : Left). x.reply) (b ∙ feed-open (stream_of s) l₁ chunk needing.still-open))
      unread Failed (c, same) =
          record {
            chunks = w.chunks;
            reader = s;
            consumed = Consumes-kept old now new (joined w.chunks) w.consumed c;
            ended = λ h. absurd (true≢false (sym (w.ended h).1 ∙ needing.unfinished));
            fetched = rw same (rw (append-nil w.chunks) at (w.onwards [] y e));
          }
