-- The round trip: the grammar reads exactly the events that were written, with the lengths that they have, and then the end.
use Rattle.std.specs.Prelude.{Bool, List, [], ◌∷◌, ◌++◌, ◌≡◌, ℕ, ◌≤◌, length, drop}
use Rattle.std.proofs.Math.Option.{some}
use Rattle.std.proofs.Math.Path.{refl}
use Rattle.std.proofs.Common.{sym, ap, ◌∙◌, arith}
use Rattle.std.proofs.Math.Seq.{drop-append_seam}
use Rattle.wire.specs.Header.{u32_at, magic_bytes}
use Rattle.wire.specs.Token.{interned_new}
use Rattle.event.specs.Row.{Event}
use Rattle.grammar.specs.Grammar.{event}
use Rattle.grammar.specs.Document.{Pool, all, read_one, Reading, reads, read_f, read, events, last_pool}
use Rattle.grammar.proofs.Steps.{ending-ends, read_s, read_s-one, read-passed}
use Rattle.writer_spec.specs.Encode.{keep_rows, rows_bytes, flat, encode}
use Rattle.writer_spec.specs.Names.{kept_names}
use Rattle.writer_spec.specs.Formed.{FormedEvents}
use Rattle.writer_spec.proofs.Pooled.{pool-kept}
use Rattle.writer_spec.proofs.Wrote.{keep_rows-append, rows_bytes-append}
use Rattle.trace.specs.RoundTrip.{as_written}
use Rattle.trace.specs.Written.{Says, event-at, no-attribute, keep_rows-small}

-- ---- event by event

read_one_lem : (pool : Pool) (s : List ℕ) (e : Event) (n : ℕ) (b : Bool) → Says s pool (event all (length pool) s) e n b → read_s pool s ≡ reads e n (read_s (keep_rows pool e) (drop n s))
unfolding read_one
read_one_lem pool s e n b g = read_s-one pool s e n (keep_rows pool e) (rw (g.rows, g.names) (ending-ends e (keep_rows pool e) n b _ g.ends))

read-written : (es : List Event) (pool : Pool) → length pool ≤ interned_new → FormedEvents es → read_s pool (rows_bytes pool (flat es)) ≡ as_written pool es
unfolding flat as_written
read-written [] pool small f = unfold read_s read_f rows_bytes in refl
read-written ([] ∷ es) pool small f = absurd f.0
read-written ((r ∷ rs) ∷ es) pool small f =
    let e : Event = r ∷ rs in
    let p : Pool = keep_rows pool e in
    let rest : List ℕ = rows_bytes p (flat es) in
    let s : List ℕ = rows_bytes pool (e ++ flat es) in
    let q : s ≡ rows_bytes pool e ++ rest = rows_bytes-append e (flat es) pool in
    let n : ℕ = length (rows_bytes pool e) in
    let d : drop n s ≡ rest = rw q (drop-append_seam (rows_bytes pool e) rest) in
    read_one_lem pool s e n _ (event-at s pool r rs rest small f.0 (no-attribute es p f.1) q)
    ∙ ap (λ (x : Reading). reads e n x) (ap (read_s p) d ∙ read-written es p (keep_rows-small e pool small) f.1)

-- ---- the whole document

pub round_trip : (es : List Event) → FormedEvents es → read (encode es) ≡ as_written [] es
unfolding encode u32_at
round_trip es f = read-passed magic_bytes (rows_bytes [] (flat es)) (omega arith) refl ∙ read-written es [] (omega arith) f

-- its events, and the names at its end

as-written-events : (es : List Event) (pool : Pool) → events (as_written pool es) ≡ es
unfolding events as_written
as-written-events [] pool = refl
as-written-events (e ∷ es) pool = ap (λ (x : List Event). e ∷ x) (as-written-events es (keep_rows pool e))

as-written-pool : (es : List Event) (pool : Pool) → last_pool (as_written pool es) ≡ some (keep_rows pool (flat es))
unfolding last_pool as_written flat
as-written-pool [] pool = unfold keep_rows in refl
as-written-pool (e ∷ es) pool = as-written-pool es (keep_rows pool e) ∙ ap some (sym (keep_rows-append e (flat es) pool))

pub written-events : (es : List Event) → FormedEvents es → events (read (encode es)) ≡ es
written-events es f = rw (round_trip es f) (as-written-events es [])

pub written-names : (es : List Event) → FormedEvents es → last_pool (read (encode es)) ≡ some (kept_names es)
written-names es f = rw (round_trip es f, ← pool-kept es) (as-written-pool es [])
