-- A read that has room for its bytes: none of them is lost.
use Rattle.std.specs.Prelude.{List, ◌≡◌, ℕ, ◌-◌, ◌≤◌, length, Ok}
use Rattle.std.proofs.Common.{sym, ap, ◌∙◌, arith}
use Rattle.stream_spec.specs.Stream.{Lent, Left, Reply, took, done, gives, need_more, end, fitting, fed, feed, finish}
use Rattle.stream.specs.Answers.{stream_of, fed_of, closed_of}
use Rattle.stream.specs.declared.Stream as Coded
use Rattle.stream.specs.declared.Fed.{Fed}
use Rattle.stream_read.proofs.Needs.{took-open, feed-open, done-open, ordered}

-- how many bytes a feed took
abbrev count_of : Reply → ℕ
count_of (took n) = n
count_of done = 0
count_of (gives n) = 0
count_of need_more = 0
count_of end = 0
count_of (Reply.refused n d) = 0

pub all-fed : (r : Coded.Stream) (l l' : Lent) (chunk : List ℕ) (x : Fed) → fed_of r l' (Ok x) ≡ feed (stream_of r) l chunk
    → (r.start ≤ r.end → length chunk ≤ length l.window - (r.end - r.start))
    → fed_of r l' (Ok (record { count = length chunk; stream = x.stream })) ≡ feed (stream_of r) l chunk
unfolding fed
all-fed r l l' chunk x e fits =
    let o = took-open (stream_of r) l chunk x.count (sym (ap (λ (y : Left). y.reply) e)) in
    let n : x.count ≡ fitting (stream_of r) l chunk = ap (λ (y : Left). count_of y.reply) (e ∙ feed-open (stream_of r) l chunk o) in
    let m : length chunk ≡ x.count = omega (arith, n, fits (ordered (stream_of r) l o.state-good)) in
    rw m e

pub done-ordered : (r s : Coded.Stream) (l l' : Lent) → closed_of r l' (Ok s) ≡ finish (stream_of r) l → r.start ≤ r.end
done-ordered r s l l' e = ordered (stream_of r) l (done-open (stream_of r) l (sym (ap (λ (y : Left). y.reply) e))).state-good
