use native.Mathlib.Omega.{arith}
use mathlib.Core.Path.{refl, sym, ap, ◌∙◌}
use Prim.Native.Nat.{◌+◌}
use lib.ListN.{length, get_or, length-append}
use lib.Seq.{sets, length-sets}
use Rattle.wire.specs.Header.{be16}
use Rattle.event.specs.Span.{span}
use Rattle.event.specs.Row.{row_at}
use Rattle.wire.specs.Token.{interned_new}
use Rattle.writer_spec.specs.Encode.{sized}
use Rattle.writer.specs.Answers.{known_of}
use Rattle.writer.specs.Passes.{named_by}
use Rattle.writer.proofs.Values.{sized-length}
use Rattle.writer.proofs.Bytes.{in-turn, place_after, named-at, named_new, named-bare, nothing_stored}
use Rattle.writer.proofs.put.put_name.Goals as goal

pub put_u16-requires : goal.put_u16-requires
unfolding be16
put_u16-requires c =
    let a = c.args in
    let f = a.first.now in
    let s = a.second.now in
    let w = a.w.now in
    let e = ap (λ k. named_by (known_of k) (row_at f s w)) c.in-Some.is ∙ named-at f s w _ (sym c.has_name.ensures ∙ c.if-has_name.true) in
    omega (arith, ap length e, c.requires.w_in_bounds)

pub put_u16-requires-in-None : goal.put_u16-requires-in-None
unfolding be16
put_u16-requires-in-None c =
    let a = c.args in
    let f = a.first.now in
    let s = a.second.now in
    let w = a.w.now in
    let n = span f s (get_or w 1 0) (get_or w 2 0) (get_or w 3 0) in
    let e = ap (λ k. named_by (known_of k) (row_at f s w)) c.in-None.is ∙ named_new f s w (sym c.has_name.ensures ∙ c.if-has_name.true) in
    omega (arith, ap length e, length-append (be16 interned_new) (sized n), c.requires.w_in_bounds)

pub put_sized-requires : goal.put_sized-requires
unfolding be16
put_sized-requires c =
    let a = c.args in
    let f = a.first.now in
    let s = a.second.now in
    let w = a.w.now in
    let n = span f s (get_or w 1 0) (get_or w 2 0) (get_or w 3 0) in
    let e = ap (λ k. named_by (known_of k) (row_at f s w)) c.in-None.is ∙ named_new f s w (sym c.has_name.ensures ∙ c.if-has_name.true) in
    let l = ap length c.put_u16-in-None.ensures ∙ length-sets a.output.now a.at (be16 interned_new) in
    omega (arith, ap length e, length-append (be16 interned_new) (sized n), sized-length n, l, ap length c.name_in.ensures.bytes, c.requires.w_in_bounds)

pub returns-in-Some : goal.returns-in-Some
unfolding be16
returns-in-Some c =
    let a = c.args in
    let f = a.first.now in
    let s = a.second.now in
    let w = a.w.now in
    let e = ap (λ k. named_by (known_of k) (row_at f s w)) c.in-Some.is ∙ named-at f s w _ (sym c.has_name.ensures ∙ c.if-has_name.true) in
    record { bytes = c.put_u16.ensures ∙ ap (sets a.output.now a.at) (sym e); place = omega (arith, ap length e) }

pub returns-in-None : goal.returns-in-None
unfolding be16
returns-in-None c =
    let a = c.args in
    let f = a.first.now in
    let s = a.second.now in
    let w = a.w.now in
    let n = span f s (get_or w 1 0) (get_or w 2 0) (get_or w 3 0) in
    let e = ap (λ k. named_by (known_of k) (row_at f s w)) c.in-None.is ∙ named_new f s w (sym c.has_name.ensures ∙ c.if-has_name.true) in
    let stored = rw c.name_in.ensures.bytes at c.put_sized.ensures.bytes in
    let place = rw c.name_in.ensures.bytes at c.put_sized.ensures.place in
    record { bytes = in-turn a.output.now _ _ (be16 interned_new) (sized n) a.at (a.at + 2) c.put_u16-in-None.ensures refl stored ∙ ap (sets a.output.now a.at) (sym e); place = place_after (be16 interned_new) (sized n) a.at (a.at + 2) _ refl place ∙ ap (λ x. a.at + length x) (sym e) }

pub returns : goal.returns
returns c =
    let a = c.args in
    let f = a.first.now in
    let s = a.second.now in
    let w = a.w.now in
    let asked = nothing_stored a.output.now _ a.at (named-bare f s w (known_of a.known) (sym c.has_name.ensures ∙ c.if-has_name.false)) in record { bytes = asked.0; place = asked.1 }
