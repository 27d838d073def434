use native.Mathlib.Omega.{arith}
use mathlib.Core.Path.{refl, sym, ap, ◌∙◌}
use Prim.Native.Nat.{◌+◌}
use lib.ListN.{length, get_or}
use lib.Seq.{sets}
use Rattle.wire.specs.Header.{be32}
use Rattle.event.specs.Span.{span}
use Rattle.writer_spec.specs.Encode.{sized}
use Rattle.writer.proofs.Values.{sized-length, bytes-none, bytes-long, bytes_word, bytes_pair}
use Rattle.writer.proofs.Bytes.{in-turn, nothing_stored}
use Rattle.writer.proofs.put.put_value.Goals as goal

pub put_sized-requires : goal.put_sized-requires
put_sized-requires c =
    let a = c.args in
    let f = a.first.now in
    let s = a.second.now in
    let w = a.w.now in
    let b = span f s (get_or w 5 0) (get_or w 6 0) (get_or w 7 0) in
    omega (arith, ap length (bytes-long f s w _ c.shape_of.ensures c.in-String.is), sized-length b, ap length c.value_in.ensures.bytes, c.requires.w_in_bounds)

pub put_u32-requires : goal.put_u32-requires
unfolding be32
put_u32-requires c =
    let a = c.args in
    let f = a.first.now in
    let s = a.second.now in
    let w = a.w.now in
    omega (arith, ap length (bytes_word f s w (sym c.shape_of.ensures ∙ c.in-Word.is)), c.requires.w_in_bounds)

pub put_u32-requires-in-Pair : goal.put_u32-requires-in-Pair
unfolding be32
put_u32-requires-in-Pair c =
    let a = c.args in
    let f = a.first.now in
    let s = a.second.now in
    let w = a.w.now in
    omega (arith, ap length (bytes_pair f s w (sym c.shape_of.ensures ∙ c.in-Pair.is)), c.requires.w_in_bounds)

pub put_u32-requires-in-Pair-2 : goal.put_u32-requires-in-Pair-2
unfolding be32
put_u32-requires-in-Pair-2 c =
    let a = c.args in
    let f = a.first.now in
    let s = a.second.now in
    let w = a.w.now in
    let l = c.put_u32-in-Pair.auto.output in
    omega (arith, ap length (bytes_pair f s w (sym c.shape_of.ensures ∙ c.in-Pair.is)), l, c.requires.w_in_bounds)

pub returns-in-Nothing : goal.returns-in-Nothing
returns-in-Nothing c =
    let a = c.args in
    let f = a.first.now in
    let s = a.second.now in
    let w = a.w.now in
    let asked = nothing_stored a.output.now _ a.at (bytes-none f s w _ c.shape_of.ensures c.in-Nothing.is) in record { bytes = asked.0; place = asked.1 }

pub returns-in-String : goal.returns-in-String
returns-in-String c =
    let a = c.args in
    let f = a.first.now in
    let s = a.second.now in
    let w = a.w.now in
    let e = bytes-long f s w _ c.shape_of.ensures c.in-String.is in
    record { bytes = c.put_sized.ensures.bytes ∙ ap (λ x. sets a.output.now a.at (sized x)) c.value_in.ensures.bytes ∙ ap (sets a.output.now a.at) (sym e); place = c.put_sized.ensures.place ∙ ap (λ x. a.at + length (sized x)) c.value_in.ensures.bytes ∙ ap (λ x. a.at + length x) (sym e) }

pub returns-in-Word : goal.returns-in-Word
unfolding be32
returns-in-Word c =
    let a = c.args in
    let f = a.first.now in
    let s = a.second.now in
    let w = a.w.now in
    let e = bytes_word f s w (sym c.shape_of.ensures ∙ c.in-Word.is) in
    record { bytes = c.put_u32.ensures ∙ ap (sets a.output.now a.at) (sym e); place = omega (arith, ap length e) }

pub returns-in-Pair : goal.returns-in-Pair
unfolding be32
returns-in-Pair c =
    let a = c.args in
    let f = a.first.now in
    let s = a.second.now in
    let w = a.w.now in
    let e = bytes_pair f s w (sym c.shape_of.ensures ∙ c.in-Pair.is) in
    record { bytes = in-turn a.output.now _ _ (be32 (get_or w 6 0)) (be32 (get_or w 7 0)) a.at (a.at + 4) c.put_u32-in-Pair.ensures refl c.put_u32-in-Pair-2.ensures ∙ ap (sets a.output.now a.at) (sym e); place = omega (arith, ap length e) }
