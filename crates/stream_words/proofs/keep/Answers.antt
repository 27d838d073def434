use Rattle.std.proofs.Common.{Bool, true, false, cond, ◌≡◌, refl, ◌∙◌, ◌≤◌, length, le-leb}
use Rattle.std.proofs.lemmas.Bool.{lt-leb}
use Rattle.std.proofs.lemmas.List.Edits.{sets-eq}
use mir.Val.{bool_byte}
use Rattle.abx_words.specs.Words.{stored}
use Rattle.stream_words.proofs.keep.Goals as goal

-- a flag's word
flag_is : (b : Bool) → bool_byte b ≡ cond b 1 0
flag_is true = refl
flag_is false = refl

pub returns-in-Some : goal.returns-in-Some
unfolding stored
returns-in-Some c =
    let s = c.args.stream in
    let room : 6 ≤ length c.args.state.now = c.in-Some.ensures.variant.0 refl in
    rw (
      le-leb 6 _ room,
      sets-eq _ c.args.state.now 0 room,
      c.from.ensures ∙ flag_is s.header,
      c.from-in-Some.ensures ∙ flag_is s.finished,
    )

pub returns-in_default : goal.returns-in_default
unfolding stored
returns-in_default c = rw (lt-leb 6 _ c.in_default.ensures.cases)
