use Rattle.std.proofs.Common.{refl, ◌≤◌, length, le-leb}
use Rattle.std.proofs.lemmas.Bool.{lt-leb}
use Rattle.std.proofs.lemmas.List.Edits.{sets-eq}
use Rattle.abx_words.specs.QueryWords.{told_to}
use Rattle.slice_words.proofs.queries.put.Goals as goal

pub returns-in-Some : goal.returns-in-Some
unfolding told_to
returns-in-Some c =
    let room : 7 ≤ length c.args.answer.now = c.in-Some.ensures.variant.0 refl in
    rw (le-leb 7 _ room, sets-eq _ c.args.answer.now 0 room)

pub returns-in_default : goal.returns-in_default
unfolding told_to
returns-in_default c = rw (lt-leb 7 _ c.in_default.ensures.cases)
