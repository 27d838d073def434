use Rattle.std.proofs.Common.{get_or, [], ◌∷◌}
use Rattle.byte_copy.proofs.Parts.{all-stored}
use Rattle.writer.proofs.notes.note.Goals as goal

pub returns-clause-notes_after : goal.returns-clause-notes_after
returns-clause-notes_after c =
    let a = c.args in
    let w = a.w.now in
    let words = get_or w 1 0 ∷ get_or w 2 0 ∷ get_or w 3 0 ∷ a.index ∷ get_or a.heads.now a.slot 0 ∷ [] in
    all-stored a.notes.now words _ a.used c.requires.used_in_bounds.0 c.copy_from_slice.ensures.after
