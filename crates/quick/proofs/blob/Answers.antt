use Rattle.quick.proofs.Flats.{blob-flat}
use Rattle.quick.proofs.blob.Goals as goal

pub returns : goal.returns
returns c =
    let a = c.args in
    let e = c.in_ok-len.ensures in
    blob-flat a.s.now a.at a.base c.in_ok-len.len e.0 e.1.0
