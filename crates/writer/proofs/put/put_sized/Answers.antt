use Rattle.writer.proofs.Bytes.{sized-stored, sized-place}
use Rattle.writer.proofs.put.put_sized.Goals as goal

pub returns : goal.returns
returns c =
    let a = c.args in
    record { bytes = sized-stored a.output.now _ _ a.s.now a.at c.put_u16.ensures c.copy.ensures; place = sized-place a.s.now a.at }
