use Rattle.std.proofs.Common.{arith}
use Rattle.listing.proofs.Stored.{put-fits, put-short}
use Rattle.listing.proofs.put_line.Goals as goal

pub returns-then-out-columns_len : goal.returns-then-out-columns_len
returns-then-out-columns_len c = put-short _ c.args.out.now (omega (arith, c.columns_len.ensures))

pub returns : goal.returns
returns c = put-fits _ c.args.out.now _ _ (omega (arith, c.columns_len.ensures)) c.put_columns.ensures
