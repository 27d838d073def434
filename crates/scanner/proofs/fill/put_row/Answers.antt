use Rattle.grammar.proofs.Stores.{put-turn}
use Rattle.scanner.proofs.fill.put_row.Goals as goal

pub returns : goal.returns
returns c = put-turn c.args.rows.now c.args.to _ _ _ _ _ _ _ _
