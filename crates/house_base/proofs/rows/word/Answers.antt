use Rattle.house_base.proofs.RowLemmas.{has-read}
use Rattle.house_base.proofs.rows.word.Goals as goal

pub returns : goal.returns
returns c = has-read c.args.words.now c.args.row c.args.at
