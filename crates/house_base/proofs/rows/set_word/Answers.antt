use Rattle.std.proofs.Common.{arith}
use Rattle.house_base.proofs.RowLemmas.{has-written}
use Rattle.house_base.proofs.rows.set_word.Goals as goal

pub returns-clause-bits : goal.returns-clause-bits
returns-clause-bits c = has-written c.args.words.now.items c.args.row c.args.at c.args.word c.requires.at_below (omega arith)
