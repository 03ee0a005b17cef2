use Rattle.twin_check.proofs.RowLemmas.{chance_put}
use Rattle.twin_check.proofs.half.Chances.push.Goals as goal

pub returns : goal.returns
returns c = λ those are. chance_put c.args.self.now those c.args.chance are c.requires
