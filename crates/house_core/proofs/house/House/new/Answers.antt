use Rattle.house_core.proofs.HouseLemmas.{stands_nothing}
use Rattle.house_core.proofs.house.House.new.Goals as goal

pub returns : goal.returns
returns c = stands_nothing c.args.goal _ c.new.ensures.goal c.new.ensures.says
