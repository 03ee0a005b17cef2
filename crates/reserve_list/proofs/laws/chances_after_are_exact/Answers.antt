use Rattle.reserve_list.proofs.ChanceLemmas.{chance_after-gone, chance_after-stays}
use Rattle.reserve_list.proofs.laws.chances_after_are_exact.Goals as goal

pub returns-clause-stays : goal.returns-clause-stays
returns-clause-stays c = chance_after-stays

pub returns-clause-gone : goal.returns-clause-gone
returns-clause-gone c = chance_after-gone
