use Rattle.reserve_list.proofs.OutcomeLemmas.{outcome-ranked}
use Rattle.reserve_list.proofs.laws.outcomes_make_boards.Goals as goal

pub returns : goal.returns
returns c = outcome-ranked
